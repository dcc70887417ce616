-- What each call may rely on, and what it promises.
use Rattle.std.specs.Prelude.{◌≡◌, cond, not, Result, Ok, Err, List, [], ◌∷◌, ℕ, ◌*◌, ◌/◌, ◌≤◌, eqb, ltb, length, get_or, take}
use Rattle.rules.specs.declared.Link.{Link}
use Rattle.rules.specs.declared.Link.TheVariants.{Closed}
use Rattle.rules.specs.declared.Refusal.{Refusal}
use Rattle.rules.specs.declared.Refusal.TheVariants.{NoConnection, NoRoom, NotOpen, BadMicros}
use Rattle.rules.specs.Lists.{All}
use Rattle.rules.specs.Bytes.{written}
use Rattle.rules.specs.Units.{bad_micros}
use Rattle.rules.specs.Records.{output}
use Rattle.rules.specs.State.{Splicer, is_open, due}
use Rattle.rules.specs.Answers.{air_mux, air_feed, air_row}
use Rattle.rules.specs.HouseNumbers.{Called, refused, good, house_number, no_connection, no_room, longest_section, buffer_after}
use Rattle.rules.specs.Calls.{due_row}
use Rattle.rules.specs.Listing.{started_state, waiting_state, row_width, session_rows, held_rows, held_number}
use Rattle.rules.specs.HouseNumbers as numbers
use Rattle.rules.specs.Follows.Sound.{Proper, Small, Reached}
use Rattle.memory.specs.declared.Which.{Which}
use Rattle.memory.specs.declared.Which.TheVariants.{Waiting, Started}
use Rattle.memory.specs.Memory.{sessions, see, shifted, Form, Whole, shown, tallied}
use Rattle.reply.specs.declared.Did.{Did}

-- "A splicer is what fresh and the calls since have given; a call may rely on that and on nothing else."
pub record Lent (m b : List ℕ) : Type 0 where
  pub whole : Whole m b
  pub reached : Reached (shown m b)

-- what a call answers: what it did, or its refusal
abbrev pub Answer : Type 0
Answer = Result Did Refusal

-- what a test says: the call may go on, or its refusal
abbrev pub Tested : Type 0
Tested = Result (Unit {0}) Refusal

-- an answer of document 01 as the code has it: the refusal, or the bytes consumed and written; 02, CR 11: and the places shifted
unfoldable pub answer_of : numbers.Answer → (moved : ℕ) → Answer
answer_of (refused n) moved = Err n
answer_of (good consumed rs) moved = Ok (record { consumed = consumed; written = length (output rs); moved = moved })

-- "A refusal returns its number": its house number, or 0 and the bytes consumed and written; 02, CR 11: and the places shifted
unfoldable pub reply_of : Answer → List ℕ
reply_of (Err n) = house_number n ∷ 0 ∷ 0 ∷ 0 ∷ []
reply_of (Ok did) = 0 ∷ did.consumed ∷ did.written ∷ did.moved ∷ []

-- what a call promises: the memory m and b shows the splicer after the call, the answer is the call's, and so is the whole
-- content o of the output buffer, which held e; the ring, which ended at the place `at`, has moved on with an acceptance alone
pub record Answers (c : Called) (at : ℕ) (e : List ℕ) (r : Answer) (m b o : List ℕ) : Type 0 where
  pub lent : Lent m b
  pub splicer : shown m b ≡ c.splicer
  pub ring : (see m).ring_end ≡ shifted c.accepted at
  pub answer : r ≡ answer_of c.answer c.moved
  pub buffer : o ≡ buffer_after c.answer e

-- the same of a call of the splicer that the memory m and b showed, lent the buffer e; n, c and o: the memory and the buffer after it
abbrev pub Makes : (ℕ → Splicer → Called) → (m b e : List ℕ) → Answer → (n c o : List ℕ) → Type 0
Makes k m b e r n c o = Answers (k (length e) (shown m b)) (see m).ring_end e r n c o

-- 02, CR 6: of what is lent of two lengths, where n have started: a section over 1,024 bytes (10), or that of the feed on air
abbrev pub needed : {A : Type 0} → (primary insertion n : ℕ) → A → A → A
needed primary insertion n x y = cond (ltb longest_section primary) x (cond (ltb longest_section insertion) y (cond (eqb n 0) x y))

-- "2: output buffer below 4,096 bytes"
unfoldable pub room_test : ℕ → Tested
room_test room = cond (no_room room) (Err NoRoom) (Ok tt)

-- "8: MicroSeconds above 999,999"
unfoldable pub micros_test : ℕ → Tested
micros_test micros = cond (bad_micros micros) (Err BadMicros) (Ok tt)

-- "close 1, 2, 7; message 1, 2, 7": what the two test before their work, by the states of the connections
unfoldable pub open_test : ℕ → ℕ → List Link → Tested
open_test c room links =
    cond (no_connection c) (Err NoConnection)
    (cond (no_room room) (Err NoRoom)
    (cond (not (is_open (get_or links c Closed))) (Err NotOpen) (Ok tt)))

-- 02, CR 5: the value r that is read of the memory m and b: "that of the one on air, 5 with none"
abbrev pub ReadsMux : (m b : List ℕ) (r : ℕ) → Type 0
ReadsMux m b r = r ≡ air_mux (shown m b).queue.started

-- 02, CR 6: the feed r that is read of them: "whichever feed is on air"
abbrev pub ReadsFeed : (m b : List ℕ) (r : ℕ) → Type 0
ReadsFeed m b r = r ≡ air_feed (shown m b).queue.started

-- 02, CR 2: the four waiting counts r that are read of the memory m and b
abbrev pub Counts : (m b r : List ℕ) → Type 0
Counts m b r = r ≡ tallied (shown m b).queue.waiting

-- 02, CR 13: the primary sum r that is read of them
abbrev pub Primary : (m b : List ℕ) → (r : ℕ) → Type 0
Primary m b r = r ≡ (shown m b).primary

-- the one on air, as it is read of them in nine words r
abbrev pub ReadsAir : (m b r : List ℕ) → Type 0
ReadsAir m b r = r ≡ air_row (shown m b).queue.started

-- when a tick would do anything, as it is read of them in four words r
abbrev pub ReadsDue : (m b r : List ℕ) → Type 0
ReadsDue m b r = r ≡ due_row (due (shown m b).queue)

-- the sessions as rows: how many are held, and what the lent words hold after, of which as many rows as there is room for are filled
pub record ReadsSessions (m b lent : List ℕ) (r : ℕ) (after : List ℕ) : Type 0 where
  pub number : r ≡ held_number (shown m b).queue
  pub rows : after ≡ written lent 0 (held_rows (length lent / row_width) (shown m b).queue)

-- the state of the i-th of a list
unfoldable pub state_of : Which → ℕ → ℕ
state_of Waiting = waiting_state
state_of Started = started_state

-- what is asked to fill n rows with the first n of a list: the words are there, and each number is as narrow as its half of a word
pub record Listable (which : Which) (n : ℕ) (m lent : List ℕ) : Type 0 where
  pub form : Form m
  pub few : n ≤ 64
  pub held : n ≤ length (sessions which m)
  pub room : n * row_width ≤ length lent
  pub proper : All Proper (sessions which m)
  pub small : All Small (sessions which m)

-- what is then lent
abbrev pub Lists : (which : Which) (n : ℕ) (m lent after : List ℕ) → Type 0
Lists which n m lent after = after ≡ written lent 0 (session_rows (state_of which) (take n (sessions which m)))

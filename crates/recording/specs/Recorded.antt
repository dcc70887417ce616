-- 02, CR 14: what its theorems speak of: recordings that our own card program could have made, and what belongs to which call of any
-- recording.
use Rattle.std.specs.Prelude.{◌≡◌, Bool, true, false, cond, ◌&&◌, ◌||◌, List, [], ◌∷◌, ◌++◌, map, ℕ, zero, suc, ◌+◌, ◌≤◌, ◌<◌, eqb, length}
use Rattle.std.specs.Prelude.{get_or, take, drop}
use Rattle.rules.specs.Lists.{same}
use Rattle.rules.specs.State.{Splicer}
use Rattle.rules.specs.Records.{record_bytes}
use Rattle.rules.specs.HouseNumbers.{Answer, refused, good}
use Rattle.rules.specs.Calls.{Call, call}
use Rattle.rules.specs.Follows.Sequences.{answers}
use Rattle.rules.specs.Card.{Next, calls, ends, stops, next, told}
use Rattle.recording.specs.declared.Entry.TheVariants.{Made, Wrote}
use Rattle.recording.specs.Recording.{marks_call, marks_record, span, entry_in, Item, made, wrote, cut, another, start, begins, longest}

-- ## "Every recording of that length that our own card program could have made"

-- for each call that the card program makes of its input, the bytes of the call, and then what it writes
unfoldable pub recorded_by : (Splicer → List ℕ → List ℕ) → Next → Splicer → List ℕ → List ℕ
recorded_by on stops s l = []
recorded_by on (ends k) s l = take (span l) l ++ told (call k s).answer
recorded_by on (calls k left) s l = take (span l) l ++ (told (call k s).answer ++ on (call k s).splicer left)

unfoldable pub recorded_run : ℕ → Splicer → List ℕ → List ℕ
recorded_run zero s l = []
recorded_run (suc n) s l = recorded_by (recorded_run n) (next l) s l

-- of the input l, the first n calls
unfoldable pub recorded_up_to : ℕ → List ℕ → List ℕ
recorded_up_to n l = recorded_run n start.splicer l

-- all of them: there are fewer calls than bytes
unfoldable pub recorded : List ℕ → List ℕ
recorded l = recorded_up_to (length l) l

-- the first m bytes of it end behind all due records of a call: they are the recording of some calls
pub record Behind (l : List ℕ) (m : ℕ) : Type 0 where
  pub calls : ℕ
  pub are : take m (recorded l) ≡ recorded_up_to calls l

-- what the card program leaves of its input
unfoldable pub unread_by : (List ℕ → List ℕ) → Next → List ℕ → List ℕ
unread_by on stops l = l
unread_by on (ends k) l = drop (span l) l
unread_by on (calls k left) l = on left

unfoldable pub unread_run : ℕ → List ℕ → List ℕ
unread_run zero l = l
unread_run (suc n) l = unread_by (unread_run n) (next l) l

unfoldable pub unread : List ℕ → List ℕ
unread l = unread_run (length l) l

-- what is written for a call, record by record
unfoldable pub pieces : Answer → List (List ℕ)
pieces (refused n) = told (refused n) ∷ []
pieces (good consumed rs) = map record_bytes rs

-- ## The parts of a recording

-- all its bytes
unfoldable pub bytes_of : List Item → List ℕ
bytes_of [] = []
bytes_of (made c ∷ es) = c ++ bytes_of es
bytes_of (wrote w ∷ es) = w ++ bytes_of es
bytes_of (cut l ∷ es) = l ++ bytes_of es
bytes_of (another l ∷ es) = l ++ bytes_of es

-- the bytes of its calls, one behind the other; a cut one is none
unfoldable pub made_bytes : List Item → List ℕ
made_bytes [] = []
made_bytes (made c ∷ es) = c ++ made_bytes es
made_bytes (wrote w ∷ es) = made_bytes es
made_bytes (cut l ∷ es) = made_bytes es
made_bytes (another l ∷ es) = made_bytes es

-- the bytes of its records
unfoldable pub wrote_bytes : List Item → List ℕ
wrote_bytes [] = []
wrote_bytes (made c ∷ es) = wrote_bytes es
wrote_bytes (wrote w ∷ es) = w ++ wrote_bytes es
wrote_bytes (cut l ∷ es) = wrote_bytes es
wrote_bytes (another l ∷ es) = wrote_bytes es

-- its last entry is cut
unfoldable pub ends_cut : List Item → Bool
ends_cut [] = false
ends_cut (made c ∷ es) = ends_cut es
ends_cut (wrote w ∷ es) = ends_cut es
ends_cut (cut l ∷ es) = true
ends_cut (another l ∷ es) = false

-- behind an oversize message the card program stops
unfoldable pub is_last : Next → Bool
is_last (calls k left) = false
is_last (ends k) = true
is_last stops = true

unfoldable pub has_oversize : List Item → Bool
has_oversize [] = false
has_oversize (made c ∷ es) = is_last (next c) || has_oversize es
has_oversize (wrote w ∷ es) = has_oversize es
has_oversize (cut l ∷ es) = has_oversize es
has_oversize (another l ∷ es) = has_oversize es

-- ## What belongs to which call

unfoldable pub call_of : Next → List Call
call_of (calls k left) = k ∷ []
call_of (ends k) = k ∷ []
call_of stops = []

-- its calls, numbered from 1
unfoldable pub calls_in : List Item → List Call
calls_in [] = []
calls_in (made c ∷ es) = call_of (next c) ++ calls_in es
calls_in (wrote w ∷ es) = calls_in es
calls_in (cut l ∷ es) = []
calls_in (another l ∷ es) = []

-- the records written after call i and before the next: "Records before any call are call 0's."
unfoldable pub wrote_after : List Item → ℕ → List ℕ
wrote_after [] i = []
wrote_after (made c ∷ es) zero = []
wrote_after (made c ∷ es) (suc i) = wrote_after es i
wrote_after (wrote w ∷ es) zero = w ++ wrote_after es zero
wrote_after (wrote w ∷ es) (suc i) = wrote_after es (suc i)
wrote_after (cut l ∷ es) i = []
wrote_after (another l ∷ es) i = []

-- the records due of call i, by the calls alone; d: those of call 0
unfoldable pub due_from : List ℕ → Splicer → List Item → ℕ → List ℕ
due_from d s es i = get_or (d ∷ map told (answers (calls_in es) s)) i []

unfoldable pub due_after : List Item → ℕ → List ℕ
due_after es i = due_from [] start.splicer es i

-- whether the written records v are the due ones d of call i: all of them, or the beginning if the recording is cut and i is its last call
unfoldable pub right_by : List Item → ℕ → (v d : List ℕ) → Bool
right_by es i v d = cond (ends_cut es && eqb i (length (calls_in es))) (begins v d) (same v d)

unfoldable pub right : List Item → ℕ → Bool
right es i = right_by es i (wrote_after es i) (due_after es i)

-- ## Places

-- an entry of l begins at the place i
pub data Begin (l : List ℕ) : ℕ → Type 0 where
  first : Begin l 0
  after_call : {i n : ℕ} → Begin l i → entry_in (drop i l) ≡ Made n → Begin l (i + n)
  after_record : {i n : ℕ} → Begin l i → entry_in (drop i l) ≡ Wrote n → Begin l (i + n)

-- a recording that is read, and at the place i of it an entry begins with another mark
pub record Strange (l : List ℕ) (i : ℕ) : Type 0 where
  pub read : length l ≤ longest
  pub begin : Begin l i
  pub inside : i < length l
  pub no_call : marks_call (get_or l i 0) ≡ false
  pub no_record : marks_record (get_or l i 0) ≡ false

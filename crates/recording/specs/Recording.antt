-- 02, CR 14: a bench recording, and what the checker finds in it. What is due is what the card program writes (rules' specs/Card).
use Rattle.std.specs.Prelude.{Bool, cond, ◌||◌, List, [], ◌∷◌, ℕ, zero, suc, ◌+◌, eqb, ltb, length, take, drop, Option, Some, None}
use Rattle.rules.specs.Lists.{same}
use Rattle.rules.specs.Bytes.{message_size, oversize, padded}
use Rattle.rules.specs.State.{Splicer}
use Rattle.rules.specs.Calls.{Call, call, fresh}
use Rattle.rules.specs.Card.{card_name, open_mark, close_mark, message_mark, tick_mark, mark_in, message_from}
use Rattle.rules.specs.Card.{mark_end, tick_end, header_end, message_end, Next, calls, ends, stops, next, told}
use Rattle.recording.specs.declared.Entry.{Entry}
use Rattle.recording.specs.declared.Entry.TheVariants.{Made, Wrote, Cut, Another, End}
use Rattle.recording.specs.declared.Finding.{Finding}
use Rattle.recording.specs.declared.Finding.TheVariants.{Longer, Unknown, Differs}

-- ## Entries: "in the card program's marks, of calls and of the records another splicer wrote after each"

-- what is written after a call: "a refusal is 0x45 and the number", and "a two-byte mark: 0x52, and the connection it is for"
abbrev pub refusal_mark : ℕ
refusal_mark = 0x45

abbrev pub record_mark : ℕ
record_mark = 0x52

abbrev pub marks_call : ℕ → Bool
marks_call x = eqb x open_mark || (eqb x close_mark || (eqb x message_mark || eqb x tick_mark))

abbrev pub marks_record : ℕ → Bool
marks_record x = eqb x refusal_mark || eqb x record_mark

abbrev pub marks_message : ℕ → Bool
marks_message x = eqb x message_mark || eqb x record_mark

-- the bytes of a message with its mark: the header, and with the header what that says.
-- "A message header with MessageSize above 4,088 ends its record."
abbrev pub message_span : List ℕ → ℕ
message_span l =
    cond (ltb (length l) header_end || oversize (message_from l)) header_end (message_end (message_size (message_from l)))

-- the bytes that the mark and the header of an entry ask for
unfoldable pub span : List ℕ → ℕ
span l = cond (marks_message (mark_in l)) (message_span l) (cond (eqb (mark_in l) tick_mark) tick_end mark_end)

-- l has them, or is cut
abbrev pub whole : List ℕ → (ℕ → Entry) → Entry
whole l e = cond (ltb (length l) (span l)) Cut (e (span l))

-- the entry that l begins with: a mark counts before what it asks for is missed
unfoldable pub entry_in : List ℕ → Entry
entry_in l =
    cond (eqb (length l) 0) End
    (cond (marks_call (mark_in l)) (whole l Made)
    (cond (marks_record (mark_in l)) (whole l Wrote)
    Another))

-- an entry with its bytes; a cut one and one with another mark, with all that is left
pub data Item : Type 0 where
  made : List ℕ → Item
  wrote : List ℕ → Item
  cut : List ℕ → Item
  another : List ℕ → Item

-- what follows an entry of l: nothing, or what `on` gives of the bytes behind it
unfoldable pub entries_by : (List ℕ → List Item) → Entry → List ℕ → List Item
entries_by on (Made n) l = made (take n l) ∷ on (drop n l)
entries_by on (Wrote n) l = wrote (take n l) ∷ on (drop n l)
entries_by on Cut l = cut l ∷ []
entries_by on Another l = another l ∷ []
entries_by on End l = []

-- n entries at most
unfoldable pub entries_run : ℕ → List ℕ → List Item
entries_run zero l = []
entries_run (suc n) l = entries_by (entries_run n) (entry_in l) l

-- each takes two bytes or more, or is the last
unfoldable pub entries : List ℕ → List Item
entries l = entries_run (length l) l

-- ## Findings

-- the house numbers, and no number otherwise
abbrev pub house_number : Option Finding → ℕ
house_number (Some Longer) = 15
house_number (Some (Unknown i)) = 14
house_number (Some (Differs n)) = 0
house_number None = 0

-- what is known between two entries: the splicer, the number of the last call, and what is still due of its records
pub record Bench : Type 0 where
  pub splicer : Splicer
  pub number : ℕ
  pub due : List ℕ

-- "Records before any call are call 0's": nothing is due of it
unfoldable pub start : Bench
start = record { splicer = (fresh (padded card_name)).splicer; number = 0; due = [] }

-- the next call is made, refused or not; its due records are those that the card program writes
unfoldable pub called : Call → Bench → Bench
called k g =
    let c = call k g.splicer in
    record { splicer = c.splicer; number = suc g.number; due = told c.answer }

-- the call of an entry is the card program's; that one stops behind an oversize header, the checker does not
unfoldable pub called_by : Next → Bench → Bench
called_by (calls k left) g = called k g
called_by (ends k) g = called k g
called_by stops g = g

-- the first n bytes of what is due were written
unfoldable pub taken : ℕ → Bench → Bench
taken n g = record { splicer = g.splicer; number = g.number; due = drop n g.due }

-- w is the beginning of d
unfoldable pub begins : List ℕ → List ℕ → Bool
begins w d = same w (take (length w) d)

unfoldable pub is_nothing : List ℕ → Bool
is_nothing d = eqb (length d) 0

-- "names the first call whose records aren't those that the rules give, or says that there is none": a record is the beginning of what is
-- due; at the next call, and at the end, nothing is due any more. "A cut last record is dropped, and the last call before it then needs
-- only the beginning of its due records": there nothing is asked.
unfoldable pub judged : Bench → List Item → Option Finding
judged g [] = cond (is_nothing g.due) None (Some (Differs g.number))
judged g (made c ∷ es) = cond (is_nothing g.due) (judged (called_by (next c) g) es) (Some (Differs g.number))
judged g (wrote w ∷ es) = cond (begins w g.due) (judged (taken (length w) g) es) (Some (Differs g.number))
judged g (cut l ∷ es) = None
judged g (another l ∷ es) = None

-- "an unknown mark anywhere, with its place": counted from `at` on
unfoldable pub unknown_from : ℕ → List Item → Option Finding
unknown_from at [] = None
unknown_from at (made c ∷ es) = unknown_from (at + length c) es
unknown_from at (wrote w ∷ es) = unknown_from (at + length w) es
unknown_from at (cut l ∷ es) = None
unknown_from at (another l ∷ es) = Some (Unknown at)

unfoldable pub first_unknown : List ℕ → Option Finding
first_unknown l = unknown_from 0 (entries l)

-- "both before any finding"
unfoldable pub before : Option Finding → Option Finding → Option Finding
before None f = f
before (Some u) f = Some u

-- "It reads up to 65,536 bytes."
abbrev pub longest : ℕ
longest = 65536

-- "Refusals: house number 15 for a longer recording; then 14 for an unknown mark anywhere, with its place; both before any finding."
unfoldable pub checked : List ℕ → Option Finding
checked l = cond (ltb longest (length l)) (Some Longer) (before (first_unknown l) (judged start (entries l)))

-- 01, Calls and house numbers: what a call gives, and the tests behind the numbers.
use Rattle.std.specs.Prelude.{Bool, false, not, ◌||◌, List, [], ℕ, ltb, length}
use Rattle.rules.specs.declared.Refusal.{Refusal}
use Rattle.rules.specs.declared.Refusal.TheVariants.{NoConnection, NoRoom, ClockBack, Oversize, Short, AlreadyOpen, NotOpen}
use Rattle.rules.specs.declared.Refusal.TheVariants.{BadMicros, BadName, Counter, LongSection, BadSection, NotSixteen}
use Rattle.rules.specs.Bytes.{written}
use Rattle.rules.specs.State.{Splicer, link_of, is_open}
use Rattle.rules.specs.Records.{Record, output}
use Rattle.rules.specs.Answers.{Answered}

-- the table of house numbers
unfoldable pub house_number : Refusal → ℕ
house_number NoConnection = 1
house_number NoRoom = 2
house_number ClockBack = 3
house_number Oversize = 4
house_number Short = 5
house_number AlreadyOpen = 6
house_number NotOpen = 7
house_number BadMicros = 8
house_number BadName = 9
-- 02, CR 9
house_number Counter = 12
-- 02, CR 7
house_number BadSection = 11
-- 02, CR 6
house_number LongSection = 10
-- 02, CR 8: the page's alone, no call's
house_number NotSixteen = 16

-- "A good call returns the bytes written, and message also the bytes consumed." "A refusal returns its number, writes nothing,
-- consumes nothing"
pub data Answer : Type 0 where
  refused : Refusal → Answer
  good : (consumed : ℕ) (records : List Record) → Answer

-- the splicer after a call, and what the call answers; 02, CR 11: whether it accepted a request, and "how many places an acceptance
-- shifts": "Report that number with the call."
pub record Called : Type 0 where
  pub splicer : Splicer
  pub answer : Answer
  pub accepted : Bool
  pub moved : ℕ

-- "and changes no state"
abbrev pub refuse : Refusal → Splicer → Called
refuse n s = record { splicer = s; answer = refused n; accepted = false; moved = 0 }

abbrev pub does : ℕ → List Record → Splicer → Called
does consumed rs s = record { splicer = s; answer = good consumed rs; accepted = false; moved = 0 }

-- a message of that many bytes was answered
abbrev pub replies : ℕ → Answered → Called
replies consumed a =
    record { splicer = a.splicer; answer = good consumed a.written; accepted = a.accepted; moved = a.moved }

-- what an answer writes into the output buffer
unfoldable pub written_by : Answer → List ℕ
written_by (refused n) = []
written_by (good consumed rs) = output rs

unfoldable pub consumed_by : Answer → ℕ
consumed_by (refused n) = 0
consumed_by (good consumed rs) = consumed

-- "bytes beyond those written stay unchanged": what a lent output buffer holds after a call that held e before it
unfoldable pub buffer_after : Answer → List ℕ → List ℕ
buffer_after a e = written e 0 (written_by a)

-- 1: "connection above 3"
abbrev pub no_connection : ℕ → Bool
no_connection c = ltb 3 c

-- 2: "output buffer below 4,096 bytes"; room: its length
abbrev pub no_room : ℕ → Bool
no_room room = ltb room 4096

-- 7: "not open"
abbrev pub not_open : ℕ → Splicer → Bool
not_open c s = not (is_open (link_of c s))

-- what a message call is lent; room: the length of its output buffer; 02, CR 6: "the caller lends both sections, the primary's and the
-- insertion's"
pub record Loans : Type 0 where
  pub room : ℕ
  pub primary : List ℕ
  pub insertion : List ℕ

abbrev pub lending_maps : (primary insertion : List ℕ) (room : ℕ) → Loans
lending_maps primary insertion room = record { room = room; primary = primary; insertion = insertion }

-- empty sections
abbrev pub lending : ℕ → Loans
lending room = lending_maps [] [] room

-- 02, CR 6, 10: "for a lent section over 1,024 bytes"
abbrev pub longest_section : ℕ
longest_section = 1024

abbrev pub long_section : Loans → Bool
long_section loans = ltb longest_section (length loans.primary) || ltb longest_section (length loans.insertion)

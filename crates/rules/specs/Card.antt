-- 01, "The card program": a function from all input bytes to all output bytes.
use Rattle.std.specs.Prelude.{cond, List, [], ◌∷◌, ◌++◌, ℕ, zero, suc, ◌+◌, eqb, ltb, length, drop}
use Rattle.rules.specs.Bytes.{part, field, message_size, oversize, padded}
use Rattle.rules.specs.State.{Splicer}
use Rattle.rules.specs.HouseNumbers.{Answer, refused, good, written_by, house_number, Loans, lending}
use Rattle.rules.specs.Calls.{fresh, Call, opens, closes, messages, ticks, call}

-- "ChannelName is "CH1"."
unfoldable pub card_name : List ℕ
card_name = 0x43 ∷ 0x48 ∷ 0x31 ∷ []

-- the card's output buffer
abbrev pub card_room : ℕ
card_room = 4096

-- what it lends a message call; 02, CR 6: "The card program lends empty sections."
abbrev pub card_loans : Loans
card_loans = lending card_room

-- a call with the input behind it, or the last call, or none
pub data Next : Type 0 where
  calls : Call → List ℕ → Next
  ends : Call → Next
  stops : Next

-- ## What stands where in a record: "0x4F connection (open), 0x43 connection (close), 0x4D connection and one message, 0x54 0x00 and
-- Seconds 4, MicroSeconds 4 (tick; the 0x00 isn't read)"

-- "It reads standard input: 0x4F connection (open)"
abbrev pub open_mark : ℕ
open_mark = 0x4F

-- "0x43 connection (close)"
abbrev pub close_mark : ℕ
close_mark = 0x43

-- "0x4D connection and one message"
abbrev pub message_mark : ℕ
message_mark = 0x4D

-- "0x54 0x00 and Seconds 4, MicroSeconds 4"
abbrev pub tick_mark : ℕ
tick_mark = 0x54

abbrev pub mark_in : List ℕ → ℕ
mark_in l = field 0 1 l

abbrev pub conn_in : List ℕ → ℕ
conn_in l = field 1 1 l

abbrev pub message_from : List ℕ → List ℕ
message_from l = drop 2 l

abbrev pub seconds_in : List ℕ → ℕ
seconds_in l = field 2 4 l

abbrev pub micros_in : List ℕ → ℕ
micros_in l = field 6 4 l

-- where it ends: an open or a close, a tick, the header of a message, and a message of that MessageSize
abbrev pub mark_end : ℕ
mark_end = 2

abbrev pub tick_end : ℕ
tick_end = 10

abbrev pub header_end : ℕ
header_end = 10

abbrev pub message_end : ℕ → ℕ
message_end size = header_end + size

-- ## What is made of it

-- l has n bytes, or is cut
abbrev pub whole : ℕ → List ℕ → Next → Next
whole n l x = cond (ltb (length l) n) stops x

-- "at a message header with MessageSize above 4,088 it makes the call, writes the refusal and stops"
unfoldable pub next_message : List ℕ → Next
next_message l =
    let m = message_from l in
    let size = message_size m in
    whole header_end l
    (cond (oversize m) (ends (messages (conn_in l) (part 0 8 m) card_loans))
    (whole (message_end size) l (calls (messages (conn_in l) (part 0 (8 + size) m) card_loans) (drop (message_end size) l))))

-- "(tick; the 0x00 isn't read)"
unfoldable pub next_tick : List ℕ → Next
next_tick l = whole tick_end l (calls (ticks (seconds_in l) (micros_in l) card_room) (drop tick_end l))

-- "It stops at the end, a cut record or another mark"
unfoldable pub next : List ℕ → Next
next l =
    whole mark_end l
    (cond (eqb (mark_in l) open_mark) (calls (opens (conn_in l)) (drop mark_end l))
    (cond (eqb (mark_in l) close_mark) (calls (closes (conn_in l) card_room) (drop mark_end l))
    (cond (eqb (mark_in l) message_mark) (next_message l)
    (cond (eqb (mark_in l) tick_mark) (next_tick l) stops))))

-- "It writes each call's output; a refusal is 0x45 and the number."
unfoldable pub told : Answer → List ℕ
told (refused n) = 0x45 ∷ house_number n ∷ []
told (good consumed rs) = written_by (good consumed rs)

-- what follows a call's output: nothing, or what `on` gives of the splicer after it and the rest of the input
unfoldable pub card_step : (Splicer → List ℕ → List ℕ) → Next → Splicer → List ℕ
card_step on stops s = []
card_step on (ends k) s = told (call k s).answer
card_step on (calls k l) s = told (call k s).answer ++ on (call k s).splicer l

-- n calls at most
unfoldable pub card_run : ℕ → Splicer → List ℕ → List ℕ
card_run zero s l = []
card_run (suc n) s l = card_step (card_run n) (next l) s

-- each call takes two bytes or more, so there are fewer calls than bytes
unfoldable pub card : List ℕ → List ℕ
card l = card_run (length l) (fresh (padded card_name)).splicer l

-- One record of the card program's input, and what it is in document 01's words (rules' specs/Card).
use Rattle.std.specs.Prelude.{Bool, true, false, cond, List, ◌++◌, ℕ, ◌+◌, eqb, ltb, length, drop}
use Rattle.rules.specs.Bytes.{part, message_size, oversize}
use Rattle.rules.specs.Calls.{opens, closes, messages, ticks}
use Rattle.rules.specs.State.{Splicer}
use Rattle.rules.specs.Card.{open_mark, close_mark, message_mark, tick_mark, mark_in, conn_in, message_from, seconds_in, micros_in}
use Rattle.rules.specs.Card.{mark_end, tick_end, header_end, message_end, Next, calls, ends, stops, card_room, card_loans, card_run}
use Rattle.feed.specs.declared.Record.{Record}
use Rattle.feed.specs.declared.Record.TheVariants.{Open, Close, Message, Oversize, Tick, Cut, Unknown}

-- l has n bytes, or is cut
abbrev pub whole : ℕ → List ℕ → Record → Record
whole n l r = cond (ltb (length l) n) Cut r

-- the MessageSize of a message
abbrev pub size_in : List ℕ → ℕ
size_in l = message_size (message_from l)

-- a message with its header, or only the header of one that is too long
abbrev pub message_in : List ℕ → Record
message_in l =
    whole header_end l
    (cond (oversize (message_from l)) (Oversize (conn_in l))
    (whole (message_end (size_in l)) l (Message (conn_in l) (size_in l))))

abbrev pub tick_in : List ℕ → Record
tick_in l = whole tick_end l (Tick (seconds_in l) (micros_in l))

-- the record that l begins with
unfoldable pub record_in : List ℕ → Record
record_in l =
    whole mark_end l
    (cond (eqb (mark_in l) open_mark) (Open (conn_in l))
    (cond (eqb (mark_in l) close_mark) (Close (conn_in l))
    (cond (eqb (mark_in l) message_mark) (message_in l)
    (cond (eqb (mark_in l) tick_mark) (tick_in l) Unknown))))

-- the call that a record of l is
unfoldable pub next_of : Record → List ℕ → Next
next_of (Open c) l = calls (opens c) (drop mark_end l)
next_of (Close c) l = calls (closes c card_room) (drop mark_end l)
next_of (Message c size) l = calls (messages c (part 0 (8 + size) (message_from l)) card_loans) (drop (message_end size) l)
next_of (Oversize c) l = ends (messages c (part 0 8 (message_from l)) card_loans)
next_of (Tick s u) l = calls (ticks s u card_room) (drop tick_end l)
next_of Cut l = stops
next_of Unknown l = stops

-- the bytes that a record takes
unfoldable pub used_by : Record → ℕ
used_by (Open c) = mark_end
used_by (Close c) = mark_end
used_by (Message c size) = message_end size
used_by (Oversize c) = header_end
used_by (Tick s u) = tick_end
used_by Cut = 0
used_by Unknown = 0

-- more bytes may make a record of it
unfoldable pub is_cut : Record → Bool
is_cut (Open c) = false
is_cut (Close c) = false
is_cut (Message c size) = false
is_cut (Oversize c) = false
is_cut (Tick s u) = false
is_cut Cut = true
is_cut Unknown = false

-- the same call, with m behind the rest of the input
unfoldable pub behind : List ℕ → Next → Next
behind m (calls k l) = calls k (l ++ m)
behind m (ends k) = ends k
behind m stops = stops

-- what the card program writes from the splicer s on for the input l
unfoldable pub rest : Splicer → List ℕ → List ℕ
rest s l = card_run (length l) s l

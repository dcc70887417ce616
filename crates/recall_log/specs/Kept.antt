-- 02, CR 12: what the log keeps of a call, and the log after it.
use Rattle.std.specs.Prelude.{Option, None, Some, Result, Ok, Err}
use Rattle.std.specs.Prelude.{◌≡◌, Bool, true, false, cond, List, [], ◌∷◌, ◌++◌, ℕ, ◌+◌, ◌≤◌, ltb, length, take, drop, replicate}
use Rattle.rules.specs.Lists.{put}
use Rattle.rules.specs.Bytes.{bytes, part, message_size, written}
use Rattle.rules.specs.Records.{output}
use Rattle.rules.specs.HouseNumbers.{Answer, refused, good, house_number}
use Rattle.rules.specs.Calls.{Call, opens, closes, messages, ticks, moves, cues}
use Rattle.rules.specs.Card.{card_room, card_loans, open_mark, close_mark, message_mark, tick_mark, mark_end, tick_end, message_end}
use Rattle.rules.specs.Card.{Next, calls, ends, stops, next}
pub use Rattle.reply.specs.Unmoved.{unmoved}
use Rattle.recall_log.specs.declared.Record.{Record}
use Rattle.recall_log.specs.declared.Record.TheVariants.{Open, Close, Message, Tick}
use Rattle.recall_log.specs.declared.Held.{Held}
use Rattle.reply.specs.declared.Did.{Did}
use Rattle.recall_log.specs.declared.Refused.{Refused}
use Rattle.recall_log.specs.declared.Refused.TheVariants.{Full, Rule}
use Rattle.recall_log.specs.Log.{kept_calls, taken, free, longest_record, full}

-- ## A call in the form that is kept

-- its calls are 01's: a clock brought to an instant in ninths, as the rolling counter's, and a cue are not among them
abbrev pub Its : Call → Type 0
Its (opens c) = Unit {0}
Its (closes c room) = Unit {0}
Its (messages c l loans) = Unit {0}
Its (ticks seconds micros room) = Unit {0}
Its (moves until room) = ⊥
Its (cues section pts seconds micros room) = ⊥

-- what the card program lends, and of what was read the first message: its 8 + MessageSize bytes and no more
unfoldable pub kept_form : Call → Call
kept_form (opens c) = opens c
kept_form (closes c room) = closes c card_room
kept_form (messages c l loans) = messages c (part 0 (8 + message_size l) l) card_loans
kept_form (ticks seconds micros room) = ticks seconds micros card_room
kept_form (moves until room) = moves until room
kept_form (cues section pts seconds micros room) = cues section pts seconds micros room

-- "in the card program's marks": 4F c, 43 c, 4D c and the message, 54 00 and the time
unfoldable pub marked : Call → List ℕ
marked (opens c) = open_mark ∷ c ∷ []
marked (closes c room) = close_mark ∷ c ∷ []
marked (messages c l loans) = message_mark ∷ c ∷ l
marked (ticks seconds micros room) = tick_mark ∷ 0x00 ∷ (bytes 4 seconds ++ bytes 4 micros)
marked (moves until room) = []
marked (cues section pts seconds micros room) = []

-- the records of calls, one behind the other
abbrev pub recorded : List Call → List ℕ
recorded [] = []
recorded (k ∷ ks) = marked k ++ recorded ks

-- ## The log after a call

-- a zero is no mark, so a log says itself where its calls end
abbrev pub zero_behind : ℕ → List ℕ → List ℕ
zero_behind end l = put (ltb end (length l)) 0 []

-- the call k in that form behind the last; a zero byte behind it if there is room, and every other byte as it was
unfoldable pub appended : Call → List ℕ → List ℕ
appended k l = written l (taken l) (marked k ++ zero_behind (taken l + length (marked k)) l)

-- fresh
unfoldable pub cleared : List ℕ → List ℕ
cleared l = replicate (length l) 0

-- a good call is kept, a refused one is not
unfoldable pub log_after : Call → Answer → List ℕ → List ℕ
log_after k (refused n) l = l
log_after k (good consumed rs) l = appended (kept_form k) l

-- a log as this engine leaves it: the records of its calls, and zeros behind
pub record Neat (l : List ℕ) : Type 0 where
  pub records : take (taken l) l ≡ recorded (kept_calls l)
  pub zeros : drop (taken l) l ≡ replicate (free l) 0

abbrev pub Good : Answer → Type 0
Good (refused n) = ⊥
Good (good consumed rs) = Unit {0}

abbrev pub is_good : Answer → Bool
is_good (refused n) = false
is_good (good consumed rs) = true

-- ## What is answered

-- what a call did, or why it is refused
abbrev pub Reply : Type 0
Reply = Result Did Refused

-- "house number 13 from this engine alone"; no number: it is good
unfoldable pub number_of : Reply → ℕ
number_of (Err Full) = 13
number_of (Err (Rule n)) = house_number n
number_of (Ok did) = 0

-- an answer of the rules
unfoldable pub reply_of : Answer → (moved : ℕ) → Reply
reply_of (refused n) moved = Err (Rule n)
reply_of (good consumed rs) moved = Ok (record { consumed = consumed; written = length (output rs); moved = moved })

-- ## As the code has it

-- one record
unfoldable pub record_of : Next → Option Record
record_of (calls (opens c) m) = Some (Open c)
record_of (calls (closes c room) m) = Some (Close c)
record_of (calls (messages c l loans) m) = Some (Message c (message_size l))
record_of (calls (ticks seconds micros room) m) = Some (Tick seconds micros)
record_of (calls (moves until room) m) = None
record_of (calls (cues section pts seconds micros room) m) = None
record_of (ends k) = None
record_of stops = None

-- that l begins with
unfoldable pub record_in : List ℕ → Option Record
record_in l = record_of (next l)

-- its call; none is no call
unfoldable pub call_of : Option Record → List ℕ → Call
call_of (Some (Open c)) l = opens c
call_of (Some (Close c)) l = closes c card_room
call_of (Some (Message c size)) l = messages c (part mark_end (8 + size) l) card_loans
call_of (Some (Tick seconds micros)) l = ticks seconds micros card_room
call_of None l = opens 0

-- the bytes that it takes
unfoldable pub span_of : Option Record → ℕ
span_of (Some (Open c)) = mark_end
span_of (Some (Close c)) = mark_end
span_of (Some (Message c size)) = message_end size
span_of (Some (Tick seconds micros)) = tick_end
span_of None = 0

-- how many calls are in l, and the bytes that they take
pub record Counts (l : List ℕ) (h : Held) : Type 0 where
  pub calls : h.calls ≡ length (kept_calls l)
  pub taken : h.taken ≡ taken l

-- where the next record goes, or 13
unfoldable pub space_in : List ℕ → Option ℕ
space_in l = cond (full l) None (Some (taken l))

-- `at` is that place
pub record Behind (l : List ℕ) (at : ℕ) : Type 0 where
  pub place : at ≡ taken l
  pub room : at + longest_record ≤ length l

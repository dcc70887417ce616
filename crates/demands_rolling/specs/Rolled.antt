-- A trace of the card with a rolling counter, as its driver in C sees it: its fresh, then opens, closes, messages, cues, instants and
-- readings, any number of them in any order. What a contract allows (`RollAllowed`) stands in door_rolling/specs/RollDoor; door_rolling's
-- proofs/Cited holds it to the source.
use Rattle.std.specs.Prelude.{◌≡◌, Bool, false, cond, List, [], ◌∷◌, ◌++◌, map, ℕ, eqb}
use Rattle.rules.specs.HouseNumbers.{written_by, buffer_after}
use Rattle.rules.specs.Records.{Record}
use Rattle.rules.specs.Rolling.{none, Rolling, RollingCall, roll}
use Rattle.rules.specs.Follows.Sequences.{rolling_of, rolling_fresh}
use Rattle.demands.specs.History.{Reply, Event, others_of}
use Rattle.demands.specs.Told.{granted_by}
use Rattle.demands.specs.Kept.{changed}
use Rattle.rolling.specs.LentRolling.{counter_of, rolling, LentRolling}
use Rattle.door.specs.Door.{call_of, Seen}
use Rattle.door_rolling.specs.RollDoor.{RollReplies, RollInput, a_known, an_instant, a_reading, RollTyped, roll_call_of, roll_buffer_of}
use Rattle.door_rolling.specs.RollDoor.{RollSeen}
use Rattle.door_rolling.specs.RollDoor.{RollAllowed}
use Rattle.demands_engine.specs.Device.{Device}
use Rattle.demands_engine.specs.Device as any
use Rattle.demands_engine.specs.Trace as engine
use Rattle.demands_door.specs.Driven.{words_of, handed, inside}
use Rattle.demands_door.specs.Driven as plain

-- ## The trace

-- the card's memory between two calls
pub record Memory : Type 0 where
  pub core : engine.Memory
  pub counter : List ℕ

-- the rolling splicer that it shows
abbrev pub shown : Memory → Rolling
shown m = rolling m.core.words m.core.bytes m.counter

-- that of a fresh splicer of an empty name, and no instant was given
abbrev pub empty_memory : Memory
empty_memory = record { core = engine.empty_memory; counter = counter_of none }

abbrev pub LentAt : Memory → Type 0
LentAt m = LentRolling m.core.words m.core.bytes m.counter

-- what a call has left
abbrev pub left : RollSeen → Memory
left r = record { core = record { words = r.words; bytes = r.bytes }; counter = r.counter }

abbrev pub AllowedAt : Memory → RollInput → RollSeen → Type 0
AllowedAt m i r = RollAllowed m.core.words m.core.bytes m.counter i r

-- this card as a device: what comes back is what C sees after the call, and what its fresh allows for a name is its contract
abbrev pub device : Device
device =
    record {
      Memory = Memory;
      Input = RollInput;
      Result = RollSeen;
      Reply = List ℕ;
      Typed = RollTyped;
      Allowed = AllowedAt;
      left = left;
      Begins = λ name r m. RollReplies (rolling_fresh name) 0 [] r m.core.words m.core.bytes m.counter [];
    }

-- what a driver sees of it, by the words of demands_engine's specs/Device
abbrev pub Made : Type 0
Made = any.Made device

abbrev pub made : RollInput → RollSeen → Made
made i r = record { input = i; result = r }

abbrev pub Leads : Memory → List Made → Memory → Type 0
Leads = any.Leads device

abbrev pub Trace : (name : List ℕ) (h : List Made) (m : Memory) → Type 0
Trace = any.Trace device

abbrev pub More : (name : List ℕ) (h : List Made) (m : Memory) (i : RollInput) (r : RollSeen) → Type 0
More = any.More device

abbrev pub Point : (name : List ℕ) (h g : List Made) (m : Memory) → Type 0
Point = any.Point device

abbrev pub Answerable : (m : Memory) (i : RollInput) → Type 0
Answerable = any.Answerable device

abbrev pub Run : (name : List ℕ) (is : List RollInput) → Type 0
Run = any.Run device

-- ## What C reads

-- the counter's words apart, what the known calls show too
abbrev pub seen_of : RollSeen → Seen
seen_of r = record { reply = r.reply; words = r.words; bytes = r.bytes; buffer = r.buffer }

abbrev pub number : RollSeen → ℕ
number r = plain.number (seen_of r)

-- 02, CR 11, "how many places an acceptance shifts"
abbrev pub moved : RollSeen → ℕ
moved r = plain.moved (seen_of r)

abbrev pub bytes_of : RollSeen → List ℕ
bytes_of r = plain.bytes_of (seen_of r)

abbrev pub calls : List Made → List RollingCall
calls h = map (λ x. roll_call_of x.input) h

abbrev pub inputs : List Made → List RollInput
inputs = any.inputs device

-- the records of a call's answer, but for a Splice_Request's own
abbrev pub others_by : RollInput → List Record → List Record
others_by (a_known i) rs = others_of (call_of i) rs
others_by (an_instant g e) rs = rs
others_by (a_reading x e) rs = rs

-- 02, CR 11: the call is a Splice_Request answered with 100; an instant or a reading is none
abbrev pub grants : RollInput → List Record → Bool
grants (a_known i) rs = granted_by (call_of i) rs
grants (an_instant g e) rs = false
grants (a_reading x e) rs = false

-- 02, CR 6: the call with that answer changes what connection d keeps; an instant or a reading never does
abbrev pub changes : ℕ → RollInput → Reply → Bool
changes d (a_known i) a = changed d (call_of i) a
changes d (an_instant g e) a = false
changes d (a_reading x e) a = false

-- ## "Its answers must be those of document 01 with the clock brought to the same instants in ninths"

-- the engine's call that one of this card's amounts to, with its result: a known one itself; a good instant or reading brings the clock to
-- where it is then; a refused one is none
abbrev pub time_made : (buffer : List ℕ) → RollSeen → List engine.Made
time_made e r = cond (eqb (number r) 0) (engine.made (engine.a_move (shown (left r)).splicer.clock e) (inside (seen_of r)) ∷ []) []

abbrev pub as_made : RollInput → RollSeen → List engine.Made
as_made (a_known i) r = engine.made (handed i) (inside (seen_of r)) ∷ []
as_made (an_instant g e) r = time_made e r
as_made (a_reading x e) r = time_made e r

unfoldable pub within : List Made → List engine.Made
within [] = []
within (x ∷ h) = as_made x.input x.result ++ within h

-- calls and answers as demand 3 takes them
abbrev pub events : List Made → List Event
events h = engine.events (within h)

-- of the next call: the state, the counter too, the reply's words, the bytes and the whole buffer are those that the rules give
pub record AsRuled (m : Memory) (i : RollInput) (r : RollSeen) : Type 0 where
  pub state : shown (left r) ≡ rolling_of (roll (roll_call_of i) (shown m))
  pub reply : r.reply ≡ words_of (roll (roll_call_of i) (shown m)).called.answer (roll (roll_call_of i) (shown m)).called.moved
  pub bytes : bytes_of r ≡ written_by (roll (roll_call_of i) (shown m)).called.answer
  pub buffer : r.buffer ≡ buffer_after (roll (roll_call_of i) (shown m)).called.answer (roll_buffer_of i)

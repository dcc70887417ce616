-- A trace: what the driver sees of the calls of `engine`, any number of them in any order, each result one that the call's contract
-- allows. The contracts' own words (`Answers`, `Makes`) stand here as they stand in engine/src/lib.rt.
use Rattle.std.specs.Prelude.{◌≡◌, List, [], map, ℕ, ◌<◌, length, take, replicate, Err, Ok}
use Rattle.rules.specs.Lists.{All}
use Rattle.rules.specs.Follows.Wires.{Byte}
use Rattle.rules.specs.State.{Splicer}
use Rattle.rules.specs.HouseNumbers.{house_number, Called, lending_maps}
use Rattle.rules.specs.Calls.{fresh, open_call, close_call, message_call, tick_call, move_call, cue_call}
use Rattle.rules.specs.Calls.{call, Call, opens, closes, messages, ticks, moves, cues}
use Rattle.rules.specs.HouseNumbers.{written_by, buffer_after}
use Rattle.rules.specs.Units.{horizon}
use Rattle.demands.specs.History.{Reply, refusal, wrote, Event}
use Rattle.memory.specs.Memory as lent
use Rattle.engine.specs.Lent.{Answer}
use Rattle.engine.specs.Lent.{answer_of, Answers, Makes}
use Rattle.demands_engine.specs.Device.{Device}
use Rattle.demands_engine.specs.Device as any

-- ## What the driver holds and hands in

-- the splicer in memory between two calls
pub record Memory : Type 0 where
  pub words : List ℕ
  pub bytes : List ℕ

-- the splicer of document 01 that it shows
abbrev pub shown : Memory → Splicer
shown m = lent.shown m.words m.bytes

-- a fresh splicer of an empty name: clock 0, no session, all connections closed, and zeros in all words and bytes
abbrev pub empty_memory : Memory
empty_memory = record { words = replicate lent.words 0; bytes = replicate lent.bytes 0 }

-- a call and what it is handed; a buffer is what it holds before the call
pub data Input : Type 0 where
  an_open : (conn : ℕ) → Input
  a_close : (conn : ℕ) (buffer : List ℕ) → Input
  a_message : (conn : ℕ) (l primary insertion buffer : List ℕ) → Input
  a_tick : (seconds micros : ℕ) (buffer : List ℕ) → Input
  a_move : (until : ℕ) (buffer : List ℕ) → Input
  a_cue : (section : List ℕ) (pts seconds micros : ℕ) (buffer : List ℕ) → Input

-- what the types say of the inputs: a u32 is below 2^32, and a u8 is a byte. An instant is below all that a tick's time can be, which
-- bring_to requires
abbrev pub Typed : Input → Type 0
Typed (an_open conn) = conn < 4294967296
Typed (a_close conn e) = conn < 4294967296
Typed (a_message conn l pm im e) = (conn < 4294967296) × All Byte l × All Byte pm × All Byte im
Typed (a_tick seconds micros e) = (seconds < 4294967296) × (micros < 4294967296)
Typed (a_move until e) = until < horizon
Typed (a_cue l pts seconds micros e) = All Byte l × (pts < 18446744073709551616) × (seconds < 4294967296) × (micros < 4294967296)

-- the call as document 01 has it: of a buffer, its length
abbrev pub call_of : Input → Call
call_of (an_open conn) = opens conn
call_of (a_close conn e) = closes conn (length e)
call_of (a_message conn l pm im e) = messages conn l (lending_maps pm im (length e))
call_of (a_tick seconds micros e) = ticks seconds micros (length e)
call_of (a_move until e) = moves until (length e)
call_of (a_cue l pts seconds micros e) = cues l pts seconds micros (length e)

-- open has no buffer
abbrev pub buffer_of : Input → List ℕ
buffer_of (an_open conn) = []
buffer_of (a_close conn e) = e
buffer_of (a_message conn l pm im e) = e
buffer_of (a_tick seconds micros e) = e
buffer_of (a_move until e) = e
buffer_of (a_cue l pts seconds micros e) = e

-- ## What comes back

-- the answer, and what the lent memory and the buffer hold after the call
pub record Result : Type 0 where
  pub answer : Answer
  pub memory : Memory
  pub buffer : List ℕ

-- a call of the splicer that the memory m shows, lent the buffer e, promises the result r
abbrev pub Promises : (ℕ → Splicer → Called) → Memory → (e : List ℕ) → Result → Type 0
Promises k m e r = Makes k m.words m.bytes e r.answer r.memory.words r.memory.bytes r.buffer

-- from the memory m, the call's contract allows the result r
abbrev pub Allowed : Memory → Input → Result → Type 0
Allowed m (an_open conn) r = Promises (λ _. open_call conn) m [] r
Allowed m (a_close conn e) r = Promises (close_call conn) m e r
Allowed m (a_message conn l pm im e) r = Promises (λ room. message_call conn l (lending_maps pm im room)) m e r
Allowed m (a_tick seconds micros e) r = Promises (tick_call seconds micros) m e r
Allowed m (a_move until e) r = Promises (move_call until) m e r
Allowed m (a_cue l pts seconds micros e) r = Promises (cue_call l pts seconds micros) m e r

-- ## The trace

-- the engine as a device: what `fresh` allows for a name is its contract
abbrev pub device : Device
device =
    record {
      Memory = Memory;
      Input = Input;
      Result = Result;
      Reply = Answer;
      Typed = Typed;
      Allowed = Allowed;
      left = λ r. r.memory;
      Begins = λ name a m. Answers (fresh name) 0 [] a m.words m.bytes [];
    }

-- what a driver sees of it, by the words of specs/Device
abbrev pub Made : Type 0
Made = any.Made device

abbrev pub made : Input → Result → Made
made i r = record { input = i; result = r }

abbrev pub Leads : Memory → List Made → Memory → Type 0
Leads = any.Leads device

abbrev pub Trace : (name : List ℕ) (h : List Made) (m : Memory) → Type 0
Trace = any.Trace device

abbrev pub More : (name : List ℕ) (h : List Made) (m : Memory) (i : Input) (r : Result) → Type 0
More = any.More device

abbrev pub Point : (name : List ℕ) (h g : List Made) (m : Memory) → Type 0
Point = any.Point device

abbrev pub Answerable : (m : Memory) (i : Input) → Type 0
Answerable = any.Answerable device

abbrev pub Run : (name : List ℕ) (is : List Input) → Type 0
Run = any.Run device

-- ## What the driver reads in a result

-- the number of a refusal; 0 stands for a good call
unfoldable pub number_in : Answer → ℕ
number_in (Err n) = house_number n
number_in (Ok did) = 0

-- the bytes written: the first of the buffer, as many as the answer says
unfoldable pub bytes_in : Answer → List ℕ → List ℕ
bytes_in (Err n) o = []
bytes_in (Ok did) o = take did.written o

-- 02, CR 11, "how many places an acceptance shifts"; a refusal shifts none
unfoldable pub moved_in : Answer → ℕ
moved_in (Err n) = 0
moved_in (Ok did) = did.moved

abbrev pub number : Result → ℕ
number r = number_in r.answer

abbrev pub moved : Result → ℕ
moved r = moved_in r.answer

abbrev pub bytes_of : Result → List ℕ
bytes_of r = bytes_in r.answer r.buffer

unfoldable pub reply_in : Answer → List ℕ → Reply
reply_in (Err n) o = refusal n
reply_in (Ok did) o = wrote (take did.written o)

-- a call that was made, as demand 3 takes it: the call, and the answer's bytes or the refusal
abbrev pub event_of : Made → Event
event_of x = record { call = call_of x.input; reply = reply_in x.result.answer x.result.buffer }

abbrev pub events : List Made → List Event
events h = map event_of h

abbrev pub calls : List Made → List Call
calls h = map (λ x. call_of x.input) h

abbrev pub inputs : List Made → List Input
inputs = any.inputs device

-- ## "every answer byte, its order and the state after it are those that 01's rules give"

pub record AsRuled (m : Memory) (i : Input) (r : Result) : Type 0 where
  pub state : shown r.memory ≡ (call (call_of i) (shown m)).splicer
  pub answer : r.answer ≡ answer_of (call (call_of i) (shown m)).answer (call (call_of i) (shown m)).moved
  pub bytes : bytes_of r ≡ written_by (call (call_of i) (shown m)).answer
  pub buffer : r.buffer ≡ buffer_after (call (call_of i) (shown m)).answer (buffer_of i)

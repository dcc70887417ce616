-- A trace as the driver in C sees it: fresh, then any of the door's calls, any number of them in any order. What C hands in and sees, and
-- what a contract allows (`Typed`, `Seen`, `Replies`, `Allowed`), stands in door/specs/Door; door/proofs/Cited holds it to the source.
use Rattle.std.specs.Prelude.{◌≡◌, cond, List, [], ◌∷◌, map, ℕ, eqb, length, get_or, take, Err, Ok}
use Rattle.rules.specs.declared.Refusal.{Refusal}
use Rattle.rules.specs.declared.Refusal.TheVariants.{NoConnection, NoRoom, ClockBack, Oversize, Short, AlreadyOpen, NotOpen, BadMicros}
use Rattle.rules.specs.declared.Refusal.TheVariants.{BadName, Counter, LongSection, BadSection, NotSixteen}
use Rattle.rules.specs.HouseNumbers as numbers
use Rattle.rules.specs.Calls.{Call, call, fresh}
use Rattle.rules.specs.HouseNumbers.{house_number, written_by, consumed_by, buffer_after}
use Rattle.demands.specs.History.{Reply, refusal, wrote, Event}
use Rattle.demands.specs.Told.{number_of}
use Rattle.engine.specs.Lent.{Answer}
use Rattle.door.specs.Door.{Replies, Input, an_open, a_close, a_message, a_tick, a_cue, pts_of, Typed, call_of, buffer_of, Seen, Allowed}
use Rattle.demands_engine.specs.Device.{Device}
use Rattle.demands_engine.specs.Device as any
use Rattle.demands_engine.specs.Trace.{Memory, shown}
use Rattle.demands_engine.specs.Trace as engine

-- ## The trace

-- the splicer in memory that a call has left
abbrev pub left : Seen → Memory
left r = record { words = r.words; bytes = r.bytes }

-- the door as a device: what comes back is what C sees after the call, and what fresh allows for a name is its contract
abbrev pub device : Device
device =
    record {
      Memory = Memory;
      Input = Input;
      Result = Seen;
      Reply = List ℕ;
      Typed = Typed;
      Allowed = λ m i r. Allowed m.words m.bytes i r;
      left = left;
      Begins = λ name r m. Replies (fresh name) 0 [] r m.words m.bytes [];
    }

-- what a driver sees of it, by the words of demands_engine's specs/Device
abbrev pub Made : Type 0
Made = any.Made device

abbrev pub made : Input → Seen → Made
made i r = record { input = i; result = r }

abbrev pub Leads : Memory → List Made → Memory → Type 0
Leads = any.Leads device

abbrev pub Trace : (name : List ℕ) (h : List Made) (m : Memory) → Type 0
Trace = any.Trace device

abbrev pub More : (name : List ℕ) (h : List Made) (m : Memory) (i : Input) (r : Seen) → Type 0
More = any.More device

abbrev pub Point : (name : List ℕ) (h g : List Made) (m : Memory) → Type 0
Point = any.Point device

abbrev pub Answerable : (m : Memory) (i : Input) → Type 0
Answerable = any.Answerable device

abbrev pub Run : (name : List ℕ) (is : List Input) → Type 0
Run = any.Run device

-- ## What C reads in the reply's words

-- "A refusal returns its number": the first word; 0 stands for a good call
abbrev pub number_in : List ℕ → ℕ
number_in w = get_or w 0 0

-- "A good call returns the bytes written, and message also the bytes consumed": the second and the third word
abbrev pub consumed_in : List ℕ → ℕ
consumed_in w = get_or w 1 0

abbrev pub written_in : List ℕ → ℕ
written_in w = get_or w 2 0

-- 02, CR 11, "how many places an acceptance shifts": the fourth word
abbrev pub moved_in : List ℕ → ℕ
moved_in w = get_or w 3 0

abbrev pub number : Seen → ℕ
number r = number_in r.reply

abbrev pub moved : Seen → ℕ
moved r = moved_in r.reply

-- the bytes written: the first of the buffer, as many as the reply says
abbrev pub bytes_of : Seen → List ℕ
bytes_of r = take (written_in r.reply) r.buffer

-- the refusal that a number stands for, by the table of house numbers
abbrev pub refusals : List Refusal
refusals =
    NoConnection ∷ NoRoom ∷ ClockBack ∷ Oversize ∷ Short ∷ AlreadyOpen ∷ NotOpen ∷ BadMicros ∷ BadName ∷ Counter ∷ BadSection ∷ LongSection
    ∷ NotSixteen ∷ []

unfoldable pub refusal_among : List Refusal → ℕ → Refusal
refusal_among [] n = BadName
refusal_among (x ∷ l) n = cond (eqb n (house_number x)) x (refusal_among l n)

abbrev pub reply_in : (w o : List ℕ) → Reply
reply_in w o = cond (eqb (number_in w) 0) (wrote (take (written_in w) o)) (refusal (refusal_among refusals (number_in w)))

-- a call that was made, as demand 3 takes it: the call, and the answer's bytes or the refusal
abbrev pub event_of : Made → Event
event_of x = record { call = call_of x.input; reply = reply_in x.result.reply x.result.buffer }

abbrev pub events : List Made → List Event
events h = map event_of h

abbrev pub calls : List Made → List Call
calls h = map (λ x. call_of x.input) h

abbrev pub inputs : List Made → List Input
inputs = any.inputs device

-- ## "every answer byte, its order and the state after it are those that 01's rules give"

-- the places shifted, which a refusal has none of
abbrev pub moved_by : numbers.Answer → ℕ → ℕ
moved_by (numbers.refused n) moved = 0
moved_by (numbers.good consumed rs) moved = moved

-- the number or 0, the bytes consumed and the bytes written, and the places shifted
abbrev pub words_of : numbers.Answer → (moved : ℕ) → List ℕ
words_of a moved = number_of a ∷ consumed_by a ∷ length (written_by a) ∷ moved_by a moved ∷ []

pub record AsRuled (m : Memory) (i : Input) (r : Seen) : Type 0 where
  pub state : shown (left r) ≡ (call (call_of i) (shown m)).splicer
  pub reply : r.reply ≡ words_of (call (call_of i) (shown m)).answer (call (call_of i) (shown m)).moved
  pub bytes : bytes_of r ≡ written_by (call (call_of i) (shown m)).answer
  pub buffer : r.buffer ≡ buffer_after (call (call_of i) (shown m)).answer (buffer_of i)

-- ## The same calls of the engine

abbrev pub handed : Input → engine.Input
handed (an_open conn) = engine.an_open conn
handed (a_close conn e) = engine.a_close conn e
handed (a_message conn l pm im e) = engine.a_message conn l pm im e
handed (a_tick seconds micros e) = engine.a_tick seconds micros e
handed (a_cue l g e) = engine.a_cue l (pts_of g) (get_or g 2 0) (get_or g 3 0) e

-- the engine's answer, from the reply's words
abbrev pub answer_in : List ℕ → Answer
answer_in w = cond (eqb (number_in w) 0) (Ok (record { consumed = consumed_in w; written = written_in w; moved = moved_in w }))
    (Err (refusal_among refusals (number_in w)))

abbrev pub inside : Seen → engine.Result
inside r = record { answer = answer_in r.reply; memory = left r; buffer = r.buffer }

abbrev pub within : List Made → List engine.Made
within h = map (λ x. engine.made (handed x.input) (inside x.result)) h

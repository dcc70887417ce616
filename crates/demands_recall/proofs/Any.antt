-- Any inputs can be handed to both: what the theorems ask of a sequence is met by every one. Rests on demands_engine's and demands_door's
-- `any-calls`, and on
-- that a call of the second engine always answers.
use mathlib.Core.Path.{◌≡◌, refl, ap, ◌∙◌}
use mathlib.Core.List.{List, [], ◌∷◌, map}
use Prim.Native.Nat.{ℕ}
use native.Mathlib.Omega.{arith}
use contract.Lifetimes.{Lfts}
use denote.Ref.{Bor}
use Rattle.rules.specs.Lists.{All}
use Rattle.rules.specs.Follows.Wires.{Byte}
use Rattle.rules.specs.Bytes.{padded, written}
use Rattle.rules.specs.Card.{card_name}
use Rattle.rules.proofs.Bytes.{padded-byte}
use Rattle.recall_log.specs.Kept.{Its}
use Rattle.engine.proofs.Held.{kind, Holds, Same, InRoom}
use Rattle.recall.specs.Recall.{recall_call, recall_fresh}
use Rattle.demands_engine.specs.Trace as engine
use Rattle.demands_engine.specs.Trace.{Memory}
use Rattle.demands_engine.proofs.Demands as engine-laws
use Rattle.demands_door.specs.Driven as door
use Rattle.door.specs.Door as door-calls
use Rattle.door.specs.Door.{an_open, a_close, a_message, a_tick, Typed}
use Rattle.demands_door.proofs.Demands as door-laws
use Rattle.door_bench.specs.Bench.{reply_words}
use Rattle.door_bench.proofs.Cited as bench
use Rattle.door_bench.specs.contracts.splicer_bench_2_recall_open as opening
use Rattle.door_bench.specs.contracts.splicer_bench_2_recall_close as close
use Rattle.door_bench.specs.contracts.splicer_bench_2_recall_message as message
use Rattle.door_bench.specs.contracts.splicer_bench_2_recall_tick as tick
use Rattle.demands_recall.specs.Beside as beside
use Rattle.demands_recall.specs.InC as in_c

named : All Byte (padded card_name)
unfolding card_name
named = padded-byte card_name (omega arith, (omega arith, (omega arith, tt)))

-- ## The engines

both_of : List engine.Made → List ℕ → List beside.Both
both_of [] l = []
both_of (x ∷ h) l =
    let k = engine.call_of x.input in
    let r = recall_call k l in
    record {
      input = x.input;
      card = x.result;
      second = record { reply = r.told.reply; log = r.log; buffer = written (engine.buffer_of x.input) 0 r.told.shows };
    }
    ∷ both_of h r.log

inputs-of : (h : List engine.Made) (l : List ℕ) → map (λ (x : beside.Both). x.input) (both_of h l) ≡ engine.inputs h
unfolding both_of
inputs-of [] l = refl
inputs-of (x ∷ h) l = ap (λ (is : List engine.Input). x.input ∷ is) (inputs-of h (recall_call (engine.call_of x.input) l).log)

course-of : (h : List engine.Made) (m n : Memory) (l : List ℕ) → All (λ (i : engine.Input). Its (engine.call_of i)) (engine.inputs h)
    → engine.Leads m h n → beside.Course m l (both_of h l)
unfolding both_of
course-of [] m n l a b = tt
course-of (x ∷ h) m n l a b = (
  b.0,
  a.0,
  b.1,
  record { reply = refl; log = refl; buffer = refl },
  course-of h x.result.memory n (recall_call (engine.call_of x.input) l).log a.1 b.2,
)

pub record Run (is : List engine.Input) : Type 0 where
  pub course : List beside.Both
  pub run : beside.Beside course
  pub same : map (λ (x : beside.Both). x.input) course ≡ is

-- l: the log that is lent
pub any-calls : (l : List ℕ) (is : List engine.Input) → All engine.Typed is → All (λ (i : engine.Input). Its (engine.call_of i)) is → Run is
unfolding card_name
any-calls l is t i =
    let r = engine-laws.any-calls (padded card_name) refl named is t in
    let n = (recall_fresh l).log in
    let c = r.trace in
    record {
      course = both_of r.course n;
      run =
          record {
            memory = c.begun;
            answer = c.reply;
            fresh = c.fresh;
            lent = l;
            reply = (recall_fresh l).told.reply;
            log = n;
            forgets = record { reply = refl; log = refl };
            course = course-of r.course c.begun r.memory n (its (engine.inputs r.course) is r.same i) c.leads;
          };
      same = inputs-of r.course n ∙ r.same;
    }
  where
    its : (js is : List engine.Input) → js ≡ is → All (λ (i : engine.Input). Its (engine.call_of i)) is
        → All (λ (i : engine.Input). Its (engine.call_of i)) js
    its js is e a = rw e a

-- ## In C

seen_of : List door.Made → List ℕ → List in_c.Both
seen_of [] l = []
seen_of (x ∷ h) l =
    let k = door-calls.call_of x.input in
    let r = recall_call k l in
    record {
      input = x.input;
      card = x.result;
      second = record {
        reply = reply_words r.told.reply;
        log = r.log;
        buffer =
            written (door-calls.buffer_of x.input) 0 r.told.shows;
      };
    }
    ∷ seen_of h r.log

handed-of : (h : List door.Made) (l : List ℕ) → map (λ (x : in_c.Both). x.input) (seen_of h l) ≡ door.inputs h
unfolding seen_of
handed-of [] l = refl
handed-of (x ∷ h) l = ap (λ (is : List door-calls.Input). x.input ∷ is) (handed-of h (recall_call (door-calls.call_of x.input) l).log)

run_of : (h : List door.Made) (m n : Memory) (l : List ℕ) → All (λ (i : door-calls.Input). Its (door-calls.call_of i)) (door.inputs h)
    → door.Leads m h n → in_c.Course m.words m.bytes l (seen_of h l)
unfolding seen_of
run_of [] m n l a b = tt
run_of (x ∷ h) m n l a b = (
  b.0,
  a.0,
  b.1,
  record {
    reply = (recall_call (door-calls.call_of x.input) l).told.reply;
    remembers =
        record { reply = refl; log = refl; buffer = refl };
    words = refl;
  },
  run_of h (door.left x.result) n (recall_call (door-calls.call_of x.input) l).log a.1 b.2,
)

pub record RunInC (is : List door-calls.Input) : Type 0 where
  pub course : List in_c.Both
  pub run : in_c.Beside course
  pub same : map (λ (x : in_c.Both). x.input) course ≡ is

-- l: the log that is lent
pub any-calls-in-c : (l : List ℕ) (is : List door-calls.Input) → All door-calls.Typed is
    → All (λ (i : door-calls.Input). Its (door-calls.call_of i)) is → RunInC is
unfolding card_name
any-calls-in-c l is t i =
    let r = door-laws.any-calls (padded card_name) refl named is t in
    let n = (recall_fresh l).log in
    let c = r.trace in
    record {
      course = seen_of r.course n;
      run =
          record {
            words = c.begun.words;
            bytes = c.begun.bytes;
            reply = c.reply;
            fresh = c.fresh;
            lent = l;
            told = reply_words (recall_fresh l).told.reply;
            log = n;
            forgets = record { reply = (recall_fresh l).told.reply; forgets = record { reply = refl; log = refl }; words = refl };
            course = run_of r.course c.begun r.memory n (its (door.inputs r.course) is r.same i) c.leads;
          };
      same = handed-of r.course n ∙ r.same;
    }
  where
    its : (js is : List door-calls.Input) → js ≡ is → All (λ (i : door-calls.Input). Its (door-calls.call_of i)) is
        → All (λ (i : door-calls.Input). Its (door-calls.call_of i)) js
    its js is e a = rw e a

-- ## Typed is what the types of the second engine's parameters say, and no more: libbench.a takes all that libdoor.a takes

pub open-typed : (κs : Lfts 2) (conn : ℕ) → Same (Holds (kind opening.signature κs 1) conn) (Typed (an_open conn))
open-typed = bench.open-typed

module _ (κs : Lfts 3) (e : List ℕ) where
  pub close-typed : (conn : ℕ) → Same (Holds (kind close.signature κs 1) conn) (Typed (a_close conn e))
  close-typed = bench.close-typed κs

  pub tick-typed : (seconds micros : ℕ)
      → Same (Holds (kind tick.signature κs 1) seconds × Holds (kind tick.signature κs 2) micros) (Typed (a_tick seconds micros e))
  tick-typed = bench.tick-typed κs

pub message-typed : (κs : Lfts 5) (e : List ℕ) (conn : ℕ) (l pm im : Bor (List ℕ))
    → Same (Holds (kind message.signature κs 1) conn × Holds (kind message.signature κs 2) l
    × Holds (kind message.signature κs 3) pm × Holds (kind message.signature κs 4) im)
    (Typed (a_message conn l.now pm.now im.now e) × InRoom l.now × InRoom pm.now × InRoom im.now)
message-typed κs e = bench.message-typed κs

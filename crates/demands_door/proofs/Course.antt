-- Traces of the door go on, are cut, are determined, and exist for all inputs: by demands_engine's Device, from the door's replies-same
-- and, for the last, from demands_engine's answerable.
use mathlib.Core.Path.{◌≡◌, refl}
use mathlib.Core.List.{List, [], ◌∷◌, ◌++◌}
use Prim.Native.Nat.{ℕ}
use lib.ListN.{length}
use Rattle.rules.specs.Lists.{All}
use Rattle.rules.specs.Follows.Wires.{Byte}
use Rattle.rules.specs.Calls.{fresh}
use Rattle.memory.specs.Memory.{see}
use Rattle.door.specs.Door.{reply_of, Input, Typed, buffer_of, Seen, Allowed}
use Rattle.door.proofs.Laws.{replies-same}
use Rattle.demands_engine.specs.Trace.{Memory}
use Rattle.demands_engine.proofs.Device as any
use Rattle.demands_engine.proofs.Steps.{memory-same, promised}
use Rattle.demands_engine.proofs.Course.{LentAt}
use Rattle.demands_engine.proofs.Answerable as engine
use Rattle.demands_door.specs.Driven.{left, device, Made, made, Trace, More, Point, inputs, Answerable, Run, handed}
use Rattle.demands_door.proofs.Inside.{call-handed, buffer-handed, typed-handed}

-- ## Each result is determined

seen_same : (m : Memory) (i : Input) (r s : Seen) → Allowed m.words m.bytes i r → Allowed m.words m.bytes i s → r ≡ s
seen_same m i r s x y =
    let p = replies-same _ (see m.words).ring_end (buffer_of i) r.reply r.words r.bytes r.buffer s.reply s.words
    s.bytes s.buffer x y in
    λ j. record { reply = p.0 j; words = p.1 j; bytes = p.2 j; buffer = p.3 j }

fresh-same : (name r s : List ℕ) (m n : Memory) → device.Begins name r m → device.Begins name s n → m ≡ n
fresh-same name r s m n f g =
    let p = replies-same (fresh name) 0 [] r m.words m.bytes [] s n.words n.bytes [] f g in
    memory-same m n p.1 p.2

-- ## Traces

pub trace-more : (name : List ℕ) (h : List Made) (m : Memory) (i : Input) (r : Seen) → More name h m i r
    → Trace name (h ++ (made i r ∷ [])) (left r)
trace-more = any.trace-more device

pub trace-point : (name : List ℕ) (h g : List Made) (m : Memory) → Trace name (h ++ g) m → Point name h g m
trace-point = any.trace-point device

pub trace-same : (name : List ℕ) (h g : List Made) (m n : Memory) → Trace name h m → Trace name g n → inputs h ≡ inputs g
    → (h ≡ g) × (m ≡ n)
trace-same = any.trace-same device seen_same fresh-same

-- ## For all inputs

pub answerable : (m : Memory) → LentAt m → (i : Input) → Typed i → Answerable m i
answerable m l i t =
    let a = engine.answerable m l (handed i) (typed-handed i t) in
    let r = a.result in
    record {
      result = record { reply = reply_of r.answer; words = r.memory.words; bytes = r.memory.bytes; buffer = r.buffer };
      allowed = record {
        answer = r.answer;
        answers = rw (call-handed i, buffer-handed i) (promised m (handed i) r a.allowed);
        reply = refl;
      };
    }

-- fresh as the engine makes it, then the calls
pub runs : (name : List ℕ) → length name ≡ 32 → All Byte name → (is : List Input) → All Typed is → Run name is
runs name long bytes =
    let f = (engine.runs name long bytes [] tt).trace in
    any.runs device LentAt (λ m i r l t a. a.answers.lent) answerable name long bytes (reply_of f.reply) f.begun
    (record { answer = f.reply; answers = f.fresh; reply = refl }) f.fresh.lent

-- Traces of this card go on, are cut, are determined, and exist for all inputs: by demands_engine's Device, from the door's replies-same,
-- from rolling's rolls-same and, for the last, from demands_engine's answerable.
use mathlib.Core.Path.{◌≡◌, refl, sym, ap, ◌∙◌}
use mathlib.Core.List.{List, [], ◌∷◌, ◌++◌}
use Prim.Native.Nat.{ℕ}
use lib.ListN.{length, get_or}
use borrow.Author.Tests.{ltb-false}
use Rattle.rules.specs.Lists.{All}
use Rattle.rules.specs.Follows.Wires.{Byte}
use Rattle.rules.specs.Rolling.{Rolled, Course, refuses, brings, instant_course, reading_course, rolls, instant_call, reading_call}
use Rattle.rules.specs.Rolling.{RollingCall, roll}
use Rattle.rules.specs.Follows.Sequences.{RollWired}
use Rattle.memory.specs.Memory.{see}
use Rattle.engine.specs.Lent.{Answer}
use Rattle.std.specs.Prelude.{Err}
use Rattle.rolling.specs.LentRolling.{Rolls}
use Rattle.rolling.proofs.Ruled.{Ahead, instant-ahead, reading-ahead}
use Rattle.rolling.proofs.Calls.{lent-core, lent-steady, refused-rolls, brought-rolls, fresh-rolls}
use Rattle.rolling.proofs.Laws.{rolls-same}
use Rattle.door.specs.Door.{reply_of, buffer_of}
use Rattle.door_rolling.specs.RollDoor.{RollReplies, RollInput, a_known, an_instant, a_reading, RollTyped, roll_call_of, RollSeen}
use Rattle.door.proofs.Laws.{replies-same}
use Rattle.demands_engine.specs.Trace as engine
use Rattle.demands_engine.proofs.Device as any
use Rattle.demands_engine.proofs.Steps.{memory-same}
use Rattle.demands_engine.proofs.Answerable as engine-runs
use Rattle.demands_door.proofs.Course as driven
use Rattle.demands_rolling.specs.Rolled.{Memory, shown, LentAt, left, device, Made, made, AllowedAt, Trace, More, Point, inputs}
use Rattle.demands_rolling.specs.Rolled.{Answerable, Run}
use Rattle.demands_rolling.proofs.Inside.{roll-wired, lent-next}

-- ## Each result is determined

-- two replies that a promise allows
rolled-same : {c : Rolled} {ring : ℕ} {e r m b k o s n d j p : List ℕ} → RollReplies c ring e r m b k o → RollReplies c ring e s n d j p
    → (r ≡ s) × (m ≡ n) × (b ≡ d) × (k ≡ j) × (o ≡ p)
rolled-same {c} {ring} {e} {r} {m} {b} {k} {o} {s} {n} {d} {j} {p} x y =
    let u = rolls-same c ring e x.answer y.answer m b k o n d j p x.rolls y.rolls in
    (x.reply ∙ ap reply_of u.0 ∙ sym y.reply, u.1, u.2, u.3, u.4)

seen_same : (m : Memory) (i : RollInput) (r s : RollSeen) → AllowedAt m i r → AllowedAt m i s → r ≡ s
seen_same m (a_known i) r s x y =
    let p = replies-same _ (see m.core.words).ring_end (buffer_of i) r.reply r.words r.bytes r.buffer s.reply s.words
    s.bytes s.buffer x.0 y.0 in
    let q = x.1 ∙ sym y.1 in
    λ j. record { reply = p.0 j; words = p.1 j; bytes = p.2 j; counter = q j; buffer = p.3 j }
seen_same m (an_instant g e) r s x y =
    let p = rolled-same x y in
    λ j. record { reply = p.0 j; words = p.1 j; bytes = p.2 j; counter = p.3 j; buffer = p.4 j }
seen_same m (a_reading z e) r s x y =
    let p = rolled-same x y in
    λ j. record { reply = p.0 j; words = p.1 j; bytes = p.2 j; counter = p.3 j; buffer = p.4 j }

fresh-same : (name r s : List ℕ) (m n : Memory) → device.Begins name r m → device.Begins name s n → m ≡ n
fresh-same name r s m n f g =
    let p = rolled-same f g in
    let core : m.core ≡ n.core = memory-same m.core n.core p.1 p.2 in
    λ i. record { core = core i; counter = p.3 i }

-- ## Traces

pub trace-more : (name : List ℕ) (h : List Made) (m : Memory) (i : RollInput) (r : RollSeen) → More name h m i r
    → Trace name (h ++ (made i r ∷ [])) (left r)
trace-more = any.trace-more device

pub trace-point : (name : List ℕ) (h g : List Made) (m : Memory) → Trace name (h ++ g) m → Point name h g m
trace-point = any.trace-point device

pub trace-same : (name : List ℕ) (h g : List Made) (m n : Memory) → Trace name h m → Trace name g n → inputs h ≡ inputs g
    → (h ≡ g) × (m ≡ n)
trace-same = any.trace-same device seen_same fresh-same

-- ## For all inputs

-- the reply to an answer that a promise allows
replied : {c : Rolled} {ring : ℕ} {e m b k o : List ℕ} (a : Answer) → Rolls c ring e a m b k o → RollReplies c ring e (reply_of a) m b k o
replied a p = record { answer = a; rolls = p; reply = refl }

-- a call whose course is c, with the buffer e
record Found (m : Memory) (k : RollingCall) (e : List ℕ) : Type 0 where
  answer : Answer
  memory : Memory
  buffer : List ℕ
  rolls : Rolls (roll k (shown m)) (see m.core.words).ring_end e answer memory.core.words memory.core.bytes memory.counter
      buffer

module _ (m : Memory) (l : LentAt m) (k : RollingCall) (w : RollWired k) (x : ℕ) (e : List ℕ) where
  found : (c : Course) → roll k (shown m) ≡ rolls c x (shown m) → Ahead c (shown m).splicer.clock (length e) → Found m k e
  found (refuses n) f a = record { answer = Err n; memory = m; buffer = e; rolls = refused-rolls l (roll k (shown m)) n x f }
  found (brings until) f a =
      let g = engine-runs.answerable m.core (lent-core l) (engine.a_move until e) a.2 in
      let r = g.result in
      record {
        answer = r.answer;
        memory = record { core = r.memory; counter = 1 ∷ x ∷ [] };
        buffer = r.buffer;
        rolls = brought-rolls l k until x w f (ltb-false (length e) 4096 a.0) a.1 g.allowed refl;
      }

-- what C sees of it
abbrev seen_of : {m : Memory} {k : RollingCall} {e : List ℕ} → Found m k e → RollSeen
seen_of g =
    record {
      reply = reply_of g.answer;
      words = g.memory.core.words;
      bytes = g.memory.core.bytes;
      counter = g.memory.counter;
      buffer = g.buffer;
    }

pub answerable : (m : Memory) → LentAt m → (i : RollInput) → RollTyped i → Answerable m i
unfolding roll instant_call reading_call
answerable m l (a_known i) t =
    let a = driven.answerable m.core (lent-core l) i t.0 in
    let r = a.result in
    record {
      result = record { reply = r.reply; words = r.words; bytes = r.bytes; counter = m.counter; buffer = r.buffer };
      allowed = (a.allowed, refl);
    }
answerable m l (an_instant g e) t =
    let w = roll-wired (an_instant g e) t in
    let f = found m l (roll_call_of (an_instant g e)) w (get_or g 2 0) e
    (instant_course (get_or g 0 0) (get_or g 1 0) (length e) (shown m).last)
    refl
    (instant-ahead (get_or g 0 0) (get_or g 1 0) (length e) (shown m).splicer.clock (shown m).last w.0 (lent-steady l)) in
    record { result = seen_of f; allowed = replied f.answer f.rolls }
answerable m l (a_reading x e) t =
    let f = found m l (roll_call_of (a_reading x e)) t x e (reading_course (shown m).splicer.clock x (length e) (shown m).last) refl
    (reading-ahead (shown m).splicer.clock x (length e) (shown m).last) in
    record { result = seen_of f; allowed = replied f.answer f.rolls }

-- fresh as the engine makes it, then the calls
pub runs : (name : List ℕ) → length name ≡ 32 → All Byte name → (is : List RollInput) → All RollTyped is → Run name is
runs name long bytes =
    let f = (engine-runs.runs name long bytes [] tt).trace in
    let p = fresh-rolls name long bytes f.fresh refl in
    any.runs device LentAt lent-next answerable name long bytes (reply_of f.reply) (record { core = f.begun; counter = 0 ∷ 0 ∷ [] })
    (replied f.reply p) p.lent

-- From every point of a trace every call has a result that its contract allows: the splicer that document 01 gives stands in some memory.
-- Rests on memory's stood-now and stands.
use mathlib.Core.Path.{◌≡◌, refl, sym, ap, subst}
use mathlib.Core.Bool.{Bool, true, false}
use mathlib.Core.List.{List, []}
use Prim.Native.Nat.{ℕ, ◌<◌}
use native.Mathlib.Omega.{arith}
use lib.ListN.{length, replicate}
use Rattle.rules.specs.declared.Refusal.TheVariants.{BadName}
use Rattle.rules.specs.Lists.{All}
use Rattle.rules.specs.Follows.Wires.{Byte}
use Rattle.rules.specs.Bytes.{has_zero, name_in}
use Rattle.rules.specs.State.{Splicer}
use Rattle.rules.specs.HouseNumbers.{Called, buffer_after}
use Rattle.rules.specs.Calls.{call, fresh}
use Rattle.rules.specs.Follows.Sound.{Reached}
use Rattle.rules.proofs.Bytes.{name_in-zero}
use Rattle.rules.proofs.Sound.{few-wait, few-started, reached-call, reached-sound}
use Rattle.places.specs.Places.{round}
use Rattle.memory.specs.Memory as lent
use Rattle.memory.proofs.Laws.{all-flagged, waiting-of-four, cleared-now}
use Rattle.memory.proofs.Names.{blank, named, standing, stands, name-short}
use Rattle.memory.proofs.Packed.{stood, stood-now}
use Rattle.engine.specs.Lent.{Answer}
use Rattle.std.specs.Prelude.{Err, Ok}
use Rattle.engine.specs.Lent.{Lent, answer_of, Answers}
use Rattle.engine.proofs.Beginning.{fresh-good, fresh-bad}
use Rattle.demands_engine.specs.Trace.{Memory, shown, Input, an_open, a_close, a_message, a_tick, a_move, a_cue, Typed, call_of, buffer_of}
use Rattle.demands_engine.specs.Trace.{Result, device, Answerable, Run}
use Rattle.demands_engine.proofs.Device as any
use Rattle.demands_engine.proofs.Steps.{wired}
use Rattle.demands_engine.proofs.Course.{LentAt, lent-next}

-- ## A memory for every splicer that the calls have given

-- with the ring's end at the place `at`
abbrev seen : ℕ → Splicer → lent.Memory
seen at s = record { clock = s.clock; primary = s.primary; links = s.links; queue = s.queue; ring_end = at }

abbrev memory_of : ℕ → Splicer → Memory
memory_of at s = record { words = stood (seen at s); bytes = standing s.name s.hardware }

-- what document 01 says of a call, with the buffer e
abbrev result_of : Called → ℕ → List ℕ → Result
result_of c at e =
    record {
      answer = answer_of c.answer c.moved;
      memory = memory_of (lent.shifted c.accepted at) c.splicer;
      buffer = buffer_after c.answer e;
    }

within : (a : Bool) (at : ℕ) → at < round → lent.shifted a at < round
within true at h = omega arith
within false at h = h

answered : (c : Called) (at : ℕ) (e : List ℕ) → at < round → Reached c.splicer
    → let k = lent.shifted c.accepted at in
    Answers c at e (answer_of c.answer c.moved) (stood (seen k c.splicer)) (standing c.splicer.name c.splicer.hardware)
    (buffer_after c.answer e)
answered c at e low r =
    let s = c.splicer in
    let k = lent.shifted c.accepted at in
    let x = reached-sound s r in
    let w = stood-now (seen k s) x.linking.four (few-wait x.holding) (few-started x.holding)
    (waiting-of-four s.clock s.queue x.holding) (within c.accepted at low) (all-flagged s.clock s.queue x.holding)
    x.lately.sixteen x.lately.next in
    let b = stands s.name s.hardware x.linking.zeros (omega (arith, x.linking.short)) x.linking.keeping x.linking.kept
    in
    let same : shown (memory_of k s) ≡ s =
    λ i. record {
      name = b.name i;
      clock = (w.is i).clock;
      primary = (w.is i).primary;
      links = (w.is i).links;
      hardware = b.kept i;
      queue = (w.is i).queue;
    } in
    record {
      lent = record {
        whole = record { words = w.form; bytes = b.stored };
        reached = subst (λ (t : Splicer). Reached t) (sym same) r;
      };
      splicer = same;
      ring = ap (λ (y : lent.Memory). y.ring_end) w.is;
      answer = refl;
      buffer = refl;
    }

module _ (m : Memory) (l : Lent m.words m.bytes) where
  given : (i : Input) → Typed i → Reached (call (call_of i) (shown m)).splicer
  given i t = reached-call (shown m) (call_of i) (wired i t) l.reached

  abbrev at : ℕ
  at = (lent.see m.words).ring_end

  abbrev found : Input → Result
  found i = result_of (call (call_of i) (shown m)) at (buffer_of i)

  allows : (i : Input) → Typed i
      → let r = found i in
      Answers (call (call_of i) (shown m)) at (buffer_of i) r.answer r.memory.words r.memory.bytes r.buffer
  allows i t = answered (call (call_of i) (shown m)) at (buffer_of i) l.whole.words.ring (given i t)

  pub answerable : (i : Input) → Typed i → Answerable m i
  unfolding call
  answerable (an_open c) t = record { result = found (an_open c); allowed = allows (an_open c) t }
  answerable (a_close c e) t = record { result = found (a_close c e); allowed = allows (a_close c e) t }
  answerable (a_message c b pm im e) t = record { result = found (a_message c b pm im e); allowed = allows (a_message c b pm im e) t }
  answerable (a_tick seconds micros e) t =
      record { result = found (a_tick seconds micros e); allowed = allows (a_tick seconds micros e) t }
  answerable (a_move until e) t = record { result = found (a_move until e); allowed = allows (a_move until e) t }
  answerable (a_cue x pts seconds micros e) t =
      record { result = found (a_cue x pts seconds micros e); allowed = allows (a_cue x pts seconds micros e) t }

-- ## Any calls

module _ (name : List ℕ) (long : length name ≡ 32) (bytes : All Byte name) where
  pub runs : (is : List Input) → All Typed is → Run name is
  runs is t = go (has_zero name) refl
    where
      from : (b : List ℕ) (a : Answer) → Answers (fresh name) 0 [] a (replicate lent.words 0) b [] → Run name is
      from b a p =
          any.runs device LentAt lent-next answerable name long bytes a
          (record { words = replicate lent.words 0; bytes = b }) p p.lent is t

      go : (z : Bool) → has_zero name ≡ z → Run name is
      go true e =
          from (blank (name_in name)) (Ok (record { consumed = 0; written = 0; moved = 0 }))
          (fresh-good name long bytes cleared-now (named (name_in name) (name_in-zero name) (omega (arith, name-short name))) e)
      go false e =
          from (blank []) (Err BadName)
          (fresh-bad name long bytes cleared-now (named [] refl (omega arith)) e)

-- Ends in the answers' bytes: each is of an accepted session that had none, and a flag 1 only of one whose start was written.
-- Rests on Laws, Book and on the bytes giving back their records.
use mathlib.Core.Path.{◌≡◌, refl, ap, ◌∙◌}
use mathlib.Core.Bool.{Bool, true, false, cond, ◌&&◌}
use mathlib.Core.List.{List, [], ◌∷◌, ◌++◌}
use Prim.Native.Nat.{ℕ, zero, suc, ◌+◌, ◌-◌, ◌≤◌}
use native.Mathlib.Omega.{arith}
use lib.Dec.{eqb}
use Rattle.rules.specs.Units.{time_of, from_micros}
use Rattle.rules.specs.Lists.{All, bit}
use Rattle.rules.specs.Bytes.{has_zero}
use Rattle.rules.specs.Follows.ReadBack.{is_splice}
use Rattle.rules.specs.State.{Queue, Splicer, is}
use Rattle.rules.specs.Records.{Record}
use Rattle.rules.specs.Follows.ReadBack.{records_in}
use Rattle.rules.specs.Ends.{Turn, quiet, writes, and_then, evicted, closed_by}
use Rattle.rules.specs.Splicing.{requested, accepts, accepted}
use Rattle.rules.specs.HouseNumbers.{Answer, refused, good, Called, written_by}
use Rattle.rules.specs.Calls.{Call, opens, closes, messages, ticks, moves, cues, ticked, call}
use Rattle.rules.specs.Calls.{after, named, fresh}
use Rattle.demands.specs.History.{Event, Entry, entry_is, is_start, starts_of, ends_of, reply_of, history, front, others_of, book}
use Rattle.rules.specs.Follows.Sound.{held_count, Once, Wired, Sound}
use Rattle.rules.proofs.Tests.{by}
use Rattle.rules.proofs.Count.{count-append}
use Rattle.rules.proofs.Fitted.{records_of}
use Rattle.rules.proofs.Sound.{sound-call, sound-fresh, sound-found}
use Rattle.demands.specs.Told.{FromFresh, is_out, outs_of, started_replied, started_told, unended}
use Rattle.demands.proofs.Laws.{tally, Law, plain-law, quiet-law, evicted-law, closed_by-law, answered-law, tick-law}
use Rattle.demands.proofs.Cases.{cases}
use Rattle.demands.proofs.Waiting.{front-last}
use Rattle.demands.proofs.Room.{from-sound}
use Rattle.demands.proofs.Book.{Settled, Owed}
use Rattle.demands.proofs.Once.{book-told}

own-none : (k : Call) → others_of k [] ≡ []
unfolding others_of front
own-none (opens c) = refl
own-none (closes c room) = refl
own-none (messages c l loans) = by (λ (rs : List Record). rs ≡ []) (is_splice l) _ _ (λ e. refl) (λ e. refl)
own-none (ticks seconds micros room) = refl
own-none (moves until room) = refl
own-none (cues l pts seconds micros room) = refl

-- a call k with the records rs, from the sessions q to u
record Airs (c x : ℕ) (q u : Queue) (k : Call) (rs : List Record) : Type 0 where
  ends : ends_of c x (others_of k rs) ≤ held_count q (is c x)
  started : (tally c x q.started + starts_of c x rs) - ends_of c x (others_of k rs) ≡ tally c x u.started
  outs : outs_of c x rs ≤ tally c x q.started + starts_of c x rs

module _ (c x : ℕ) where
  -- a piece of work, and an own answer that says nothing of it
  airs-turn : (q u : Queue) (t : Turn) (k : Call) (rs : List Record) → Once q → Law c x q t
      → tally c x u.started ≡ tally c x t.queue.started
      → ends_of c x (others_of k rs) ≡ ends_of c x t.written → starts_of c x rs ≡ starts_of c x t.written
      → outs_of c x rs ≡ outs_of c x t.written → Airs c x q u k rs
  airs-turn q u t k rs once l same e s o =
      let z = once c x in
      record { ends = omega (arith, l.kept); started = omega (arith, l.kept, l.grown, l.begun); outs = omega (arith, l.aired) }

  module _ (s : Splicer) (once : Once s.queue) where
    abbrev q : Queue
    q = s.queue

    abbrev P : Call → Called → Type 0
    P k r = Airs c x q r.splicer.queue k (records_of r.answer)

    call-airs : (k : Call) → P k (call k s)
    unfolding others_of front accepted and_then is_start is_out ticked
    call-airs =
        cases s P (record {
          refusing = λ k n. airs-turn q q (quiet q) k [] once (quiet-law c x q) refl (rw (own-none k)) refl refl;
          opening = λ d low e. airs-turn q q (quiet q) (opens d) [] once (quiet-law c x q) refl refl refl refl;
          closing = λ d room low e. airs-turn q _ (closed_by d q) (closes d room) _ once (closed_by-law c x d q) refl refl refl refl;
          saying = λ d l loans n rs e p. airs-turn q q (writes rs q) (messages d l loans) rs once (plain-law c x q rs p) refl (rw e) refl
              refl;
          naming = λ d l loans n r hw e p. airs-turn q q (writes (r ∷ []) q) (messages d l loans) (r ∷ []) once (plain-law c x q (r ∷ []) p)
              refl (rw e) refl refl;
          aborting = λ d l loans n y e i. airs-turn q _ _ (messages d l loans) _ once (answered-law c x d y q) refl (rw e) refl refl;
          declining = λ d l loans n r e y o. airs-turn q q (quiet q) (messages d l loans) (r ∷ []) once (quiet-law c x q) refl (rw e)
              (omega (arith, ap bit (o.starts c x))) (omega (arith, ap bit (o.outs c x)));
          accepting = λ d l loans n r e f p. let new = requested d r q in
              let t = evicted new.start.0 q in
              let one = accepts new ∷ [] in
              airs-turn q _ t (messages d l loans) (t.written ++ one) once (evicted-law c x new.start.0 q) refl
              (rw (e, front-last t.written (accepts new)))
              (omega (arith, count-append (is_start c x) t.written one)) (omega (arith, count-append (is_out c x) t.written one));
          ticking = λ seconds micros room le. airs-turn q _ _ (ticks seconds micros room) _ once
              (tick-law c x s.clock (from_micros (time_of seconds micros)).0 q) refl refl refl refl;
          moving = λ until room le. airs-turn q _ _ (moves until room) _ once (tick-law c x s.clock until q) refl refl refl refl;
          cueing = λ l pts seconds micros room rs p. airs-turn q q (writes rs q) (cues l pts seconds micros room) rs once
              (plain-law c x q rs p) refl refl refl refl;
        })

  -- ## What has started, from the answers

  replied-started : (k : Call) (a : Answer) (n : ℕ) → records_in (written_by a) ≡ records_of a
      → started_replied c x k (reply_of a) n ≡ (n + starts_of c x (records_of a)) - ends_of c x (others_of k (records_of a))
  unfolding started_replied
  replied-started k (refused m) n e = rw (own-none k) (omega arith)
  replied-started k (good consumed rs) n e = rw e

  started-after : (ks : List Call) (s : Splicer) → All Wired ks → Sound s
      → started_told c x (history ks s) (tally c x s.queue.started) ≡ tally c x (after ks s).queue.started
  unfolding started_told history after
  started-after [] s a h = refl
  started-after (k ∷ ks) s a h =
      let r = call k s in
      ap (started_told c x (history ks r.splicer))
      (replied-started k r.answer (tally c x s.queue.started) (sound-found s k a.0 h) ∙ (call-airs s h.holding.once k).started)
      ∙ started-after ks r.splicer a.1 (sound-call s k a.0 h)

  -- after a call, from its answer
  pub call-started : (k : Call) (s : Splicer) → Wired k → Sound s
      → started_replied c x k (reply_of (call k s).answer) (tally c x s.queue.started) ≡ tally c x (call k s).splicer.queue.started
  call-started k s w h = replied-started k (call k s).answer (tally c x s.queue.started) (sound-found s k w h)
      ∙ (call-airs s h.holding.once k).started

  pub fresh-started : (name : List ℕ) → tally c x (fresh name).splicer.queue.started ≡ 0
  unfolding fresh named
  fresh-started name = by (λ (r : Called). tally c x r.splicer.queue.started ≡ 0) (has_zero name) _ _ (λ e. refl) (λ e. refl)

  started-told : (h : List Event) (s : Splicer) → FromFresh h s → started_told c x h 0 ≡ tally c x s.queue.started
  started-told h s f =
      rw (f.heard, f.same, ← (fresh-started f.name)) (started-after f.calls (fresh f.name).splicer f.wired
      (sound-fresh f.name f.whole f.bytes))

  -- ## What has had no end, from the answers

  owed-unended : (n : ℕ) (es : List Entry) → Owed c x n es → n ≤ unended c x es
  owed-unended n [] f = omega arith
  owed-unended n (e ∷ es) f = go (entry_is c x e) f (owed-unended n es)
    where
      one : (m : ℕ) → m + n ≡ 1 → n ≤ bit (eqb m 0)
      one zero h = omega arith
      one (suc m) h = omega arith

      go : (b : Bool) → cond {A = Type 0} b ((e.ends + n ≡ 1) × (e.closed ≡ true → n ≡ 0) × Settled c x es) (Owed c x n es)
          → (Owed c x n es → n ≤ unended c x es)
          → n ≤ bit (b && eqb e.ends 0) + unended c x es
      go true f ih = omega (arith, one e.ends f.0)
      go false f ih = omega (arith, ih f)

  module _ (h : List Event) (s : Splicer) (f : FromFresh h s) (k : Call) (w : Wired k) where
    airs : Airs c x s.queue (call k s).splicer.queue k (records_in (written_by (call k s).answer))
    airs = let d = from-sound h s f in rw (sound-found s k w d) (call-airs s d.holding.once k)

    pub ends-accepted : ends_of c x (others_of k (records_in (written_by (call k s).answer))) ≤ unended c x (book h [])
    ends-accepted = omega (arith, airs.ends, owed-unended (held_count s.queue (is c x)) (book h []) ((book-told h s f).owed c x))

    pub outs-started : outs_of c x (records_in (written_by (call k s).answer)) ≤ started_told c x h 0
        + starts_of c x (records_in (written_by (call k s).answer))
    outs-started = omega (arith, airs.outs, started-told h s f)

-- What calls do to each session held: nothing but an acceptance adds one, and only the time on air of one changes. Assumes nothing.
use mathlib.Core.Path.{◌≡◌, refl}
use mathlib.Core.Bool.{Bool}
use Prim.Native.Nat.{ℕ, ◌+◌, ◌*◌, ◌≤◌}
use native.Mathlib.Omega.{arith}
use lib.Dec.{ltb}
use lib.ListN.{length, get_or}
use borrow.Author.Tests.{ltb-true}
use Rattle.rules.specs.declared.Session.{Session}
use Rattle.rules.specs.declared.Request.{Request}
use Rattle.rules.specs.Lists.{bit, count, place, remove_at}
use Rattle.rules.specs.State.{Queue, Splicer, empty, starts_at, starts_after, held, with_waiting}
use Rattle.rules.specs.Ends.{Turn, and_then, evicted}
use Rattle.rules.specs.Instants.{may_start, ousted, launched, start_at, end_at, instant, playing, elapse, run_all}
use Rattle.rules.specs.Splicing.{requested, accepted, inserted}
use Rattle.rules.specs.Calls.{Call}
use Rattle.rules.proofs.Tests.{by}
use Rattle.rules.proofs.Count.{count-append, count-remove_at, count-insert_at}
use Rattle.rules.proofs.Every.{all_get_d, all_inserted, Fewer, fewer-same, fewer-then, fewer-remove_at, fewer-all, fewer-count, Each}
use Rattle.rules.proofs.Every.{FewerHeld, fewer-each}
use Rattle.rules.proofs.Leaving.{failed-fewer, ousted-fewer, end_at-fewer, evicted-fewer, aborted-fewer, closed_by-fewer}
use Rattle.rules.proofs.Always.{Admitted, KeptHeld}
use Rattle.rules.proofs.Tick.{all-on_air, count-on_air, run-law}
pub use Rattle.rules.specs.Follows.Sound.{held_count}

-- ## A fact of each session

module _ (P : Session → Type 0) (plays : (d : ℕ) (s : Session) → P s → P (playing d s)) where
  pub each-elapse : (d : ℕ) (q : Queue) → Each P q → Each P (elapse d q)
  unfolding elapse
  each-elapse d q h = record { waiting = h.waiting; started = all-on_air P plays d q.started h.started }

  each-launched : (s : Session) (q : Queue) → P s → Each P q → Each P (launched s q).queue
  unfolding launched and_then
  each-launched s q a h =
      by (λ (r : Turn). Each P r.queue) (may_start s q.started) _ _
      (λ e. let k = fewer-each P q (ousted s q).queue (ousted-fewer s q) h in record { waiting = k.waiting; started = (a, k.started) })
      (λ e. fewer-each P q _ (failed-fewer s q) h)

  each-start_at : (t : ℕ) (q : Queue) → Each P q → Each P (start_at t q).queue
  unfolding start_at
  each-start_at t q h =
      let i = place (starts_at t) q.waiting in
      by (λ (r : Turn). Each P r.queue) (ltb i (length q.waiting)) _ _
      (λ e. each-launched (get_or q.waiting i empty) (with_waiting (remove_at i q.waiting) q)
      (all_get_d P q.waiting i empty (ltb-true i (length q.waiting) e) h.waiting)
      (record { waiting = fewer-all P (fewer-remove_at i q.waiting) h.waiting; started = h.started }))
      (λ e. h)

  pub each-instant : (t : ℕ) (q : Queue) → Each P q → Each P (instant t q).queue
  unfolding instant and_then
  each-instant t q h = each-start_at t (end_at t q).queue (fewer-each P q (end_at t q).queue (end_at-fewer q t) h)

  pub each-tick : (now until : ℕ) (q : Queue) → Each P q → Each P (run_all now until q).queue
  unfolding run_all
  each-tick now until q h =
      run-law (λ u t. Each P u → Each P t.queue) (λ d u k. each-elapse d u k) (λ t u k. each-instant t u k) (λ u a b f g k. g (f k))
      (2 * length q.waiting + length q.started) now until q h

  pub each-accepted : (s : Session) (q : Queue) → P s → Each P q → Each P (accepted s q).queue
  unfolding accepted and_then
  each-accepted s q a h =
      let u = (evicted s.start.0 q).queue in
      let e = fewer-each P q u (evicted-fewer s.start.0 q) h in
      record { waiting = all_inserted P s u.waiting a e.waiting; started = e.started }

  pub each-kept : {F : Call → Type 0} → ((s : Splicer) (c : ℕ) (r : Request) → Admitted F s c r → Each P s.queue
      → P (requested c r s.queue))
      → KeptHeld F (λ now q. Each P q)
  each-kept new =
      record {
        closing = λ now q c h. fewer-each P q _ (closed_by-fewer c q) h;
        aborting = λ now q c x e h. fewer-each P q _ (aborted-fewer c x q) h;
        accepting = λ s c r a h. each-accepted (requested c r s.queue) s.queue (new s c r a h) h;
        ticking = λ now until q le h. each-tick now until q h;
      }

-- ## Counts of what is held

pub count_held : (p : Session → Bool) (q : Queue) → count p (held q) ≡ held_count q p
count_held p q = count-append p q.waiting q.started

pub fewer-held : (p : Session → Bool) (q r : Queue) → FewerHeld q r → held_count r p ≤ held_count q p
fewer-held p q r f = omega (arith, fewer-count p f.waiting, fewer-count p f.started)

pub count-accepted : (p : Session → Bool) (s : Session) (q : Queue) → count p (accepted s q).queue.waiting ≡ bit (p s)
    + count p (evicted s.start.0 q).queue.waiting
unfolding accepted and_then inserted
count-accepted p s q =
    let w = (evicted s.start.0 q).queue.waiting in
    count-insert_at p (place (starts_after s.start.0) w) s w

pub held-accepted : (p : Session → Bool) (s : Session) (q : Queue)
    → held_count (accepted s q).queue p ≡ bit (p s) + held_count (evicted s.start.0 q).queue p
unfolding accepted and_then
held-accepted p s q = omega (arith, count-accepted p s q, started)
  where
    started : count p (accepted s q).queue.started ≡ count p (evicted s.start.0 q).queue.started
    started = refl

-- p does not look at the time on air
module _ (p : Session → Bool) (plays : (d : ℕ) (s : Session) → p (playing d s) ≡ p s) where
  held-launched : (s : Session) (q : Queue) → held_count (launched s q).queue p ≤ bit (p s) + held_count q p
  unfolding launched and_then
  held-launched s q =
      by (λ (r : Turn). held_count r.queue p ≤ bit (p s) + held_count q p) (may_start s q.started) _ _
      (λ e. omega (arith, fewer-held p q (ousted s q).queue (ousted-fewer s q)))
      (λ e. omega (arith, fewer-held p q _ (failed-fewer s q)))

  held-start_at : (t : ℕ) (q : Queue) → held_count (start_at t q).queue p ≤ held_count q p
  unfolding start_at
  held-start_at t q =
      let i = place (starts_at t) q.waiting in
      by (λ (r : Turn). held_count r.queue p ≤ held_count q p) (ltb i (length q.waiting)) _ _
      (λ e. omega (
        arith,
        count-remove_at p i q.waiting empty (ltb-true i (length q.waiting) e),
        held-launched (get_or q.waiting i empty) (with_waiting (remove_at i q.waiting) q),
      ))
      (λ e. omega arith)

  pub held-instant : (t : ℕ) (q : Queue) → held_count (instant t q).queue p ≤ held_count q p
  unfolding instant and_then
  held-instant t q = omega (arith, held-start_at t (end_at t q).queue, fewer-held p q (end_at t q).queue (end_at-fewer q t))

  pub held-elapse : (d : ℕ) (q : Queue) → held_count (elapse d q) p ≡ held_count q p
  unfolding elapse
  held-elapse d q = omega (arith, count-on_air p plays d q.started)

  pub held-tick : (now until : ℕ) (q : Queue) → held_count (run_all now until q).queue p ≤ held_count q p
  unfolding run_all
  held-tick now until q =
      run-law (λ u t. held_count t.queue p ≤ held_count u p) (λ d u. omega (arith, held-elapse d u)) (λ t u. held-instant t u)
      (λ u a b f g. omega (arith, f, g))
      (2 * length q.waiting + length q.started) now until q

-- ## A tick only takes from the waiting

waiting-launched : (s : Session) (q : Queue) → Fewer q.waiting (launched s q).queue.waiting
unfolding launched and_then
waiting-launched s q =
    by (λ (r : Turn). Fewer q.waiting r.queue.waiting) (may_start s q.started) _ _ (λ e. (ousted-fewer s q).waiting)
    (λ e. (failed-fewer s q).waiting)

waiting-start_at : (t : ℕ) (q : Queue) → Fewer q.waiting (start_at t q).queue.waiting
unfolding start_at
waiting-start_at t q =
    let i = place (starts_at t) q.waiting in
    by (λ (r : Turn). Fewer q.waiting r.queue.waiting) (ltb i (length q.waiting)) _ _
    (λ e. fewer-then (fewer-remove_at i q.waiting) (waiting-launched (get_or q.waiting i empty)
    (with_waiting (remove_at i q.waiting) q)))
    (λ e. fewer-same q.waiting)

pub waiting-instant : (t : ℕ) (q : Queue) → Fewer q.waiting (instant t q).queue.waiting
unfolding instant and_then end_at
waiting-instant t q = waiting-start_at t (end_at t q).queue

pub waiting-tick : (now until : ℕ) (q : Queue) → Fewer q.waiting (run_all now until q).queue.waiting
unfolding run_all elapse
waiting-tick now until q =
    run-law (λ u t. Fewer u.waiting t.queue.waiting) (λ d u. fewer-same u.waiting) waiting-instant (λ u a b f g. fewer-then f g)
    (2 * length q.waiting + length q.started) now until q

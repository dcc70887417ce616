-- The AccessTypes of the started fall strictly and are at most 9, so at most ten have started. Assumes nothing.
use mathlib.Core.Path.{◌≡◌, refl}
use mathlib.Core.Bool.{true, false}
use mathlib.Core.List.{List, [], ◌∷◌}
use Prim.Native.Nat.{ℕ, ◌+◌, ◌*◌, ◌≤◌, ◌<◌}
use native.Mathlib.Omega.{arith}
use lib.Dec.{eqb, ltb}
use lib.ListN.{length, get_or}
use borrow.Author.Tests.{eqb-true, eqb-false, ltb-true}
use Rattle.rules.specs.declared.Session.{Session}
use Rattle.rules.specs.Lists.{place, remove_at}
use Rattle.rules.specs.State.{Queue, empty, starts_at, with_waiting}
use Rattle.rules.specs.Ends.{Turn, and_then, dismissed}
use Rattle.rules.specs.Instants.{outranks, may_start, meets_equal, ousted, launched, start_at, end_at, instant, on_air, elapse, run_all}
use Rattle.rules.specs.Splicing.{requested, accepted}
use Rattle.rules.specs.Calls.{Call, fresh, after}
use Rattle.rules.proofs.Tests.{clash, by, and_both}
use Rattle.rules.proofs.All.{All, all-into}
use Rattle.rules.proofs.Every.{Fewer, none, less, stay, fewer-all}
use Rattle.rules.proofs.Leaving.{end_at-fewer, evicted-started, aborted-fewer, closed_by-fewer}
use Rattle.rules.proofs.Always.{KeptHeld, held-always}
use Rattle.rules.proofs.Tick.{run-law}
pub use Rattle.rules.specs.Follows.Sound.{Falling}

pub fewer-falling : {k l : List Session} → Fewer k l → Falling k → Falling l
fewer-falling none f = tt
fewer-falling (less h) f = fewer-falling h f.1
fewer-falling (stay {x = s} h) f = (fewer-all (λ u. u.access < s.access) h f.0, fewer-falling h f.1)

-- one that may start and meets no equal one is above all
falling-push : (s : Session) (k : List Session) → may_start s k ≡ true → meets_equal s k ≡ false → Falling k → Falling (s ∷ k)
unfolding may_start meets_equal
falling-push s [] e n f = (tt, tt)
falling-push s (a ∷ k) e n f =
    let b = and_both (eqb s.overrides 1) (outranks s a) e in
    let o = eqb-true s.overrides 1 b.0 in
    let l = ltb-true a.access (s.access + s.overrides) b.1 in
    let d = eqb-false a.access s.access n in
    let h : a.access < s.access = omega arith in
    ((h, all-into (λ u. u.access < a.access) (λ u. u.access < s.access) (λ u i. omega arith) k f.0), f)

-- one that meets an equal one takes its place
falling-equal : (s : Session) (k : List Session) → meets_equal s k ≡ true → Falling k → Falling (s ∷ remove_at 0 k)
unfolding meets_equal remove_at
falling-equal s [] e f = absurd (clash false e refl)
falling-equal s (a ∷ k) e f =
    let h = eqb-true a.access s.access e in
    (all-into (λ u. u.access < a.access) (λ u. u.access < s.access) (λ u i. omega arith) k f.0, f.1)

pub falling-on_air : (d : ℕ) (k : List Session) → Falling k → Falling (on_air d k)
unfolding on_air
falling-on_air d [] f = f
falling-on_air d (s ∷ k) f = f

falling-ousted : (s : Session) (q : Queue) → may_start s q.started ≡ true → Falling q.started
    → Falling (s ∷ (ousted s q).queue.started)
unfolding ousted and_then dismissed
falling-ousted s q m f =
    by (λ (r : Turn). Falling (s ∷ r.queue.started)) (meets_equal s q.started) _ _ (λ e. falling-equal s q.started e f)
    (λ e. falling-push s q.started m e f)

falling-launched : (s : Session) (q : Queue) → Falling q.started → Falling (launched s q).queue.started
unfolding launched and_then dismissed
falling-launched s q f = by (λ (r : Turn). Falling r.queue.started) (may_start s q.started) _ _ (λ e. falling-ousted s q e f) (λ e. f)

pub falling-instant : (t : ℕ) (q : Queue) → Falling q.started → Falling (instant t q).queue.started
unfolding instant and_then start_at
falling-instant t q f =
    let u = (end_at t q).queue in
    let i = place (starts_at t) u.waiting in
    let g = fewer-falling (end_at-fewer q t).started f in
    by (λ (r : Turn). Falling r.queue.started) (ltb i (length u.waiting)) _ _
    (λ e. falling-launched (get_or u.waiting i empty) (with_waiting (remove_at i u.waiting) u) g) (λ e. g)

falling-tick : (now until : ℕ) (q : Queue) → Falling q.started → Falling (run_all now until q).queue.started
unfolding run_all elapse
falling-tick now until q f =
    run-law (λ u t. Falling u.started → Falling t.queue.started) (λ d u g. falling-on_air d u.started g)
    (λ t u g. falling-instant t u g) (λ u a b g h i. h (g i))
    (2 * length q.waiting + length q.started) now until q f

falling-accepted : (s : Session) (q : Queue) → Falling q.started → Falling (accepted s q).queue.started
unfolding accepted and_then
falling-accepted s q f = rw (evicted-started s.start.0 q) f

pub falling-kept : {F : Call → Type 0} → KeptHeld F (λ now q. Falling q.started)
falling-kept =
    record {
      closing = λ now q c h. fewer-falling (closed_by-fewer c q).started h;
      aborting = λ now q c x e h. fewer-falling (aborted-fewer c x q).started h;
      accepting = λ s c r a h. falling-accepted (requested c r s.queue) s.queue h;
      ticking = λ now until q le h. falling-tick now until q h;
    }

pub falling-always : (ks : List Call) (name : List ℕ) → Falling (after ks (fresh name).splicer).queue.started
falling-always = held-always (λ now q. Falling q.started) falling-kept tt

-- ## At most ten

falling-length : (s : Session) (k : List Session) → Falling (s ∷ k) → length k ≤ s.access
falling-length s [] f = omega arith
falling-length s (a ∷ k) f = omega (arith, falling-length a k f.1, f.0.0)

pub ten : (k : List Session) → Falling k → All (λ s. s.access ≤ 9) k → length k ≤ 10
ten [] f a = omega arith
ten (s ∷ k) f a = omega (arith, falling-length s k f, a.0)

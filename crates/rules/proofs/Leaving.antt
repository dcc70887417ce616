-- Ends, followers, eviction, abort and close leave fewer sessions, in their order. Assumes nothing.
use mathlib.Core.Path.{◌≡◌, refl}
use mathlib.Core.Bool.{Bool, true, false, not}
use mathlib.Core.List.{List, [], ◌∷◌}
use Prim.Native.Nat.{ℕ, ◌<◌}
use native.Mathlib.Omega.{arith}
use lib.Dec.{ltb}
use lib.ListN.{length, get_or}
use Rattle.rules.specs.declared.Session.{Session}
use Rattle.rules.specs.declared.Ending.TheVariants.{Complete, Failed, Response}
use Rattle.rules.specs.Lists.{place, remove_at}
use Rattle.rules.specs.State.{Queue, empty, of, is, starts_at, ends_at, with_waiting, with_started}
use Rattle.rules.specs.Ends.{Turn, and_then, Ends, ending, one_end, dismissed, evicted_at, evicted, cancelled, aborted, closed_by}
use Rattle.rules.specs.Instants.{failed, meets_equal, ousted, end_at}
use Rattle.rules.proofs.Tests.{clash, by}
use Rattle.rules.proofs.Every.{fewer-same, fewer-keep, fewer-remove_at, FewerHeld, held_then, held_same}
use Rattle.rules.proofs.Walk.{followed}

-- ends are kept beside those that are held
pub ending-fewer : (es : Ends) (q r : Queue) → FewerHeld q r → FewerHeld q (ending es r).queue
ending-fewer es q r f = record { waiting = f.waiting; started = f.started }

module _ (q : Queue) where
  pub dismissed-fewer : (r c x : ℕ) → FewerHeld q (dismissed r c x q).queue
  unfolding dismissed
  dismissed-fewer r c x = record { waiting = (followed c x q.waiting).fewer; started = fewer-same q.started }

  pub cancelled-fewer : (p : Session → Bool) → FewerHeld q (cancelled p q).queue
  unfolding cancelled
  cancelled-fewer p = record { waiting = fewer-keep (λ s. not (p s)) q.waiting; started = fewer-keep (λ s. not (p s)) q.started }

  pub removed-fewer : (i : ℕ) → FewerHeld q (with_waiting (remove_at i q.waiting) q)
  removed-fewer i = record { waiting = fewer-remove_at i q.waiting; started = fewer-same q.started }

  pub end_at-fewer : (t : ℕ) → FewerHeld q (end_at t q).queue
  unfolding end_at
  end_at-fewer t = record { waiting = fewer-same q.waiting; started = fewer-keep (λ s. not (ends_at t s)) q.started }

pub evicted_at-fewer : (i : ℕ) (q : Queue) → FewerHeld q (evicted_at i q).queue
unfolding evicted_at and_then
evicted_at-fewer i q =
    let s = get_or q.waiting i empty in
    let e = one_end (Response 109) s in
    let u = with_waiting (remove_at i q.waiting) q in
    held_then q _ _ (ending-fewer e q u (removed-fewer q i)) (dismissed-fewer (ending e u).queue 109 s.conn s.id)

pub evicted-fewer : (t : ℕ) (q : Queue) → FewerHeld q (evicted t q).queue
unfolding evicted
evicted-fewer t q =
    let i = place (starts_at t) q.waiting in
    by (λ (r : Turn). FewerHeld q r.queue) (ltb i (length q.waiting)) _ _ (λ e. evicted_at-fewer i q) (λ e. held_same q)

pub aborted-fewer : (c x : ℕ) (q : Queue) → FewerHeld q (aborted c x q).queue
unfolding aborted and_then
aborted-fewer c x q = held_then q _ _ (cancelled-fewer q (is c x)) (dismissed-fewer (cancelled (is c x) q).queue 116 c x)

pub closed_by-fewer : (c : ℕ) (q : Queue) → FewerHeld q (closed_by c q).queue
unfolding closed_by
closed_by-fewer c q = cancelled-fewer q (of c)

-- an equal one on air is there
pub meets-some : (s : Session) (k : List Session) → meets_equal s k ≡ true → 0 < length k
unfolding meets_equal
meets-some s [] e = absurd (clash false e refl)
meets-some s (a ∷ k) e = omega arith

pub ousted-fewer : (s : Session) (q : Queue) → FewerHeld q (ousted s q).queue
unfolding ousted and_then
ousted-fewer s q =
    let u = (ending (one_end (Complete 125) (get_or q.started 0 empty)) (with_started (remove_at 0 q.started) q)).queue in
    by (λ (r : Turn). FewerHeld q r.queue) (meets_equal s q.started) _ _
    (λ e. held_then q u _ (record { waiting = fewer-same q.waiting; started = fewer-remove_at 0 q.started }) (dismissed-fewer u _ _ _))
    (λ e. held_same q)

pub failed-fewer : (s : Session) (q : Queue) → FewerHeld q (failed s q).queue
unfolding and_then
failed-fewer s q = held_then q (ending (one_end Failed s) q).queue _ (ending-fewer (one_end Failed s) q q (held_same q))
    (dismissed-fewer _ 109 s.conn s.id)

pub evicted-started : (t : ℕ) (q : Queue) → (evicted t q).queue.started ≡ q.started
unfolding evicted evicted_at and_then dismissed
evicted-started t q =
    by (λ (r : Turn). r.queue.started ≡ q.started) (ltb (place (starts_at t) q.waiting) (length q.waiting)) _ _ (λ e. refl)
    (λ e. refl)

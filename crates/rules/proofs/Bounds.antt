-- All instants stay far below 2^64: a chain of linked starts is no longer than the waiting are many. Assumes nothing.
use mathlib.Core.Path.{◌≡◌, refl}
use mathlib.Core.Bool.{Bool, true, false}
use mathlib.Core.List.{List, [], ◌∷◌}
use Prim.Native.Nat.{ℕ, zero, suc, ◌+◌, ◌*◌, ◌≤◌, ◌<◌}
use native.Mathlib.Omega.{arith}
use lib.Dec.{eqb}
use lib.ListN.{length}
use borrow.Author.Tests.{eqb-true}
use Rattle.rules.specs.declared.Session.{Session}
use Rattle.rules.specs.Lists.{bit, count, place}
use Rattle.rules.specs.Request.{nobody}
use Rattle.rules.specs.declared.Start.{Start}
use Rattle.rules.specs.declared.Start.TheVariants.{Timed, Linked}
use Rattle.rules.specs.State.{Queue, empty, is, held}
use Rattle.rules.specs.Splicing.{start_of}
use Rattle.rules.proofs.Checks.{StartBelow}
use Rattle.rules.proofs.Tests.{failed}
use Rattle.rules.proofs.All.{All, all-into, at_all}
use Rattle.rules.proofs.Every.{all_both, none-all, Sorted, Each, all_held}
use Rattle.rules.proofs.Sessions.{held_count}
use Rattle.rules.proofs.Timed.{OnTime}
use Rattle.rules.proofs.Aired.{Played}
use Rattle.rules.proofs.Held.{Proper, Small}
use Rattle.rules.proofs.Priors.{is_prior, Tied, tied-more, prior-parts}
pub use Rattle.rules.specs.Units.{horizon}

-- the longest Duration
abbrev pub longest : ℕ
longest = 100 * 0xFFFFFFFF

-- 2^56: no instant is as late
abbrev pub never : ℕ
never = 72057594037927936

-- the prior of v is among l: v starts by the time by which all of l end
start-by : (v : Session) (n : ℕ) (l : List Session) → All (λ u. u.end.0 ≤ n) l → 0 < count (is_prior v) l → v.start.0 ≤ n
start-by v n [] a h = absurd (omega arith)
start-by v n (u ∷ l) a h = go (is_prior v u) refl (start-by v n l a.1) h
  where
    go : (b : Bool) → is_prior v u ≡ b → (0 < count (is_prior v) l → v.start.0 ≤ n) → 0 < bit b + count (is_prior v) l → v.start.0 ≤ n
    go true e ih k = omega (arith, (prior-parts v u e).2, a.0)
    go false e ih k = ih (omega arith)

-- none of those that start with v or after it is its prior
prior-none : (v : Session) (w : List Session) → All (λ u. v.start.0 ≤ u.start.0) w → All Proper w → count (is_prior v) w ≡ 0
prior-none v w a b =
    none-all (is_prior v) w (all-into (λ u. (v.start.0 ≤ u.start.0) × Proper u) (λ u. is_prior v u ≡ false)
    (λ u h. failed (is_prior v u) (λ e. omega (arith, (prior-parts v u e).2, h.0, h.1.lasts))) w
    (all_both (λ u. v.start.0 ≤ u.start.0) Proper w a b))

-- the waiting in order of start: a are those before w
reach : (a w k : List Session) → Sorted w → All Proper w → All Small w → All (Tied (λ p. count p a + (count p w + count p k))) w
    → All (λ u. u.end.0 ≤ horizon + suc (length a) * longest) a → All (λ u. u.end.0 ≤ horizon + longest) k
    → All (λ u. u.end.0 ≤ horizon + suc (length a + length w) * longest) w
reach a [] k o p m t before up = tt
reach a (v ∷ w) k o p m t before up =
    let h = start (eqb v.prior nobody) refl in
    let e : v.end.0 ≤ horizon + suc (suc (length a)) * longest = omega (arith, m.0.duration) in
    let on = reach (v ∷ a) w k o.1 p.1 m.1
    (tied-more (λ r. count r a + (count r (v ∷ w) + count r k)) (λ r. count r (v ∷ a) + (count r w + count r k)) (λ r. omega arith) w
    t.1) (
      e,
      all-into (λ u. u.end.0 ≤ horizon + suc (length a) * longest) (λ u. u.end.0 ≤ horizon + suc (suc (length a)) * longest)
          (λ u i. omega arith) a before,
    ) up in (
      omega arith,
      all-into (λ u. u.end.0 ≤ horizon + suc (suc (length a) + length w) * longest)
          (λ u. u.end.0 ≤ horizon + suc (length a + suc (length w)) * longest) (λ u i. omega arith) w on,
    )
  where
    start : (b : Bool) → eqb v.prior nobody ≡ b → v.start.0 ≤ horizon + suc (length a) * longest
    start true e = let i = m.0.timed (eqb-true v.prior nobody e) in omega arith
    start false e =
        let z = prior-none v (v ∷ w) (
          omega arith,
          all-into (λ u. v.start.0 < u.start.0) (λ u. v.start.0 ≤ u.start.0)
              (λ u i. omega arith) w o.0,
        ) p in
        found (t.0 e) z
      where
        found : 0 < count (is_prior v) a + (count (is_prior v) (v ∷ w) + count (is_prior v) k) → count (is_prior v) (v ∷ w) ≡ 0
            → v.start.0 ≤ horizon + suc (length a) * longest
        found d z = split (count (is_prior v) a) refl
          where
            split : (n : ℕ) → count (is_prior v) a ≡ n → v.start.0 ≤ horizon + suc (length a) * longest
            split zero i = omega (arith, start-by v (horizon + longest) k up (omega (arith, d, z)))
            split (suc n) i = start-by v (horizon + suc (length a) * longest) a before (omega arith)

-- no end
pub ends-early : (now : ℕ) (q : Queue) → now < horizon → OnTime now q → Played now q → Each Proper q → Each Small q
    → All (Tied (held_count q)) q.waiting
    → length q.waiting ≤ 64 → Each (λ s. s.end.0 < never) q
ends-early now q early timed played proper small tied few =
    let up : All (λ u. u.end.0 ≤ horizon + longest) q.started =
    all-into (λ u. (u.start.0 + u.played.0 ≤ now) × Small u) (λ u. u.end.0 ≤ horizon + longest)
    (λ u h. omega (arith, h.0, h.1.duration)) q.started
    (all_both (λ u. u.start.0 + u.played.0 ≤ now) Small q.started played.since small.started) in
    let w = reach [] q.waiting q.started timed.sorted proper.waiting small.waiting
    (tied-more (held_count q) (λ p. count p [] + (count p q.waiting + count p q.started)) (λ p. omega arith) q.waiting tied) tt up
    in
    record {
      waiting = all-into (λ u. u.end.0 ≤ horizon + suc (0 + length q.waiting) * longest) (λ u. u.end.0 < never) (λ u i. omega arith)
          q.waiting w;
      started = all-into (λ u. u.end.0 ≤ horizon + longest) (λ u. u.end.0 < never) (λ u i. omega arith) q.started up;
    }

-- nor is the start of any request, before it is checked
pub start-early : (c : ℕ) (f : Start) (q : Queue) → StartBelow f → Each (λ s. s.end.0 < never) q → start_of c f q < never
unfolding start_of empty
start-early c (Timed t) q h a = omega arith
start-early c (Linked p) q h a =
    at_all (λ s. s.end.0 < never) empty (held q) (omega arith) (all_held (λ s. s.end.0 < never) q a) (place (is c p) (held q))

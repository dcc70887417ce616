-- The time on air: what elapses is stored with the one that is. Assumes nothing.
use mathlib.Core.Path.{◌≡◌, refl, ap, ap₂, ◌∙◌}
use mathlib.Core.List.{List}
use Prim.Native.Nat.{ℕ, ◌+◌, ◌≤◌, ◌<◌}
use native.Mathlib.Omega.{arith}
use lib.ListN.{length, get_or, set}
use borrow.Author.Tests.{lt-ltb, le-ltb}
use Rattle.rules.specs.Instants.{playing}
use Rattle.recall_rules.specs.declared.Phase.TheVariants.{Started}
use Rattle.recall_rules.specs.declared.Verdict.{Verdict}
use Rattle.recall_rules.specs.Verdicts.{none, verdict, session_of}
use Rattle.recall_rules.specs.Work.{on_air, elapse}
use Rattle.recall_instants.specs.Moments.{Lasting}

pub lasts : (d i : ℕ) (l : List Verdict) (v : Verdict) → Lasting d l → (i ≡ on_air l) × (i < length l) → v ≡ get_or l i none
    → v.session.played.0 + d < 18446744073709551616
lasts d i l v p e f = omega (
  arith,
  p (omega (arith, e)),
  ap (λ (j : ℕ). (session_of l j).played.0) e.0,
  ap (λ (w : Verdict). w.session.played.0) f,
)

pub elapsed : (d i : ℕ) (l : List Verdict) (v : Verdict) (k : List Verdict) → (i ≡ on_air l) × (i < length l) → v ≡ get_or l i none
    → k ≡ set l i (verdict Started (playing d v.session)) → k ≡ elapse d l
unfolding elapse
elapsed d i l v k e f g =
    g ∙ ap₂ (λ (j : ℕ) (w : Verdict). set l j (verdict Started (playing d w.session))) e.0 (f ∙ ap (λ (j : ℕ). get_or l j none) e.0)
    ∙ rw (lt-ltb (on_air l) (length l) (omega (arith, e))) refl

pub elapsed-none : (d : ℕ) (l : List Verdict) → length l ≤ on_air l → l ≡ elapse d l
unfolding elapse
elapsed-none d l h = rw (le-ltb (on_air l) (length l) h) refl

-- The pieces that a start, a failed start and an instant are made of. Assumes nothing.
use mathlib.Core.Path.{◌≡◌, refl, sym, ap, ◌∙◌}
use mathlib.Core.Bool.{Bool, true, false, cond, ◌&&◌}
use mathlib.Core.List.{List, [], ◌∷◌}
use Prim.Native.Nat.{ℕ, ◌≤◌, ◌<◌}
use native.Mathlib.Omega.{arith}
use lib.Dec.{ltb}
use lib.ListN.{length, set}
use borrow.Author.Tests.{eq-eqb, ne_eqb, lt-ltb, le-ltb}
use Rattle.rules.specs.declared.Session.{Session}
use Rattle.rules.specs.declared.Ending.TheVariants.{Complete, Failed}
use Rattle.rules.specs.Records.{output}
use Rattle.rules.specs.State.{starts_at}
use Rattle.rules.specs.Instants.{began}
use Rattle.rules.proofs.Records.{length-record}
use Rattle.rules.proofs.Written.{output-one}
use Rattle.recall_rules.specs.declared.Phase.TheVariants.{Out}
use Rattle.recall_rules.specs.declared.Verdict.{Verdict}
use Rattle.recall_rules.specs.Verdicts.{is_waiting, verdict, which, session_of}
use Rattle.recall_rules.specs.Work.{Turn, quiet, and_then, on_air, may_start, ousted, started, failed, launched, start_at, end_at, instant}
use Rattle.recall_ends.specs.Does.{chain_over}
pub use Rattle.recall_ends.proofs.Laws.{first-room, next-room, both-done, as_room, as-done}
use Rattle.recall_instants.specs.Moments.{begins}

-- ## Starts

pub length-began : (s : Session) → length (output (began s ∷ [])) ≡ 23
length-began s = ap length (output-one (began s)) ∙ length-record (began s) tt

module _ (x : Session) (l : List Verdict) (i : ℕ) (e : i ≡ on_air l) where
  pub ousted-none : length l ≤ i → ousted x l ≡ quiet l
  unfolding ousted
  ousted-none h = rw (le-ltb (on_air l) (length l) (omega (arith, h, e))) refl

  module _ (air : Session) (f : air ≡ session_of l i) where
    here : air ≡ session_of l (on_air l)
    here = f ∙ ap (λ (j : ℕ). session_of l j) e

    -- an equal one is on air
    pub ousted-equal : i < length l → air.access ≡ x.access → ousted x l ≡ chain_over (Complete 125) 125 i l
    unfolding ousted
    ousted-equal h g =
        let k : (session_of l (on_air l)).access ≡ x.access = ap (λ (y : Session). y.access) (sym here) ∙ g in
        rw (lt-ltb (on_air l) (length l) (omega (arith, h, e)), eq-eqb (session_of l (on_air l)).access x.access k)
        (ap (λ (j : ℕ). chain_over (Complete 125) 125 j l) (sym e))

    -- another one is
    pub ousted-other : (air.access ≡ x.access → ⊥) → ousted x l ≡ quiet l
    unfolding ousted
    ousted-other g =
        rw (ne_eqb (session_of l (on_air l)).access x.access (λ k. g (ap (λ (y : Session). y.access) here ∙ k)))
        (none (ltb (on_air l) (length l)) _ _)
      where
        none : (b : Bool) (t u : Turn) → cond (b && false) t u ≡ u
        none true t u = refl
        none false t u = refl

module _ (i : ℕ) (l : List Verdict) (x : Session) (e : x ≡ session_of l i) where
  -- it no longer waits in k
  pub started-is : (k : List Verdict) → k ≡ set l i (verdict Out x) → started i l ≡ and_then (ousted x k) (begins i x)
  unfolding started
  started-is k f =
      ap (λ (y : Session). and_then (ousted y (set l i (verdict Out y))) (begins i y)) (sym e)
      ∙ ap (λ (j : List Verdict). and_then (ousted x j) (begins i x)) (sym f)

  may : (b : Bool) → b ≡ may_start x l → may_start (session_of l i) l ≡ b
  may b f = ap (λ (y : Session). may_start y l) (sym e) ∙ sym f

  pub launched-on : (b : Bool) → b ≡ may_start x l → b ≡ true → launched i l ≡ started i l
  unfolding launched
  launched-on b f g = rw (may b f ∙ g) refl

  pub launched-off : (b : Bool) → b ≡ may_start x l → b ≡ false → launched i l ≡ chain_over Failed 109 i l
  unfolding launched failed
  launched-off b f g = rw (may b f ∙ g) refl

module _ (t i : ℕ) (l : List Verdict) (e : i ≡ which is_waiting (starts_at t) l) where
  pub start-one : i < length l → start_at t l ≡ launched i l
  unfolding start_at
  start-one h = rw (lt-ltb (which is_waiting (starts_at t) l) (length l) (omega (arith, h, e))) (ap (λ (j : ℕ). launched j l) (sym e))

  pub start_none : length l ≤ i → start_at t l ≡ quiet l
  unfolding start_at
  start_none h = rw (le-ltb (which is_waiting (starts_at t) l) (length l) (omega (arith, h, e))) refl

pub instant-is : (t : ℕ) (l : List Verdict) → instant t l ≡ and_then (end_at t l) (start_at t)
unfolding instant
instant-is t l = refl

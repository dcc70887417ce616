-- One record compared with what is due, as the library's starts_with says it.
-- Rests on the lists' laws alone.
use mathlib.Core.Path.{◌≡◌, refl, ap}
use mathlib.Core.Bool.{true, ◌&&◌}
use mathlib.Core.List.{List, [], ◌∷◌}
use Prim.Native.Nat.{ℕ, ◌≤◌}
use native.Mathlib.Omega.{arith}
use lib.Dec.{eqb}
use lib.ListN.{length, take, length-take}
use Rattle.std.specs.Cmp.Lexicographic.{pointwise}
use Rattle.rules.specs.Lists.{same}
use Rattle.rules.proofs.Bytes.{same_true}
use Rattle.recording.specs.Recording.{begins}

-- a beginning is not longer
pub begins-within : (w d : List ℕ) → begins w d ≡ true → length w ≤ length d
unfolding begins
begins-within w d e =
    omega (arith, ap length (same_true w (take (length w) d) e), length-take (length w) d)

pub pointwise-same : (v w : List ℕ) → pointwise eqb v w ≡ same v w
pointwise-same [] [] = refl
pointwise-same [] (y ∷ w) = refl
pointwise-same (x ∷ v) [] = refl
pointwise-same (x ∷ v) (y ∷ w) = ap (λ z. eqb x y && z) (pointwise-same v w)

pub starts-begins : (w d : List ℕ) → pointwise eqb w (take (length w) d) ≡ begins w d
unfolding begins
starts-begins w d = pointwise-same w (take (length w) d)

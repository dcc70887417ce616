-- The number in a part is made of the numbers in its two halves, at any width, and of one byte it is the byte itself.
-- Rests on value-append.
use mathlib.Core.Path.{◌≡◌, ap, ◌∙◌}
use mathlib.Core.List.{List, ◌++◌}
use Prim.Native.Nat.{ℕ, ◌+◌, ◌*◌, ◌^◌, ◌≤◌, ◌<◌}
use native.Mathlib.Omega.{arith}
use lib.ListN.{length, get_or, take, drop, length-drop}
use lib.Seq.{take-add, drop-drop, length-take-le, drop-cons}
use Rattle.rules.specs.Bytes.{value_from, value, part, field}
use Rattle.rules.proofs.Bytes.{value-append}

pub field-split : (a m n : ℕ) (l : List ℕ) → a + m + n ≤ length l → field a (m + n) l ≡ field a m l * 256 ^ n + field (a + m) n l
field-split a m n l h =
    ap value (take-add m n (drop a l) ∙ ap (λ x. take m (drop a l) ++ take n x) (drop-drop m a l))
    ∙ value-append (part a m l) (part (a + m) n l)
    ∙ ap (λ x. field a m l * 256 ^ x + field (a + m) n l) (length-take-le n (drop (a + m) l) (simp length-drop (omega arith)))

pub field-one : (a : ℕ) (l : List ℕ) → a < length l → field a 1 l ≡ get_or l a 0
unfolding value_from value
field-one a l h = ap (λ x. value_from 0 (take 1 x)) (drop-cons l a 0 h) ∙ omega arith

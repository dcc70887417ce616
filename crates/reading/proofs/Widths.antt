-- What the numbers in two and in four bytes are, byte by byte. Rests on rules' law over the width.
use mathlib.Core.Path.{◌≡◌, ap, ap₂, ◌∙◌}
use mathlib.Core.List.{List}
use Prim.Native.Nat.{ℕ, ◌+◌, ◌*◌, ◌≤◌}
use native.Mathlib.Omega.{arith}
use lib.ListN.{length, get_or}
use Rattle.rules.specs.Bytes.{field}
use Rattle.rules.proofs.Values.{field-split, field-one}

pub two_bytes : (at : ℕ) (l : List ℕ) → at + 2 ≤ length l → field at 2 l ≡ get_or l at 0 * 256 + get_or l (at + 1) 0
two_bytes at l h =
    field-split at 1 1 l (omega arith)
    ∙ ap₂ (λ x y. x * 256 + y) (field-one at l (omega arith)) (field-one (at + 1) l (omega arith))

pub four_bytes : (at : ℕ) (l : List ℕ) → at + 4 ≤ length l
    → field at 4 l ≡ get_or l at 0 * 16777216 + get_or l (at + 1) 0 * 65536 + get_or l (at + 2) 0 * 256 + get_or l (at + 3) 0
four_bytes at l h =
    let low : field (at + 2) 2 l ≡ get_or l (at + 2) 0 * 256 + get_or l (at + 3) 0 =
    two_bytes (at + 2) l (omega arith) ∙ ap (λ (i : ℕ). get_or l (at + 2) 0 * 256 + get_or l i 0) (omega arith) in
    field-split at 2 2 l (omega arith)
    ∙ ap₂ (λ x y. x * 65536 + y) (two_bytes at l (omega arith)) low
    ∙ omega arith

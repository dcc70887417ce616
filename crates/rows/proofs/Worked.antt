-- 02, CR 8, "house number 16 for other than sixteen rows": by hand, of none, one, fifteen, sixteen, seventeen and 32 rows. Rests on
-- nothing.
use mathlib.Core.Path.{◌≡◌, refl}
use mathlib.Core.List.{[], ◌∷◌, map}
use Rattle.rules.specs.HouseNumbers.{house_number}
use Rattle.rows.specs.Rows.{page_number}

pub numbers : map page_number (0 ∷ 1 ∷ 15 ∷ 16 ∷ 17 ∷ 32 ∷ []) ≡ (16 ∷ 16 ∷ 16 ∷ 0 ∷ 16 ∷ 16 ∷ [])
unfolding page_number house_number
numbers = refl

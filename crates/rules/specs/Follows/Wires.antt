-- What the types say of bytes and names, and the order of a list.
use Rattle.std.specs.Prelude.{◌≡◌, false, List, [], ◌∷◌, ℕ, ◌<◌}
use Rattle.rules.specs.declared.Session.{Session}
use Rattle.rules.specs.Lists.{All}
use Rattle.rules.specs.Bytes.{has_zero}

abbrev pub Byte : ℕ → Type 0
Byte b = b < 256

abbrev pub NoZero : List ℕ → Type 0
NoZero l = has_zero l ≡ false

-- in order of start, no two alike
-- 02, CR 10: "Keep the waiting sessions ordered by start."
abbrev pub Sorted : List Session → Type 0
Sorted [] = Unit {0}
Sorted (s ∷ w) = All (λ u. s.start.0 < u.start.0) w × Sorted w

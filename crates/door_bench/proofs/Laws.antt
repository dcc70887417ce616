-- A refusal's words: its house number, which the second engine's table gives. Assumes nothing.
use mathlib.Core.Path.{◌≡◌, refl}
use mathlib.Core.List.{[], ◌∷◌}
use Prim.Native.Nat.{ℕ}
use Rattle.std.specs.Prelude.{Err}
use Rattle.rules.specs.declared.Refusal.{Refusal}
use Rattle.rules.specs.HouseNumbers.{house_number}
use Rattle.recall_log.specs.declared.Refused.TheVariants.{Rule}
use Rattle.recall_log.specs.Kept.{Reply, number_of}
use Rattle.door_bench.specs.Bench.{reply_words}

pub words-refused : {r : Reply} {n : Refusal} {x : ℕ} → r ≡ Err (Rule n) → x ≡ house_number n → x ∷ 0 ∷ 0 ∷ 0 ∷ [] ≡ reply_words r
unfolding reply_words number_of
words-refused {r} {n} {x} e f = rw (e, f) refl

-- 01, Bytes: "A descriptor reader stays on the message's own bytes and moves from one descriptor to the next."
use Rattle.std.specs.Prelude.{◌≡◌, Bool, true, false, cond, List, [], ◌∷◌, ℕ, zero, suc, ◌+◌, ◌≤◌, eqb, length, drop}
use Rattle.rules.specs.Lists.{All, some}
use Rattle.rules.specs.Follows.Descriptors.{descriptors_in, bytes_of, all_good}
use Rattle.rules.specs.Descriptors.{descriptor_length, is_mux, mux_value, good_descriptor}
use Rattle.reading.specs.declared.descriptors.Descriptor.{Descriptor}
use Rattle.reading.specs.declared.descriptors.Descriptor.TheVariants.{Mux, Foreign, End, Bad}

-- 02, CR 5: what is found of a good descriptor d that ends at the place n: "the value with its descriptor or that the tag is foreign"
abbrev pub found_as : List ℕ → ℕ → Descriptor
found_as d n = cond (is_mux d) (Mux (mux_value d) n) (Foreign n)

-- what stands at the place `at` of l: nothing more, a good descriptor with the place behind it, or what is none
unfoldable pub step_at : List ℕ → ℕ → Descriptor
step_at l at =
    cond (eqb (length (drop at l)) 0) End
    (cond (good_descriptor (drop at l)) (found_as (drop at l) (at + (2 + descriptor_length (drop at l)))) Bad)

-- ## The answers of a reader one by one

-- what f gives at the place that an answer gave
abbrev pub following : (ℕ → List Descriptor) → Descriptor → List Descriptor
following f (Mux v n) = f n
following f (Foreign n) = f n
following f End = []
following f Bad = []

-- from the place `at` on, each at the place that the last one gave, n at most
unfoldable pub found_from : ℕ → List ℕ → ℕ → List Descriptor
found_from zero l at = []
found_from (suc n) l at = step_at l at ∷ following (found_from n l) (step_at l at)

-- from place 0 on: a descriptor has bytes, and the end is one answer more
abbrev pub found : List ℕ → List Descriptor
found l = found_from (suc (length l)) l 0

-- the answers that are due for the descriptors ds, which stand from the place `at` on: for each of them, up to one that is bad, and the end
unfoldable pub due : ℕ → List (List ℕ) → List Descriptor
due at [] = End ∷ []
due at (d ∷ ds) = cond (good_descriptor d) (found_as d (at + length d) ∷ due (at + length d) ds) (Bad ∷ [])

abbrev pub is_end : Descriptor → Bool
is_end (Mux v n) = false
is_end (Foreign n) = false
is_end End = true
is_end Bad = false

-- the place that an answer gave is no further than n
abbrev pub Inside : ℕ → Descriptor → Type 0
Inside n (Mux v p) = p ≤ n
Inside n (Foreign p) = p ≤ n
Inside n End = Unit {0}
Inside n Bad = Unit {0}

-- 02, CR 5: "The descriptor reader must therefore say what it found". The descriptors of l are its bytes; the answers are these descriptors
-- in
-- their order; they come to the end exactly if all are good; and no place that is given lies outside l
pub record FoundAll (l : List ℕ) : Type 0 where
  pub whole : bytes_of (descriptors_in l) ≡ l
  pub answers : found l ≡ due 0 (descriptors_in l)
  pub ends : some is_end (found l) ≡ all_good (descriptors_in l)
  pub inside : All (Inside (length l)) (found l)

-- The descriptors of a message one by one, for the theorems about them.
use Rattle.std.specs.Prelude.{Bool, true, cond, ◌&&◌, List, [], ◌∷◌, ◌++◌, ℕ, zero, suc, ◌+◌, eqb, length, take, drop}
use Rattle.rules.specs.Lists.{put}
use Rattle.rules.specs.Descriptors.{descriptor_length, is_mux, mux_value, good_descriptor}

-- the bytes l cut behind each descriptor, as its length says; what is left at the last is what there is. n is at least their number
unfoldable pub cut : ℕ → List ℕ → List (List ℕ)
cut zero l = []
cut (suc n) l = cond (eqb (length l) 0) [] (take (2 + descriptor_length l) l ∷ cut n (drop (2 + descriptor_length l) l))

abbrev pub descriptors_in : List ℕ → List (List ℕ)
descriptors_in l = cut (length l) l

-- their bytes again
unfoldable pub bytes_of : List (List ℕ) → List ℕ
bytes_of [] = []
bytes_of (d ∷ ds) = d ++ bytes_of ds

unfoldable pub all_good : List (List ℕ) → Bool
all_good [] = true
all_good (d ∷ ds) = good_descriptor d && all_good ds

-- the muxpriority values among them, in their order
unfoldable pub mux_values : List (List ℕ) → List ℕ
mux_values [] = []
mux_values (d ∷ ds) = put (is_mux d) (mux_value d) (mux_values ds)

-- the last of l, or v where there is none
unfoldable pub last_or : ℕ → List ℕ → ℕ
last_or v [] = v
last_or v (x ∷ l) = last_or x l

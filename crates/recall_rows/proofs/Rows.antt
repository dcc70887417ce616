-- Laws of the rows of lent words: a row is read and written as an element of a list.
-- They speak of a verdict's words as a list of `width`; only `verdict_of` and `words_of` know which word is which part.
use mathlib.Core.Path.{◌≡◌, refl, sym, ap, ap₂, ◌∙◌}
use mathlib.Core.List.{List, [], ◌∷◌, ◌++◌, append_assoc}
use Prim.Native.Nat.{ℕ, zero, suc, ◌+◌, ◌*◌, ◌/◌, ◌≤◌, ◌<◌}
use native.Mathlib.Omega.{arith}
use native.Mathlib.Nat.{le_of_suc-le-suc}
use lib.ListN.{length, take, drop, set, get_or, length-set, length-drop}
use lib.Seq.{length-take-le, sets, sets-eq, take-add, drop-drop, get_or-drop}
use Rattle.recall_rules.specs.declared.Phase.{Phase}
use Rattle.recall_rules.specs.declared.Phase.TheVariants.{Out, Waits, Started, Ended}
use Rattle.recall_rules.specs.declared.Verdict.{Verdict}
use Rattle.recall_rows.specs.Rows.{width, phase_of, code_of, nth_of, result_of, verdict_of, words_of, row, verdicts_in, all, Fits}

pub length-in : (n : ℕ) (m : List ℕ) → length (verdicts_in n m) ≡ n
unfolding verdicts_in
length-in zero m = refl
length-in (suc n) m = ap suc (length-in n (drop width m))

-- as many verdicts as rows
pub length-all : (m : List ℕ) → length (all m) ≡ length m / width
length-all m = length-in (length m / width) m

rows-loaded : (n i : ℕ) (m : List ℕ) (d : Verdict) → i < n → row (drop (i * width) m) ≡ get_or (verdicts_in n m) i d
unfolding verdicts_in
rows-loaded zero i m d h = absurd (omega arith)
rows-loaded (suc n) zero m d h = refl
rows-loaded (suc n) (suc i) m d h =
    let e : suc i * width ≡ width + i * width = omega arith in
    ap (λ (k : ℕ). row (drop k m)) e ∙ ap row (sym (drop-drop (i * width) width m)) ∙ rows-loaded n i (drop width m) d (le_of_suc-le-suc h)

-- what is read from the first word of row i on
pub load_is : (n i : ℕ) (m : List ℕ) (d : Verdict) → i < n → verdict_of (λ k. get_or m (i * width + k) 0) ≡ get_or (verdicts_in n m) i d
load_is n i m d h =
    let at : verdict_of (λ k. get_or m (i * width + k) 0) ≡ row (drop (i * width) m) =
    λ j. verdict_of (λ k. sym (get_or-drop (i * width) m k 0) j) in
    at ∙ rows-loaded n i m d h

-- ## A row written

phase-back : (f : Phase) → phase_of (code_of f) (nth_of f) (result_of f) ≡ f
unfolding phase_of
phase-back Out = refl
phase-back Waits = refl
phase-back Started = refl
phase-back (Ended n r) = refl

-- its words give a verdict back
words_back : (v : Verdict) (l : List ℕ) → row (words_of v ++ l) ≡ v
words_back v l = λ i. record { phase = phase-back v.phase i; session = v.session }

-- the words vs, from the word b + k on
abbrev put : (b k : ℕ) → List ℕ → List ℕ → List ℕ
put b k [] m = m
put b k (v ∷ vs) m = put b (suc k) vs (set m (b + k) v)

put-sets : (b k : ℕ) (vs m : List ℕ) → put b k vs m ≡ sets m (b + k) vs
put-sets b k [] m = refl
put-sets b k (v ∷ vs) m =
    let e : b + suc k ≡ suc (b + k) = omega arith in
    put-sets b (suc k) vs (set m (b + k) v) ∙ ap (λ (i : ℕ). sets (set m (b + k) v) i vs) e

-- v in place of the row i
abbrev with : ℕ → List ℕ → List ℕ → List ℕ
with i m w = take (i * width) m ++ (w ++ drop (i * width + width) m)

row-with : (n i : ℕ) (m : List ℕ) (v : Verdict) → i < n → n * width ≤ length m
    → verdicts_in n (with i m (words_of v)) ≡ set (verdicts_in n m) i v
unfolding verdicts_in
row-with zero i m v h k = absurd (omega arith)
row-with (suc n) zero m v h k = ap (λ u. u ∷ verdicts_in n (drop width m)) (words_back v (drop width m))
row-with (suc n) (suc i) m v h k =
    let w = words_of v in
    let e : suc i * width ≡ width + i * width = omega arith in
    let f : width + (i * width + width) ≡ suc i * width + width = omega arith in
    let g : with (suc i) m w ≡ take width m ++ with i (drop width m) w =
    ap (λ (j : ℕ). take j m ++ (w ++ drop (suc i * width + width) m)) e
    ∙ ap (λ t. t ++ (w ++ drop (suc i * width + width) m)) (take-add width (i * width) m)
    ∙ append_assoc (take width m) (take (i * width) (drop width m)) (w ++ drop (suc i * width + width) m)
    ∙ ap (λ t. take width m ++ (take (i * width) (drop width m) ++ (w ++ t)))
    (ap (λ (j : ℕ). drop j m) (sym f) ∙ sym (drop-drop (i * width + width) width m)) in
    let long : length (take width m) ≡ width = length-take-le width m (omega arith) in
    ap (verdicts_in (suc n)) g
    ∙ ap₂ (λ u r. u ∷ r) (first-row m (with i (drop width m) w) (omega arith))
    (ap (verdicts_in n) (drop-front (take width m) (with i (drop width m) w) width long))
    ∙ ap (λ r. row m ∷ r) (row-with n i (drop width m) v (le_of_suc-le-suc h) (simp length-drop (omega arith)))
  where
    drop-front : (a b : List ℕ) (j : ℕ) → length a ≡ j → drop j (a ++ b) ≡ b
    drop-front [] b zero e = refl
    drop-front [] b (suc j) e = absurd (omega arith)
    drop-front (x ∷ a) b zero e = absurd (omega arith)
    drop-front (x ∷ a) b (suc j) e = drop-front a b j (omega arith)

    get_d_front : (a : List ℕ) (b : List ℕ) (j k : ℕ) → k < j → j ≤ length a → get_or (take j a ++ b) k 0 ≡ get_or a k 0
    get_d_front [] b zero k p q = absurd (omega arith)
    get_d_front [] b (suc j) k p q = absurd (omega arith)
    get_d_front (x ∷ a) b zero k p q = absurd (omega arith)
    get_d_front (x ∷ a) b (suc j) zero p q = refl
    get_d_front (x ∷ a) b (suc j) (suc k) p q = get_d_front a b j k (omega arith) (omega arith)

    first-row : (m b : List ℕ) → width ≤ length m → row (take width m ++ b) ≡ row m
    first-row m b q =
        rw (
          get_d_front m b width 0 (omega arith) q,
          get_d_front m b width 1 (omega arith) q,
          get_d_front m b width 2 (omega arith) q,
          get_d_front m b width 3 (omega arith) q,
          get_d_front m b width 4 (omega arith) q,
          get_d_front m b width 5 (omega arith) q,
          get_d_front m b width 6 (omega arith) q,
          get_d_front m b width 7 (omega arith) q,
          get_d_front m b width 8 (omega arith) q,
          get_d_front m b width 9 (omega arith) q,
          get_d_front m b width 10 (omega arith) q,
          get_d_front m b width 11 (omega arith) q,
          get_d_front m b width 12 (omega arith) q,
        ) refl

-- what is left when v is written from the first word of row i on
abbrev pub stored : List ℕ → ℕ → Verdict → List ℕ
stored m i v = put (i * width) 0 (words_of v) m

pub store_is : (n i : ℕ) (m : List ℕ) (v : Verdict) → i < n → Fits n m → verdicts_in n (stored m i v) ≡ set (verdicts_in n m) i v
store_is n i m v h k =
    let e : i * width + 0 ≡ i * width = omega arith in
    ap (verdicts_in n)
    (put-sets (i * width) 0 (words_of v) m ∙ ap (λ (j : ℕ). sets m j (words_of v)) e ∙ sets-eq (words_of v) m (i * width) (omega arith)
    ∙ append_assoc (take (i * width) m) (words_of v) (drop (i * width + width) m))
    ∙ row-with n i m v h k

length-put : (b k : ℕ) (vs m : List ℕ) → length (put b k vs m) ≡ length m
length-put b k [] m = refl
length-put b k (v ∷ vs) m = length-put b (suc k) vs (set m (b + k) v) ∙ length-set m (b + k) v

pub store_all : (i : ℕ) (m : List ℕ) (v : Verdict) → i < length m / width → all (stored m i v) ≡ set (all m) i v
store_all i m v h =
    ap (λ (j : ℕ). verdicts_in (j / width) (stored m i v)) (length-put (i * width) 0 (words_of v) m)
    ∙ store_is (length m / width) i m v h (omega arith)

-- ## The first n rows of more

more : (n k : ℕ) (m : List ℕ) → n ≤ k → verdicts_in n m ≡ take n (verdicts_in k m)
unfolding verdicts_in
more zero k m h = refl
more (suc n) zero m h = absurd (omega arith)
more (suc n) (suc k) m h = ap (λ l. row m ∷ l) (more n k (drop width m) (le_of_suc-le-suc h))

pub of-more : (n : ℕ) (m : List ℕ) → Fits n m → verdicts_in n m ≡ take n (all m)
of-more n m f = more n (length m / width) m (omega arith)

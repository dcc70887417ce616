-- The words of the rows: those that are lent and given back, and one row more. Rests on the laws of lists and of a row's words.
use mathlib.Core.Path.{◌≡◌, refl, sym, ap, ◌∙◌}
use mathlib.Core.List.{List, [], ◌∷◌, ◌++◌, map}
use Prim.Native.Nat.{ℕ, zero, suc, ◌+◌, ◌*◌, ◌/◌, ◌≤◌}
use native.Mathlib.Omega.{arith}
use lib.ListN.{length, take, drop, set, length-append, length-drop, get_or-append, take-append-drop}
use lib.Seq.{length-take-le, take_at, drop-append-le}
use Rattle.rules.specs.Lists.{All}
use Rattle.recall_rules.specs.declared.Verdict.{Verdict}
use Rattle.std.proofs.lemmas.List.{take_more_set}
use Rattle.recall_rows.specs.Rows.{width, row, verdicts_in, all, Fits}
use Rattle.recall_rows.proofs.Rows.{length-all, of-more}

-- ## Lists

pub map-set : {A B : Type 0} (f : A → B) (l : List A) (i : ℕ) (x : A) → map f (set l i x) ≡ set (map f l) i (f x)
map-set f [] i x = refl
map-set f (y ∷ l) zero x = refl
map-set f (y ∷ l) (suc i) x = ap (λ k. f y ∷ k) (map-set f l i x)

pub all_set : {A : Type 0} (P : A → Type 0) (l : List A) (i : ℕ) (x : A) → P x → All P l → All P (set l i x)
all_set P [] i x h a = tt
all_set P (y ∷ l) zero x h a = (h, a.1)
all_set P (y ∷ l) (suc i) x h a = (a.0, all_set P l i x h a.1)

-- ## Rows that are lent and given back: m, the words; k, those of n rows after it

module _ (n : ℕ) (m k : List ℕ) (h : Fits n m) (same : length k ≡ length (take (n * width) m)) where
  long : length k ≡ n * width
  long = same ∙ length-take-le (n * width) m h

  pub rows_back : take (n * width) (k ++ drop (n * width) m) ≡ k
  rows_back = take_at k (drop (n * width) m) (n * width) long

  pub long-back : length (k ++ drop (n * width) m) ≡ length m
  long-back = length-append k (drop (n * width) m) ∙ omega (arith, long, length-drop (n * width) m)

-- ## One row more

row-front : (a b : List ℕ) → width ≤ length a → row (a ++ b) ≡ row a
row-front a b h =
    rw (
      get_or-append a b 0 0 (omega arith),
      get_or-append a b 0 1 (omega arith),
      get_or-append a b 0 2 (omega arith),
      get_or-append a b 0 3 (omega arith),
      get_or-append a b 0 4 (omega arith),
      get_or-append a b 0 5 (omega arith),
      get_or-append a b 0 6 (omega arith),
      get_or-append a b 0 7 (omega arith),
      get_or-append a b 0 8 (omega arith),
      get_or-append a b 0 9 (omega arith),
      get_or-append a b 0 10 (omega arith),
      get_or-append a b 0 11 (omega arith),
      get_or-append a b 0 12 (omega arith),
    ) refl

in-front : (n : ℕ) (a b : List ℕ) → Fits n a → verdicts_in n (a ++ b) ≡ verdicts_in n a
unfolding verdicts_in
in-front zero a b h = refl
in-front (suc n) a b h =
    ap (λ v. v ∷ verdicts_in n (drop width (a ++ b))) (row-front a b (omega arith))
    ∙ ap (λ l. row a ∷ verdicts_in n l) (drop-append-le width a b (omega arith))
    ∙ ap (λ l. row a ∷ l) (in-front n (drop width a) b (omega (arith, length-drop width a)))

-- the verdicts of the first n rows
pub all-rows : (n : ℕ) (m : List ℕ) → Fits n m → all (take (n * width) m) ≡ verdicts_in n m
all-rows n m h =
    let l = take (n * width) m in
    let e : length l ≡ n * width = length-take-le (n * width) m h in
    let f : length l / width ≡ n = omega (arith, e) in
    ap (λ (j : ℕ). verdicts_in j l) f
    ∙ sym (in-front n l (drop (n * width) m) (omega (arith, e)))
    ∙ ap (verdicts_in n) (take-append-drop (n * width) m)

-- v is stored behind the last of n rows
pub all_more : (n : ℕ) (m k : List ℕ) (v : Verdict) → Fits (n + 1) m → Fits (n + 1) k → all k ≡ set (all m) n v
    → all (take ((n + 1) * width) k) ≡ all (take (n * width) m) ++ (v ∷ [])
all_more n m k v h g e =
    all-rows (n + 1) k g ∙ of-more (n + 1) k g ∙ ap (take (n + 1)) e
    ∙ take_more_set (all m) n v (omega (arith, length-all m))
    ∙ ap (λ l. l ++ (v ∷ [])) (sym (all-rows n m (omega arith) ∙ of-more n m (omega arith)))

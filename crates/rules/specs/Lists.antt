-- The few functions on lists and bytes that the rules are written with. Assumes nothing.
use Rattle.std.specs.Prelude.{Bool, true, false, cond, not, ◌&&◌, ◌||◌, List, [], ◌∷◌, ◌++◌, ℕ, suc, ◌+◌, eqb, take, drop}

abbrev pub bit : Bool → ℕ
bit true = 1
bit false = 0

module _ {A : Type 0} where
  -- x in front of l, if the test holds
  abbrev pub put : Bool → A → List A → List A
  put true x l = x ∷ l
  put false x l = l

  -- those of l that pass the test, in their order
  abbrev pub keep : (A → Bool) → List A → List A
  keep p [] = []
  keep p (x ∷ l) = put (p x) x (keep p l)

  -- l without those that pass the test
  abbrev pub omit : (A → Bool) → List A → List A
  omit p l = keep (λ x. not (p x)) l

  -- whether one of l passes the test
  abbrev pub some : (A → Bool) → List A → Bool
  some p [] = false
  some p (x ∷ l) = p x || some p l

  -- how many of l pass the test
  abbrev pub count : (A → Bool) → List A → ℕ
  count p [] = 0
  count p (x ∷ l) = bit (p x) + count p l

  -- the place of the first that passes the test, or the length
  unfoldable pub place : (A → Bool) → List A → ℕ
  place p [] = 0
  place p (x ∷ l) = cond (p x) 0 (suc (place p l))

  -- x at the place i, what stood there and behind it one place on
  unfoldable pub insert_at : ℕ → A → List A → List A
  insert_at i x l = take i l ++ (x ∷ drop i l)

  -- l without its place i
  unfoldable pub remove_at : ℕ → List A → List A
  remove_at i l = take i l ++ drop (suc i) l

-- P holds of each of l
module _ {A : Type 0} where
  abbrev pub All : (A → Type 0) → List A → Type 0
  All P [] = Unit {0}
  All P (x ∷ l) = P x × All P l

-- the same bytes
abbrev pub same : List ℕ → List ℕ → Bool
same [] [] = true
same [] (y ∷ m) = false
same (x ∷ l) [] = false
same (x ∷ l) (y ∷ m) = eqb x y && same l m

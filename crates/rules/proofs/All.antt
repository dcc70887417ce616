-- A fact of each element of a list.
use mathlib.Core.List.{List, [], ◌∷◌, ◌++◌}
use Prim.Native.Nat.{ℕ, zero, suc}
use lib.ListN.{get_or, take, drop, replicate}
pub use Rattle.rules.specs.Lists.{All}

module _ {A : Type 0} where
  pub all_append : (P : A → Type 0) (l m : List A) → All P l → All P m → All P (l ++ m)
  all_append P [] m a b = b
  all_append P (x ∷ l) m a b = (a.0, all_append P l m a.1 b)

  pub all_take : (P : A → Type 0) (n : ℕ) (l : List A) → All P l → All P (take n l)
  all_take P zero l a = tt
  all_take P (suc n) [] a = tt
  all_take P (suc n) (x ∷ l) a = (a.0, all_take P n l a.1)

  pub all_drop : (P : A → Type 0) (n : ℕ) (l : List A) → All P l → All P (drop n l)
  all_drop P zero l a = a
  all_drop P (suc n) [] a = tt
  all_drop P (suc n) (x ∷ l) a = all_drop P n l a.1

  pub all_replicate : (P : A → Type 0) (n : ℕ) (x : A) → P x → All P (replicate n x)
  all_replicate P zero x h = tt
  all_replicate P (suc n) x h = (h, all_replicate P n x h)

  -- from each place, as a slice has it
  pub all-at : (P : A → Type 0) (d : A) (l : List A) → ((i : ℕ) → P (get_or l i d)) → All P l
  all-at P d [] f = tt
  all-at P d (x ∷ l) f = (f 0, all-at P d l (λ i. f (suc i)))

  -- and back: d stands where none is
  pub at_all : (P : A → Type 0) (d : A) (l : List A) → P d → All P l → (i : ℕ) → P (get_or l i d)
  at_all P d [] h a i = h
  at_all P d (x ∷ l) h a zero = a.0
  at_all P d (x ∷ l) h a (suc i) = at_all P d l h a.1 i

  pub all-into : (P Q : A → Type 0) → ((x : A) → P x → Q x) → (l : List A) → All P l → All Q l
  all-into P Q f [] a = tt
  all-into P Q f (x ∷ l) a = (f x a.0, all-into P Q f l a.1)

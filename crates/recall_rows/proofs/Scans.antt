-- Laws of scans: a place in a list or none, and what is known of the first i rows. Assumes nothing.
use mathlib.Core.Path.{◌≡◌, refl, sym, ap, ◌∙◌}
use mathlib.Core.Bool.{Bool, true, false, cond, ◌&&◌}
use mathlib.Core.List.{List, [], ◌∷◌}
use Prim.Native.Nat.{ℕ, suc, ◌+◌, ◌≤◌, ◌<◌}
use native.Mathlib.Omega.{arith}
use lib.Dec.{ltb}
use lib.ListN.{length, drop, get_or, drop_of_length-le}
use lib.Seq.{drop-cons}
use borrow.Author.Tests.{ltb-true, ltb-false, lt-ltb, le-ltb}
use Rattle.rules.specs.declared.Session.{Session}
use Rattle.rules.specs.Lists.{bit, count, place}
use Rattle.rules.proofs.Count.{count-put}
use Rattle.recall_rules.specs.declared.Phase.{Phase}
use Rattle.recall_rules.specs.declared.Verdict.{Verdict}
use Rattle.recall_rules.specs.Verdicts.{standing, stands}
use Rattle.recall_rows.specs.Scans.{place_in, or_length}
use Rattle.std.specs.declared.option.Option.{Option}
use Rattle.std.specs.declared.option.Option.TheVariants.{Some, None}
use Rattle.std.specs.Option.{IfSome}
use Rattle.std.proofs.lemmas.Option.{none-some, same_Some}

-- ## A place in a list, or none

module _ {A : Type 0} (l : List A) where
  pub place-some : (i j : ℕ) → i ≡ j → i < length l → Some i ≡ place_in l j
  place-some i j e h = rw (lt-ltb j (length l) (omega (arith, e, h))) (ap (λ (k : ℕ). Some k) e)

  pub place-none : (j : ℕ) → length l ≤ j → None ≡ place_in l j
  place-none j h = rw (le-ltb j (length l) h) refl

  -- one is found
  pub found : {r : Option ℕ} {i j : ℕ} → r ≡ place_in l j → r ≡ Some i → (i ≡ j) × (i < length l)
  found {r} {i} {j} e f = go (ltb j (length l)) refl (sym e ∙ f)
    where
      go : (b : Bool) → ltb j (length l) ≡ b → cond b (Some j) None ≡ Some i → (i ≡ j) × (i < length l)
      go true g h = let k = sym (same_Some j i h) in (k, omega (arith, ltb-true j (length l) g, k))
      go false g h = absurd (none-some i h)

  -- none is
  pub missing : {r : Option ℕ} {j : ℕ} → r ≡ place_in l j → r ≡ None → length l ≤ j
  missing {r} {j} e f = go (ltb j (length l)) refl (sym e ∙ f)
    where
      go : (b : Bool) → ltb j (length l) ≡ b → cond b (Some j) None ≡ None → length l ≤ j
      go true g h = absurd (none-some j (sym h))
      go false g h = ltb-false j (length l) g

  -- the best so far, or none, is at last the place
  pub best-place : (r : Option ℕ) (j : ℕ) → IfSome r (λ b. b < length l) → or_length l r ≡ j → r ≡ place_in l j
  best-place None j h e = place-none j (omega (arith, e))
  best-place (Some b) j h e = place-some b j e h

-- ## The first that passes: none before i does, and the rest decides

abbrev pub Sought : (Verdict → Bool) → List Verdict → ℕ → Type 0
Sought p l i = (i ≤ length l) × (place p l ≡ i + place p (drop i l))

head : (l : List Verdict) (i : ℕ) (d : Verdict) → i < length l → drop i l ≡ get_or l i d ∷ drop (i + 1) l
head l i d h = let e : suc i ≡ i + 1 = omega arith in drop-cons l i d h ∙ ap (λ (j : ℕ). get_or l i d ∷ drop j l) e

pub sought-none : (p : Verdict → Bool) (l : List Verdict) → Sought p l 0
sought-none p l = (omega arith, omega arith)

pub sought-more : (p : Verdict → Bool) (l : List Verdict) (i : ℕ) (d : Verdict) → i < length l → p (get_or l i d) ≡ false → Sought p l i
    → Sought p l (i + 1)
unfolding place
sought-more p l i d h e s =
    let f : place p (drop i l) ≡ suc (place p (drop (i + 1) l)) = rw (head l i d h, e) refl in
    (omega arith, omega (arith, s.1))

pub sought-hit : (p : Verdict → Bool) (l : List Verdict) (i : ℕ) (d : Verdict) → i < length l → p (get_or l i d) ≡ true → Sought p l i
    → i ≡ place p l
unfolding place
sought-hit p l i d h e s =
    let f : place p (drop i l) ≡ 0 = rw (head l i d h, e) refl in
    omega (arith, s.1)

pub sought-out : (p : Verdict → Bool) (l : List Verdict) (i : ℕ) → length l ≤ i → Sought p l i → i ≡ place p l
unfolding place
sought-out p l i h s =
    let f : place p (drop i l) ≡ 0 = rw (drop_of_length-le l {i = i} h) refl in
    omega (arith, s.1)

-- ## How many pass

abbrev pub Counted : (Phase → Bool) → (Session → Bool) → List Verdict → ℕ → ℕ → Type 0
Counted h p l i k = (i ≤ length l) × (k ≤ i) × (count p (standing h l) ≡ k + count p (standing h (drop i l)))

module _ (h : Phase → Bool) (p : Session → Bool) (l : List Verdict) where
  pub counted_none : Counted h p l 0 0
  counted_none = (omega arith, omega arith, omega arith)

  pub counted-more : (i k : ℕ) (d : Verdict) (b : Bool) → i < length l → stands h p (get_or l i d) ≡ b → Counted h p l i k
      → Counted h p l (i + 1) (bit b + k)
  counted-more i k d b g e s =
      let v = get_or l i d in
      let f : count p (standing h (drop i l)) ≡ bit (stands h p v) + count p (standing h (drop (i + 1) l)) =
      rw (head l i d g) (count-put p (h v.phase) v.session (standing h (drop (i + 1) l))) in
      (omega arith, small b, omega (arith, s.2, f, ap bit e))
    where
      small : (b : Bool) → bit b + k ≤ i + 1
      small true = omega (arith, s.1)
      small false = omega (arith, s.1)

  pub counted-out : (i k : ℕ) → length l ≤ i → Counted h p l i k → k ≡ count p (standing h l)
  counted-out i k g s =
      let f : count p (standing h (drop i l)) ≡ 0 = rw (drop_of_length-le l {i = i} g) refl in
      omega (arith, s.2)

-- how many stand so
pub count-all : (h : Phase → Bool) (l : List Verdict) → count (λ s. true) (standing h l) ≡ count (λ v. h v.phase) l
count-all h [] = refl
count-all h (v ∷ l) = count-put (λ s. true) (h v.phase) v.session (standing h l) ∙ go (h v.phase) (count-all h l)
  where
    go : (b : Bool) → count (λ s. true) (standing h l) ≡ count (λ v. h v.phase) l
        → bit (b && true) + count (λ s. true) (standing h l) ≡ bit b + count (λ v. h v.phase) l
    go true e = omega (arith, e)
    go false e = omega (arith, e)

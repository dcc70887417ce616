-- Counts and lengths: what the functions of specs/Lists, ++ and map do to them; what stands at a place. Assumes nothing.
use mathlib.Core.Path.{◌≡◌, refl, ap, sym, ◌∙◌}
use mathlib.Core.Bool.{Bool, true, false, cond, not, ◌&&◌, ◌||◌}
use mathlib.Core.List.{List, [], ◌∷◌, ◌++◌, map}
use Prim.Native.Nat.{ℕ, zero, suc, ◌+◌, ◌≤◌, ◌<◌}
use native.Mathlib.Omega.{arith}
use lib.Dec.{ltb, leb-suc-suc}
use lib.ListN.{length, get_or}
use borrow.Author.Tests.{lt-ltb, le-ltb}
use Rattle.rules.specs.declared.Session.{Session}
use Rattle.rules.specs.declared.Ending.{Ending}
use Rattle.rules.specs.Lists.{bit, put, keep, omit, some, count, place, insert_at, remove_at}
use Rattle.rules.specs.Records.{Record}
use Rattle.rules.specs.Ends.{ended, endings}
use Rattle.rules.proofs.Tests.{clash}

pub bit≤1 : (b : Bool) → bit b ≤ 1
bit≤1 true = omega arith
bit≤1 false = omega arith

pub bit_and : (a b : Bool) → bit (a && b) ≤ bit a
bit_and true b = bit≤1 b
bit_and false b = omega arith

module _ {A : Type 0} where
  -- ## Counts

  pub count-append : (p : A → Bool) (a b : List A) → count p (a ++ b) ≡ count p a + count p b
  count-append p [] b = omega arith
  count-append p (x ∷ a) b = omega (arith, count-append p a b)

  pub count-put : (p : A → Bool) (b : Bool) (x : A) (l : List A) → count p (put b x l) ≡ bit (b && p x) + count p l
  count-put p true x l = refl
  count-put p false x l = omega arith

  -- what is kept and what is left out make up the whole
  pub count-split : (p q : A → Bool) (l : List A) → count p l ≡ count p (keep q l) + count p (omit q l)
  count-split p q [] = omega arith
  count-split p q (x ∷ l) = omega (arith, count-split p q l, both (q x))
    where
      both : (b : Bool) → count p (put b x (keep q l)) + count p (put (not b) x (omit q l)) ≡ bit (p x)
          + (count p (keep q l) + count p (omit q l))
      both true = omega arith
      both false = omega arith

  pub count_none : (p : A → Bool) → ((x : A) → p x ≡ false) → (l : List A) → count p l ≡ 0
  count_none p h [] = refl
  count_none p h (x ∷ l) = rw (h x) (omega (arith, count_none p h l))

  pub count_same : (p q : A → Bool) → ((x : A) → p x ≡ q x) → (l : List A) → count p l ≡ count q l
  count_same p q h [] = refl
  count_same p q h (x ∷ l) = rw (h x, count_same p q h l)

  pub count-le : (p q : A → Bool) → ((x : A) → bit (p x) ≤ bit (q x)) → (l : List A) → count p l ≤ count q l
  count-le p q h [] = omega arith
  count-le p q h (x ∷ l) = omega (arith, h x, count-le p q h l)

  -- tests that none passes together
  pub count-apart : (p q r : A → Bool) → ((x : A) → bit (p x) + bit (q x) ≤ bit (r x)) → (l : List A) → count p l + count q l ≤ count r l
  count-apart p q r h [] = omega arith
  count-apart p q r h (x ∷ l) = omega (arith, h x, count-apart p q r h l)

  -- leaving out what p never counts changes no count of p
  pub count-other : (p q : A → Bool) → ((x : A) → q x ≡ true → p x ≡ false) → (l : List A) → count p (omit q l) ≡ count p l
  count-other p q h [] = refl
  count-other p q h (x ∷ l) = go (q x) refl (count-other p q h l)
    where
      go : (b : Bool) → q x ≡ b → count p (omit q l) ≡ count p l → count p (put (not b) x (omit q l)) ≡ bit (p x) + count p l
      go true e ih = omega (arith, ap bit (h x e), ih)
      go false e ih = omega arith

  pub count-omitted : (p : A → Bool) (l : List A) → count p (omit p l) ≡ 0
  count-omitted p [] = refl
  count-omitted p (x ∷ l) = go (p x) refl (count-omitted p l)
    where
      go : (b : Bool) → p x ≡ b → count p (omit p l) ≡ 0 → count p (put (not b) x (omit p l)) ≡ 0
      go true e ih = ih
      go false e ih = omega (arith, ap bit e)

  pub count≤length : (p : A → Bool) (l : List A) → count p l ≤ length l
  count≤length p [] = omega arith
  count≤length p (x ∷ l) = omega (arith, bit≤1 (p x), count≤length p l)

  pub some-none : (p : A → Bool) (l : List A) → some p l ≡ false → count p l ≡ 0
  some-none p [] e = refl
  some-none p (x ∷ l) e = go (p x) (some-none p l) e
    where
      go : (b : Bool) → (some p l ≡ false → count p l ≡ 0) → (b || some p l) ≡ false → bit b + count p l ≡ 0
      go true ih f = absurd (clash true refl f)
      go false ih f = omega (arith, ih f)

  pub some_one : (p : A → Bool) (l : List A) → some p l ≡ true → 0 < count p l
  some_one p [] e = absurd (clash false e refl)
  some_one p (x ∷ l) e = go (p x) (some_one p l) e
    where
      go : (b : Bool) → (some p l ≡ true → 0 < count p l) → (b || some p l) ≡ true → 0 < bit b + count p l
      go true ih f = omega arith
      go false ih f = omega (arith, ih f)

  -- ## Lengths

  pub length-put : (b : Bool) (x : A) (l : List A) → length (put b x l) ≡ bit b + length l
  length-put true x l = omega arith
  length-put false x l = omega arith

  pub length-keep : (p : A → Bool) (l : List A) → length (keep p l) ≡ count p l
  length-keep p [] = refl
  length-keep p (x ∷ l) = omega (arith, length-put (p x) x (keep p l), length-keep p l)

  pub length-split : (p : A → Bool) (l : List A) → length l ≡ length (keep p l) + length (omit p l)
  length-split p [] = refl
  length-split p (x ∷ l) = omega (arith, length-split p l, both (p x))
    where
      both : (b : Bool) → length (put b x (keep p l)) + length (put (not b) x (omit p l)) ≡ suc (length (keep p l) + length (omit p l))
      both true = omega arith
      both false = omega arith

  -- ## Insertion and removal

  pub count-insert_at : (p : A → Bool) (i : ℕ) (x : A) (l : List A) → count p (insert_at i x l) ≡ bit (p x) + count p l
  unfolding insert_at
  count-insert_at p zero x l = refl
  count-insert_at p (suc i) x [] = refl
  count-insert_at p (suc i) x (y ∷ l) = omega (arith, count-insert_at p i x l)

  pub length-insert_at : (i : ℕ) (x : A) (l : List A) → length (insert_at i x l) ≡ suc (length l)
  unfolding insert_at
  length-insert_at zero x l = refl
  length-insert_at (suc i) x [] = refl
  length-insert_at (suc i) x (y ∷ l) = ap suc (length-insert_at i x l)

  pub count-remove_at : (p : A → Bool) (i : ℕ) (l : List A) (d : A) → i < length l
      → count p l ≡ bit (p (get_or l i d)) + count p (remove_at i l)
  unfolding remove_at
  count-remove_at p i [] d h = absurd (omega arith)
  count-remove_at p zero (x ∷ l) d h = refl
  count-remove_at p (suc i) (x ∷ l) d h = omega (arith, count-remove_at p i l d (omega arith))

  pub length-remove_at : (i : ℕ) (l : List A) → i < length l → suc (length (remove_at i l)) ≡ length l
  unfolding remove_at
  length-remove_at i [] h = absurd (omega arith)
  length-remove_at zero (x ∷ l) h = refl
  length-remove_at (suc i) (x ∷ l) h = ap suc (length-remove_at i l (omega arith))

  -- ## The place of the first that passes

  pub place≤ : (p : A → Bool) (l : List A) → place p l ≤ length l
  unfolding place
  place≤ p [] = omega arith
  place≤ p (x ∷ l) = go (p x) (place≤ p l)
    where
      go : (b : Bool) → place p l ≤ length l → cond b 0 (suc (place p l)) ≤ suc (length l)
      go true h = omega arith
      go false h = omega arith

  -- what stands there passes
  pub place-holds : (p : A → Bool) (l : List A) (d : A) → place p l < length l → p (get_or l (place p l) d) ≡ true
  unfolding place
  place-holds p [] d h = absurd (omega arith)
  place-holds p (x ∷ l) d h = go (p x) refl (place-holds p l d) h
    where
      go : (b : Bool) → p x ≡ b → (place p l < length l → p (get_or l (place p l) d) ≡ true) → cond b 0 (suc (place p l)) < suc (length l)
          → p (get_or (x ∷ l) (cond b 0 (suc (place p l))) d) ≡ true
      go true e ih k = e
      go false e ih k = ih (omega arith)

  -- what stands before it does not
  pub place-first : (p : A → Bool) (l : List A) (d : A) (j : ℕ) → j < place p l → p (get_or l j d) ≡ false
  unfolding place
  place-first p [] d j h = absurd (omega arith)
  place-first p (x ∷ l) d j h = go (p x) refl j (place-first p l d) h
    where
      go : (b : Bool) → p x ≡ b → (j : ℕ) → ((k : ℕ) → k < place p l → p (get_or l k d) ≡ false) → j < cond b 0 (suc (place p l))
          → p (get_or (x ∷ l) j d) ≡ false
      go true e j ih k = absurd (omega arith)
      go false e zero ih k = e
      go false e (suc j) ih k = ih j (omega arith)

  pub place_none : (p : A → Bool) (l : List A) → length l ≤ place p l → count p l ≡ 0
  unfolding place
  place_none p [] h = refl
  place_none p (x ∷ l) h = go (p x) (place_none p l) h
    where
      go : (b : Bool) → (length l ≤ place p l → count p l ≡ 0) → suc (length l) ≤ cond b 0 (suc (place p l)) → bit b + count p l ≡ 0
      go true ih k = absurd (omega arith)
      go false ih k = omega (arith, ih (omega arith))

  pub some-place : (p : A → Bool) (l : List A) → some p l ≡ ltb (place p l) (length l)
  unfolding place
  some-place p [] = sym (le-ltb 0 0 (omega arith))
  some-place p (x ∷ l) = go (p x) (some-place p l)
    where
      go : (b : Bool) → some p l ≡ ltb (place p l) (length l) → (b || some p l) ≡ ltb (cond b 0 (suc (place p l))) (suc (length l))
      go true ih = sym (lt-ltb 0 (suc (length l)) (omega arith))
      go false ih = ih ∙ sym (leb-suc-suc (suc (place p l)) (length l))

pub count_map : {A B : Type 0} (p : B → Bool) (g : A → B) (l : List A) → count p (map g l) ≡ count (λ x. p (g x)) l
count_map p g [] = refl
count_map p g (x ∷ l) = rw (count_map p g l)

-- ## The ends of started ones

pub count-endings : (P : Record → Bool) (Q : Session → Bool) (air cover : Ending) → ((s : Session) → P (ended air s) ≡ Q s)
    → ((s : Session) → P (ended cover s) ≡ Q s) → (p : Session → Bool) (k : List Session)
    → count P (endings air cover p k Record ended) ≡ count Q (keep p k)
unfolding endings
count-endings P Q air cover ha hc p [] = refl
count-endings P Q air cover ha hc p (s ∷ k) =
    simp (count-put, count_map, ha, count_same (λ (u : Session). P (ended cover u)) Q hc)

-- where both end alike
pub endings-map : {A : Type 0} (f : Ending → Session → A) (h : Ending) (p : Session → Bool) (k : List Session)
    → endings h h p k A f ≡ map (f h) (keep p k)
unfolding endings
endings-map f h p [] = refl
endings-map f h p (s ∷ k) = go (p s)
  where
    go : (b : Bool) → put b (f h s) (map (f h) (keep p k)) ≡ map (f h) (put b s (keep p k))
    go true = refl
    go false = refl

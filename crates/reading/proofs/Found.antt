-- The reader finds all: its answers from place 0 on are the descriptors of the bytes, in their order.
-- Rests on Walks (what a step says of the place it gives) and on rules' laws of a descriptor cut out of the bytes.
use mathlib.Core.Bool.{Bool, true, false, cond, ◌&&◌}
use mathlib.Core.List.{List, [], ◌∷◌}
use mathlib.Core.Path.{◌≡◌, refl, sym, ap, ◌∙◌}
use Prim.Native.Nat.{ℕ, zero, suc, ◌+◌, ◌-◌, ◌≤◌, ◌<◌}
use native.Mathlib.Omega.{arith}
use borrow.Author.Tests.{ne_eqb, eqb-true, eqb-false}
use lib.Dec.{eqb}
use lib.ListN.{length, take, drop, length-drop}
use lib.Seq.{drop-drop}
use Rattle.rules.specs.Lists.{All, some}
use Rattle.rules.specs.Descriptors.{descriptor_length, is_mux, mux_value, good_descriptor}
use Rattle.rules.specs.Follows.Descriptors.{descriptors_in, all_good}
use Rattle.rules.proofs.Descriptors.{within, one-mux, one-good, good-fits, one_value, in_end, in_step, descriptors-whole}
use Rattle.reading.specs.declared.descriptors.Descriptor.{Descriptor}
use Rattle.reading.specs.declared.descriptors.Descriptor.TheVariants.{Mux, Foreign, End, Bad}
use Rattle.reading.specs.Walk.{found_as, step_at, following, found_from, due, is_end, Inside, FoundAll}
use Rattle.reading.proofs.Walks.{step_end, Says, step-says}

-- a good descriptor cut out of the bytes is found as it stands there
cut-found : (l : List ℕ) (p : ℕ) → good_descriptor l ≡ true → found_as (take (2 + descriptor_length l) l) p ≡ found_as l p
cut-found l p g = rw (one-mux l (good-fits l g)) (go (is_mux l) refl)
  where
    one : List ℕ
    one = take (2 + descriptor_length l) l

    go : (b : Bool) → is_mux l ≡ b → cond b (Mux (mux_value one) p) (Foreign p) ≡ cond b (Mux (mux_value l) p) (Foreign p)
    go true m = ap (λ (v : ℕ). Mux v p) (one_value l g m)
    go false m = refl

-- either way the reader goes on at p
onward : (f : ℕ → List Descriptor) (d : List ℕ) (p : ℕ) → following f (found_as d p) ≡ f p
onward f d p = go (is_mux d)
  where
    go : (b : Bool) → following f (cond b (Mux (mux_value d) p) (Foreign p)) ≡ f p
    go true = refl
    go false = refl

-- at a place of the bytes: d stands from there on, and behind its first descriptor, `one`, the bytes from the place p on
module _ (l : List ℕ) (at : ℕ) where
  abbrev d : List ℕ
  d = drop at l

  abbrev p : ℕ
  p = at + (2 + descriptor_length d)

  abbrev one : List ℕ
  one = take (2 + descriptor_length d) d

  none : (n : ℕ) → length d ≤ 0 → found_from (suc n) l at ≡ due at (descriptors_in d)
  unfolding found_from due
  none n h =
      let e : step_at l at ≡ End = step_end l at (omega (arith, length-drop at l)) in
      ap (λ a. a ∷ following (found_from n l) a) e ∙ sym (ap (due at) (in_end d h))

  next : good_descriptor d ≡ true → at + length one ≡ p
  next g = omega (arith, (within d (good-fits d g)).1)

  more : (n : ℕ) → 0 < length d → found_from n l p ≡ due p (descriptors_in (drop p l)) → found_from (suc n) l at ≡ due at (descriptors_in d)
  unfolding found_from step_at due
  more n k rest =
      ap (λ t. let a = cond t End (cond (good_descriptor d) (found_as d p) Bad) in a ∷ following (found_from n l) a)
      (ne_eqb (length d) 0 (λ z. omega arith))
      ∙ go (good_descriptor d) refl
      ∙ sym (ap (due at) split)
    where
      split : descriptors_in d ≡ one ∷ descriptors_in (drop p l)
      split = in_step d k ∙ ap (λ r. one ∷ descriptors_in r) (drop-drop (2 + descriptor_length d) at l)

      go : (g : Bool) → good_descriptor d ≡ g
          → (cond g (found_as d p) Bad ∷ following (found_from n l) (cond g (found_as d p) Bad)) ≡ due at (one ∷ descriptors_in (drop p l))
      go true q = ap (λ r. found_as d p ∷ r) (onward (found_from n l) d p ∙ rest) ∙ sym (rw (one-good d, q, next q, cut-found d p q))
      go false q = sym (rw (one-good d, q))

from-due : (n : ℕ) (l : List ℕ) (at : ℕ) → length l - at ≤ n → found_from (suc n) l at ≡ due at (descriptors_in (drop at l))
from-due zero l at h = none l at zero (omega (arith, length-drop at l))
from-due (suc n) l at h = go (eqb (length (drop at l)) 0) refl (from-due n l (p l at))
  where
    go : (b : Bool) → eqb (length (drop at l)) 0 ≡ b → (length l - p l at ≤ n
        → found_from (suc n) l (p l at) ≡ due (p l at) (descriptors_in (drop (p l at) l)))
        → found_from (suc (suc n)) l at ≡ due at (descriptors_in (drop at l))
    go true e ih = none l at (suc n) (omega (arith, eqb-true (length (drop at l)) 0 e))
    go false e ih =
        let k = eqb-false (length (drop at l)) 0 e in
        more l at (suc n) (omega (arith, k)) (ih (omega (arith, k, length-drop at l)))

-- the end is among them exactly if all are good
end-due : (at : ℕ) (ds : List (List ℕ)) → some is_end (due at ds) ≡ all_good ds
unfolding due all_good
end-due at [] = refl
end-due at (d ∷ ds) = go (good_descriptor d) (is_mux d) (end-due (at + length d) ds)
  where
    go : (g m : Bool) → some is_end (due (at + length d) ds) ≡ all_good ds
        → some is_end (cond g (cond m (Mux (mux_value d) (at + length d)) (Foreign (at + length d)) ∷ due (at + length d) ds) (Bad ∷ []))
        ≡ (g && all_good ds)
    go true true e = e
    go true false e = e
    go false m e = refl

from-inside : (n : ℕ) (l : List ℕ) (at : ℕ) → All (Inside (length l)) (found_from n l at)
unfolding found_from
from-inside zero l at = tt
from-inside (suc n) l at = go (step_at l at) (step-says l at) (from-inside n l)
  where
    go : (a : Descriptor) → Says l at a → ((p : ℕ) → All (Inside (length l)) (found_from n l p))
        → All (Inside (length l)) (a ∷ following (found_from n l) a)
    go (Mux v p) s ih = (s.1, ih p)
    go (Foreign p) s ih = (s.1, ih p)
    go End s ih = (tt, tt)
    go Bad s ih = (tt, tt)

-- 02, CR 5: the reader's answers from place 0 on, each at the place the last one gave, are the descriptors of the bytes in their order; it
-- comes to the end exactly if all are good, and never gives a place outside the bytes. `last-wins` of rules' Descriptors says what they ask
pub found_all : (l : List ℕ) → FoundAll l
found_all l =
    let e = from-due (length l) l 0 (omega arith) in
    record {
      whole = descriptors-whole l;
      answers = e;
      ends = ap (some is_end) e ∙ end-due 0 (descriptors_in l);
      inside = from-inside (suc (length l)) l 0;
    }

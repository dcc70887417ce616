-- Laws of the descriptors: more fuel than bytes changes nothing, a descriptor and the rest behind it, the range of what they ask, and
-- which value wins. Assumes nothing.
use mathlib.Core.Path.{◌≡◌, refl, sym, ap, ap₂, ◌∙◌}
use mathlib.Core.Bool.{Bool, true, false, cond, not, ◌&&◌}
use mathlib.Core.List.{List, [], ◌∷◌, ◌++◌}
use Prim.Native.Nat.{ℕ, zero, suc, ◌+◌, ◌-◌, ◌≤◌, ◌<◌}
use native.Mathlib.Omega.{arith}
use lib.Dec.{eqb, leb}
use lib.ListN.{length, get_or, take, drop, length-take, length-drop, take-append-drop}
use lib.Seq.{drop-drop, take-append-le, drop-append-le, get_or-take}
use borrow.Author.Tests.{eqb-true, leb-true, leb-false, eq-eqb, ne_eqb, le-leb, lt-leb, not-true, not-false}
use Rattle.rules.specs.Lists.{put}
use Rattle.rules.specs.Bytes.{field, value}
use Rattle.rules.specs.Descriptors.{descriptor_length, descriptor_fits, is_mux, mux_value, bad_mux, good_descriptor, average_mux, mux_after}
use Rattle.rules.specs.Descriptors.{mux_from, mux_of, mux_in}
use Rattle.rules.specs.Follows.Descriptors.{cut, descriptors_in, bytes_of, all_good, mux_values, last_or}
use Rattle.rules.proofs.Tests.{by, and_both}
use Rattle.std.specs.Prelude.{None, Option, Some}

-- ## The fuel

eqb-zero : (l : List ℕ) → length l ≤ 0 → eqb (length l) 0 ≡ true
eqb-zero l h = eq-eqb (length l) 0 (omega arith)

-- what the descriptors of l ask, if it is v before them
abbrev pub mux_rest : ℕ → List ℕ → Option ℕ
mux_rest v l = mux_from (length l) v l

enough : (n m v : ℕ) (l : List ℕ) → length l ≤ n → length l ≤ m → mux_from n v l ≡ mux_from m v l
unfolding mux_from
enough zero zero v l h k = refl
enough zero (suc m) v l h k = rw (eqb-zero l h)
enough (suc n) zero v l h k = rw (eqb-zero l k)
enough (suc n) (suc m) v l h k =
    let r = drop (2 + descriptor_length l) l in
    let s : length r ≡ length l - (2 + descriptor_length l) = length-drop (2 + descriptor_length l) l in
    ap (λ t. cond (eqb (length l) 0) (Some v) (cond (good_descriptor l) t None)) (enough n m (mux_after v l) r (omega arith) (omega arith))

-- more fuel than bytes changes nothing
pub mux-rest : (n v : ℕ) (l : List ℕ) → length l ≤ n → mux_from n v l ≡ mux_rest v l
mux-rest n v l h = enough n (length l) v l h (omega arith)

-- at the end of the bytes
pub mux-end : (l : List ℕ) (i v : ℕ) → length l ≤ i → mux_rest v (drop i l) ≡ Some v
unfolding mux_from
mux-end l i v h =
    sym (mux-rest 0 v (drop i l) (simp length-drop (omega arith)))
    ∙ ap (λ t. cond t (Some v) None) (eqb-zero (drop i l) (simp length-drop (omega arith)))

-- at a place before it
pub mux-step : (l : List ℕ) (i v : ℕ) → i < length l
    → mux_rest v (drop i l) ≡ cond (good_descriptor (drop i l)) (mux_rest (mux_after v (drop i l))
    (drop (i + (2 + descriptor_length (drop i l))) l)) None
unfolding mux_from
mux-step l i v h =
    let m = drop i l in
    let n = 2 + descriptor_length m in
    let k : length m ≡ length l - i = length-drop i l in
    let j : length (drop n m) ≡ length m - n = length-drop n m in
    sym (mux-rest (suc (length m)) v m (omega arith))
    ∙ ap (λ t. cond t (Some v) (cond (good_descriptor m) (mux_from (length m) (mux_after v m) (drop n m)) None))
    (ne_eqb (length m) 0 (λ z. omega arith))
    ∙ ap (λ t. cond (good_descriptor m) t None) (mux-rest (length m) (mux_after v m) (drop n m) (omega arith)
    ∙ ap (mux_rest (mux_after v m)) (drop-drop n i l))

-- ## The range of what they ask

abbrev InRange : ℕ → Type 0
InRange v = (1 ≤ v) × (v ≤ 10)

-- a good muxpriority descriptor
pub good-mux : (l : List ℕ) → good_descriptor l ≡ true → is_mux l ≡ true → (descriptor_length l ≡ 5) × InRange (mux_value l)
good-mux l g m =
    let h = and_both (descriptor_fits l) (not (is_mux l && bad_mux l)) g in
    let b : bad_mux l ≡ false = ap (λ t. t && bad_mux l) (sym m) ∙ not-true (is_mux l && bad_mux l) h.1 in
    let i = and_both (eqb (descriptor_length l) 5) (leb 1 (mux_value l) && leb (mux_value l) 10) (not-false _ b) in
    let j = and_both (leb 1 (mux_value l)) (leb (mux_value l) 10) i.1 in
    (eqb-true (descriptor_length l) 5 i.0, (leb-true 1 (mux_value l) j.0, leb-true (mux_value l) 10 j.1))

from-range : (n v : ℕ) (l : List ℕ) → InRange v → InRange (mux_in (mux_from n v l))
unfolding mux_from
from-range zero v l h = by (λ p. InRange (mux_in p)) (eqb (length l) 0) _ _ (λ e. h) (λ e. (omega arith, omega arith))
from-range (suc n) v l h =
    by (λ p. InRange (mux_in p)) (eqb (length l) 0) _ _ (λ e. h)
    (λ e. by (λ p. InRange (mux_in p)) (good_descriptor l) _ _
    (λ g. from-range n (mux_after v l) (drop (2 + descriptor_length l) l) (by InRange (is_mux l) _ _ (λ m. (good-mux l g m).1) (λ m. h)))
    (λ g. (omega arith, omega arith)))

pub mux-range : (l : List ℕ) → InRange (mux_in (mux_of l))
mux-range l = from-range (length l) average_mux l (omega arith, omega arith)

-- ## A descriptor cut out of the bytes is read as it stands there

module _ (l : List ℕ) where
  abbrev size : ℕ
  size = 2 + descriptor_length l

  abbrev one : List ℕ
  one = take size l

  abbrev behind : List ℕ
  behind = drop size l

  pub one-length : descriptor_length one ≡ descriptor_length l
  one-length = get_or-take size l 1 0 (omega arith)

  one-fits : descriptor_fits one ≡ descriptor_fits l
  one-fits =
      ap (λ (k : ℕ). leb 4 k && (leb k 254 && leb (2 + k) (length one))) one-length
      ∙ ap (λ t. leb 4 (descriptor_length l) && (leb (descriptor_length l) 254 && t)) (go (leb size (length l)) refl)
    where
      go : (b : Bool) → leb size (length l) ≡ b → leb size (length one) ≡ b
      go true e = le-leb size (length one) (omega (arith, length-take size l, leb-true size (length l) e))
      go false e = lt-leb size (length one) (omega (arith, length-take size l, leb-false size (length l) e))

  module _ (f : descriptor_fits l ≡ true) where
    pub within : (4 ≤ descriptor_length l) × (length one ≡ size)
    within =
        let h = and_both (leb 4 (descriptor_length l)) _ f in
        let i = and_both (leb (descriptor_length l) 254) (leb size (length l)) h.1 in
        (leb-true 4 (descriptor_length l) h.0, omega (arith, length-take size l, leb-true size (length l) i.1))

    one_byte : (k : ℕ) → k < size → get_or one k 0 ≡ get_or l k 0
    one_byte k h = get_or-take size l k 0 h

    one_name : field 2 4 one ≡ field 2 4 l
    one_name =
        let n : 6 ≤ length one = omega (arith, within.0, within.1) in
        let m : 4 ≤ length (drop 2 one) = omega (arith, length-drop 2 one) in
        ap value
        (sym (take-append-le 4 (drop 2 one) behind m)
        ∙ ap (take 4) (sym (drop-append-le 2 one behind (omega arith)))
        ∙ ap (λ r. take 4 (drop 2 r)) (take-append-drop size l))

    pub one-mux : is_mux one ≡ is_mux l
    one-mux = ap₂ (λ (a b : ℕ). eqb a 0x02 && eqb b 0x53415049) (one_byte 0 (omega arith)) one_name

    -- the value stands behind the identifier, if there is room for it
    one-bad : (is_mux one && bad_mux one) ≡ (is_mux l && bad_mux l)
    one-bad = ap₂ (λ a b. a && b) one-mux (ap₂ (λ a b. not (a && b)) same refl ∙ go (eqb (descriptor_length l) 5) refl)
      where
        same : eqb (descriptor_length one) 5 ≡ eqb (descriptor_length l) 5
        same = ap (λ (k : ℕ). eqb k 5) one-length

        go : (b : Bool) → eqb (descriptor_length l) 5 ≡ b
            → not (eqb (descriptor_length l) 5 && (leb 1 (mux_value one) && leb (mux_value one) 10))
            ≡ not (eqb (descriptor_length l) 5 && (leb 1 (mux_value l) && leb (mux_value l) 10))
        go true e = let k = eqb-true (descriptor_length l) 5 e in ap (λ (v : ℕ). not (eqb (descriptor_length l) 5 && (leb 1 v && leb v 10)))
            (one_byte 6 (omega arith))
        go false e = rw e

  pub one-good : good_descriptor one ≡ good_descriptor l
  one-good = rw one-fits (go (descriptor_fits l) refl)
    where
      go : (b : Bool) → descriptor_fits l ≡ b → (b && not (is_mux one && bad_mux one)) ≡ (b && not (is_mux l && bad_mux l))
      go true e = ap not (one-bad e)
      go false e = refl

  -- of a good one
  pub good-fits : good_descriptor l ≡ true → descriptor_fits l ≡ true
  good-fits g = (and_both (descriptor_fits l) (not (is_mux l && bad_mux l)) g).0

  pub one_value : good_descriptor l ≡ true → is_mux l ≡ true → mux_value one ≡ mux_value l
  one_value g m = one_byte (good-fits g) 6 (omega (arith, (good-mux l g m).0))

  one-after : good_descriptor l ≡ true → (v : ℕ) → cond (is_mux one) (mux_value one) v ≡ mux_after v l
  one-after g v = rw (one-mux (good-fits g)) (go (is_mux l) refl)
    where
      go : (b : Bool) → is_mux l ≡ b → cond b (mux_value one) v ≡ cond b (mux_value l) v
      go true m = one_value g m
      go false m = refl

-- ## The descriptors one by one

cut-enough : (n m : ℕ) (l : List ℕ) → length l ≤ n → length l ≤ m → cut n l ≡ cut m l
unfolding cut
cut-enough zero zero l h k = refl
cut-enough zero (suc m) l h k = rw (eqb-zero l h)
cut-enough (suc n) zero l h k = rw (eqb-zero l k)
cut-enough (suc n) (suc m) l h k =
    let r = drop (2 + descriptor_length l) l in
    let s : length r ≡ length l - (2 + descriptor_length l) = length-drop (2 + descriptor_length l) l in
    ap (λ t. cond (eqb (length l) 0) [] (take (2 + descriptor_length l) l ∷ t)) (cut-enough n m r (omega arith) (omega arith))

pub in_end : (l : List ℕ) → length l ≤ 0 → descriptors_in l ≡ []
unfolding cut
in_end l h = cut-enough (length l) 0 l (omega arith) h

pub in_step : (l : List ℕ) → 0 < length l → descriptors_in l ≡ take (2 + descriptor_length l) l
    ∷ descriptors_in (drop (2 + descriptor_length l) l)
unfolding cut
in_step l h =
    let n = 2 + descriptor_length l in
    let j : length (drop n l) ≡ length l - n = length-drop n l in
    cut-enough (length l) (suc (length l)) l (omega arith) (omega arith)
    ∙ ap (λ t. cond t [] (take n l ∷ cut (length l) (drop n l))) (ne_eqb (length l) 0 (λ z. omega arith))
    ∙ ap (λ r. take n l ∷ r) (cut-enough (length l) (length (drop n l)) (drop n l) (omega arith) (omega arith))

last-put : (b : Bool) (x v : ℕ) (l : List ℕ) → last_or v (put b x l) ≡ last_or (cond b x v) l
unfolding last_or
last-put true x v l = refl
last-put false x v l = refl

mux-cut : (n v : ℕ) (l : List ℕ) → length l ≤ n → mux_from n v l ≡ cond (all_good (cut n l)) (Some (last_or v (mux_values (cut n l)))) None
unfolding mux_from cut all_good mux_values last_or
mux-cut zero v l h = rw (eqb-zero l h)
mux-cut (suc n) v l h =
    go (mux-cut n (mux_after v l) (drop (2 + descriptor_length l) l) (simp length-drop (omega arith))) (eqb (length l) 0)
  where
    d : List ℕ
    d = take (2 + descriptor_length l) l

    ds : List (List ℕ)
    ds = cut n (drop (2 + descriptor_length l) l)

    after : Option ℕ
    after = mux_from n (mux_after v l) (drop (2 + descriptor_length l) l)

    good : after ≡ cond (all_good ds) (Some (last_or (mux_after v l) (mux_values ds))) None → (g : Bool) → good_descriptor l ≡ g
        → cond g after None ≡ cond (g && all_good ds) (Some (last_or v (put (is_mux d) (mux_value d) (mux_values ds)))) None
    good rest true e =
        rest ∙ ap (λ (x : ℕ). cond (all_good ds) (Some x) None)
        (ap (λ (x : ℕ). last_or x (mux_values ds)) (sym (one-after l e v)) ∙ sym (last-put (is_mux d) (mux_value d) v (mux_values ds)))
    good rest false e = refl

    go : after ≡ cond (all_good ds) (Some (last_or (mux_after v l) (mux_values ds))) None → (b : Bool)
        → cond b (Some v) (cond (good_descriptor l) after None)
        ≡ cond (all_good (cond b [] (d ∷ ds))) (Some (last_or v (mux_values (cond b [] (d ∷ ds))))) None
    go rest true = refl
    go rest false = good rest (good_descriptor l) refl ∙ rw (one-good l)

-- mux_of is Is v exactly if all are good and v is the last muxpriority value among them, or 5 if there is none
pub record LastWins (l : List ℕ) : Type 0 where
  pub given : (v : ℕ) → mux_of l ≡ Some v → (all_good (descriptors_in l) ≡ true) × (v ≡ last_or average_mux (mux_values (descriptors_in l)))
  pub taken : all_good (descriptors_in l) ≡ true → mux_of l ≡ Some (last_or average_mux (mux_values (descriptors_in l)))

pub last-wins : (l : List ℕ) → LastWins l
last-wins l =
    let e = mux-cut (length l) average_mux l (omega arith) in
    record { given = λ v h. given (all_good (descriptors_in l)) v (sym e ∙ h); taken = λ g. e ∙ ap (λ b. cond b (Some last) None) g }
  where
    last : ℕ
    last = last_or average_mux (mux_values (descriptors_in l))

    given : (b : Bool) (v : ℕ) → cond b (Some last) None ≡ Some v → (b ≡ true) × (v ≡ last)
    given true v h = (refl, cc)
    given false v h = let z : ◌≡◌ {A = ℕ} 0 1 = cc in absurd (omega arith)

-- together they are the bytes
bytes_cut : (n : ℕ) (l : List ℕ) → length l ≤ n → bytes_of (cut n l) ≡ l
unfolding cut bytes_of
bytes_cut zero [] h = refl
bytes_cut zero (x ∷ l) h = absurd (omega arith)
bytes_cut (suc n) [] h = refl
bytes_cut (suc n) (x ∷ l) h =
    let k = 2 + descriptor_length (x ∷ l) in
    rw (ne_eqb (length (x ∷ l)) 0 (λ z. omega arith))
    (ap (λ r. take k (x ∷ l) ++ r) (bytes_cut n (drop k (x ∷ l)) (simp length-drop (omega arith))) ∙ take-append-drop k (x ∷ l))

pub descriptors-whole : (l : List ℕ) → bytes_of (descriptors_in l) ≡ l
descriptors-whole l = bytes_cut (length l) l (omega arith)

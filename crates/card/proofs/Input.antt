-- The input buffer: what is read goes behind the bytes that are still to be played, and those then go to the front.
-- Rests on the lists' laws of parts and copies.
use mathlib.Core.Path.{◌≡◌, refl, sym, ap, ap₂, ◌∙◌}
use mathlib.Core.List.{List, ◌++◌}
use Prim.Native.Nat.{ℕ, ◌+◌, ◌-◌, ◌≤◌, ◌<◌}
use native.Mathlib.Omega.{arith}
use native.Mathlib.Nat.{zero-add}
use lib.ListN.{length, get_or, take, drop, set, length-set, length-drop}
use lib.Seq.{slice, paste, paste-zero, drop-paste, length-slice, take_at, drop_at, take-add, length-take-le, get_or-drop}
use borrow.Rule.Slice.PartMut.{mid_of, put_mid, mid_len}
use Rattle.std.specs.List.{copy_within}
use Rattle.rules.specs.Bytes.{part}
use Rattle.card.specs.Ran.{moved}

-- ## Reading

-- what stands before a part stays
pub front-stays : (a k : ℕ) (xs ys : List ℕ) → a ≤ length xs → take a (put_mid a k xs ys) ≡ take a xs
front-stays a k xs ys h = take_at (take a xs) (ys ++ drop k (drop a xs)) a (length-take-le a xs h)

-- what a part has room for lies within the whole
pub part-within : (a n : ℕ) (xs : List ℕ) → a ≤ length xs → n ≤ length (mid_of a (length xs - a) xs) → a + n ≤ length xs
part-within a n xs h g = omega (arith, mid_len a (length xs) xs (omega arith))

-- e: the buffer before the read, xs: after it; n bytes came
pub read_behind : (a n : ℕ) (e xs : List ℕ) → take a xs ≡ take a e → take (a + n) xs ≡ take a e ++ part a n xs
read_behind a n e xs h = take-add a n xs ∙ ap (λ y. y ++ part a n xs) h

pub part_length : (a n : ℕ) (xs : List ℕ) → a + n ≤ length xs → length (part a n xs) ≡ n
part_length a n xs h = length-take-le n (drop a xs) (simp length-drop (omega arith))

-- ## Moving to the front

part_slice : (used end : ℕ) (l : List ℕ) → used ≤ end → end ≤ length l → part used (end - used) l ≡ slice used end l
part_slice used end l h g =
    let n : used + (end - used) ≡ end = omega arith in
    sym (drop_at (take used l) (part used (end - used) l) used (length-take-le used l (omega arith)))
    ∙ ap (drop used) (sym (take-add used (end - used) l))
    ∙ ap (λ k. slice used k l) n

-- as the library moves them
pub moved-within : (used end : ℕ) (old : List ℕ) → used ≤ end → end ≤ length old → copy_within old used end 0 ≡ moved used end old
moved-within used end old h g = ap₂ (λ y k. y ++ drop k old) (part_slice used end old h g) (zero-add (end - used))

-- what is kept is what was not played
pub moved_front : (used end : ℕ) (e xs : List ℕ) → end ≤ length e → xs ≡ moved used end e
    → take (end - used) xs ≡ drop used (take end e)
moved_front used end e xs h f =
    ap (take (end - used)) f ∙ take_at (slice used end e) (drop (end - used) e) (end - used) (length-slice used end e h)

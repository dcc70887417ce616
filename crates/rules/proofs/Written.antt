-- What a lent buffer holds once bytes were written into it (`written`), part by part and record by record.
-- Rests on the lists' laws of `take`, `drop` and `++` alone.
use mathlib.Core.Path.{◌≡◌, refl, sym, ap, ◌∙◌}
use mathlib.Core.List.{List, [], ◌∷◌, ◌++◌, append_assoc, append-nil}
use Prim.Native.Nat.{ℕ, suc, ◌+◌, ◌-◌, ◌≤◌, ◌<◌}
use native.Mathlib.Omega.{arith}
use native.Mathlib.Nat.{add-zero, zero-add}
use native.Mathlib.Numerals.{add-one}
use lib.ListN.{length, take, drop, set, length-append, length-take, length-drop, take-append-drop, drop_of_length-le}
use lib.Seq.{take_at, drop_at, drop-drop, take_all, set_split, append_snoc}
use borrow.Rule.Slice.PartMut.{put_mid, mid_of}
use Rattle.rules.specs.Bytes.{written}
use Rattle.rules.specs.Records.{Record, record_bytes, output}

-- ## Any bytes

-- two results that a promise of this form allows are equal
pub written_same : (e : List ℕ) (a : ℕ) (l : List ℕ) {o p : List ℕ} → o ≡ written e a l → p ≡ written e a l → o ≡ p
written_same e a l h k = h ∙ sym k

pub written_none : (e : List ℕ) (a : ℕ) → written e a [] ≡ e
unfolding written
written_none e a = simp (append-nil, add-zero, take-append-drop)

pub length-written : (e : List ℕ) (a : ℕ) (l : List ℕ) → a + length l ≤ length e → length (written e a l) ≡ length e
unfolding written
length-written e a l h = simp (length-append, length-take, length-drop) (omega arith)

-- a store is one byte written
pub written-set : (e : List ℕ) (a x : ℕ) → a < length e → set e a x ≡ written e a (x ∷ [])
unfolding written
written-set e a x h =
    set_split e a x h ∙ sym (append_snoc (take a e) x (drop (suc a) e)) ∙ ap (λ k. take a e ++ (x ∷ []) ++ drop k e) (sym (add-one a))

-- what is written directly behind it
pub written-more : (e : List ℕ) (a : ℕ) (l m : List ℕ) (n : ℕ) → a + length l ≤ length e → n ≡ a + length l →
    written (written e a l) n m ≡ written e a (l ++ m)
unfolding written
written-more e a l m n h k =
    let p : length (take a e ++ l) ≡ n = length-append (take a e) l ∙ simp length-take (omega arith) in
    let q : a + length (l ++ m) ≡ a + length l + length m = simp length-append (omega arith) in
    ap (λ x. x ++ m ++ drop (n + length m) (take a e ++ l ++ drop (a + length l) e)) (take_at (take a e ++ l) (drop (a + length l) e) n p)
    ∙ ap (λ x. take a e ++ l ++ m ++ x)
    (sym (drop-drop (length m) n (take a e ++ l ++ drop (a + length l) e))
    ∙ ap (drop (length m)) (drop_at (take a e ++ l) (drop (a + length l) e) n p)
    ∙ drop-drop (length m) (a + length l) e ∙ ap (λ x. drop x e) (sym q))
    ∙ ap (λ x. x ++ drop (a + length (l ++ m)) e) (append_assoc (take a e) l m)

-- the lender of `&mut out[a..]`: what was written at the start of that part, said of the whole
pub written-part : (a : ℕ) (xs ys l : List ℕ) → a + length l ≤ length xs → ys ≡ written (mid_of a (length xs - a) xs) 0 l →
    put_mid a (length xs - a) xs ys ≡ written xs a l
unfolding written
written-part a xs ys l h e =
    let m : mid_of a (length xs - a) xs ≡ drop a xs = take_all (length xs - a) (drop a xs) (simp length-drop (omega arith)) in
    let z : drop (length xs - a) (drop a xs) ≡ [] = drop_of_length-le (drop a xs) {i = length xs - a} (simp length-drop (omega arith)) in
    let t : drop (0 + length l) (mid_of a (length xs - a) xs) ≡ drop (a + length l) xs =
    ap (λ k. drop k (mid_of a (length xs - a) xs)) (zero-add (length l)) ∙ ap (drop (length l)) m ∙ drop-drop (length l) a xs in
    ap (λ x. take a xs ++ (ys ++ x)) z
    ∙ ap (λ x. take a xs ++ x) (append-nil ys ∙ e ∙ ap (λ x. l ++ x) t)
    ∙ sym (append_assoc (take a xs) l (drop (a + length l) xs))

-- both at once: m goes into the part directly behind the l that is written already
pub written_next : (e : List ℕ) (a : ℕ) (l m xs ys : List ℕ) (n : ℕ) → xs ≡ written e a l → n ≡ a + length l → n + length m ≤ length e →
    ys ≡ written (mid_of n (length xs - n) xs) 0 m → put_mid n (length xs - n) xs ys ≡ written e a (l ++ m)
written_next e a l m xs ys n w k h p =
    let q : length xs ≡ length e = ap length w ∙ length-written e a l (omega arith) in
    written-part n xs ys m (omega arith) p ∙ ap (λ x. written x n m) w ∙ written-more e a l m n (omega arith) k

-- ## Records: "Every outgoing message goes directly behind the last one in the output buffer"

pub output-append : (rs ss : List Record) → output (rs ++ ss) ≡ output rs ++ output ss
unfolding output
output-append [] ss = refl
output-append (r ∷ rs) ss = ap (λ x. record_bytes r ++ x) (output-append rs ss) ∙ sym
    (append_assoc (record_bytes r) (output rs) (output ss))

pub output-one : (r : Record) → output (r ∷ []) ≡ record_bytes r
unfolding output
output-one r = append-nil (record_bytes r)

pub written-output : (e : List ℕ) (a : ℕ) (rs ss : List Record) (n : ℕ) → a + length (output rs) ≤ length e → n ≡ a + length (output rs) →
    written (written e a (output rs)) n (output ss) ≡ written e a (output (rs ++ ss))
written-output e a rs ss n h k =
    written-more e a (output rs) (output ss) n h k ∙ ap (written e a) (sym (output-append rs ss))

-- the lender of `&mut out[n..]` to a writer of one record, behind the records rs
pub written-record : (e : List ℕ) (a : ℕ) (rs : List Record) (r : Record) (xs ys : List ℕ) (n : ℕ) →
    xs ≡ written e a (output rs) → n ≡ a + length (output rs) → n + length (record_bytes r) ≤ length e →
    ys ≡ written (mid_of n (length xs - n) xs) 0 (record_bytes r) →
    put_mid n (length xs - n) xs ys ≡ written e a (output (rs ++ (r ∷ [])))
written-record e a rs r xs ys n w k h p =
    written_next e a (output rs) (record_bytes r) xs ys n w k h p
    ∙ ap (written e a) (ap (λ x. output rs ++ x) (sym (output-one r)) ∙ sym (output-append rs (r ∷ [])))

-- Laws of 01's numbers and strings, over the width: what is written big-endian is read back, parts of an append, and names.
use mathlib.Core.Path.{◌≡◌, refl, sym, ap, ap₂, ◌∙◌}
use mathlib.Core.Bool.{Bool, true, false, cond}
use mathlib.Core.List.{List, [], ◌∷◌, ◌++◌, append-nil}
use Prim.Native.Nat.{ℕ, zero, suc, ◌+◌, ◌-◌, ◌*◌, ◌/◌, ◌%◌, ◌^◌, ◌≤◌, ◌<◌}
use native.Mathlib.Omega.{arith}
use native.Mathlib.Nat.{add-mul, mul_assoc, pow-succ', pow-le-pow_right, mul-le-mul_right}
use lib.Dec.{eqb}
use lib.ListN.{length, drop, replicate, length-append, length-take, length-replicate}
use borrow.Author.Tests.{eqb-true, eq-eqb}
use Rattle.rules.specs.Lists.{same}
use Rattle.rules.specs.Bytes.{bytes, value_from, value, part, field, has_zero, name_in, same_name, padded}
use Rattle.rules.proofs.Tests.{clash, or-none, and_both}
use Rattle.rules.proofs.All.{All, all_append, all_take, all_drop, all_replicate}
pub use Rattle.rules.specs.Follows.Wires.{Byte, NoZero}

-- ## Numbers

pub length-bytes : (n x : ℕ) → length (bytes n x) ≡ n
unfolding bytes
length-bytes zero x = refl
length-bytes (suc n) x = length-append (bytes n (x / 256)) (x % 256 ∷ []) ∙ omega (arith, length-bytes n (x / 256))

pub bytes-byte : (n x : ℕ) → All Byte (bytes n x)
unfolding bytes
bytes-byte zero x = tt
bytes-byte (suc n) x = all_append Byte (bytes n (x / 256)) (x % 256 ∷ []) (bytes-byte n (x / 256)) (omega arith, tt)

pub value_from-append : (a : ℕ) (l m : List ℕ) → value_from a (l ++ m) ≡ value_from (value_from a l) m
unfolding value_from
value_from-append a [] m = refl
value_from-append a (b ∷ l) m = value_from-append (a * 256 + b) l m

-- the reader gets back what the writer was given
pub value-bytes : (n x : ℕ) → x < 256 ^ n → value (bytes n x) ≡ x
unfolding bytes value_from value
value-bytes zero x h = omega arith
value-bytes (suc n) x h =
    let i : value (bytes n (x / 256)) ≡ x / 256 = value-bytes n (x / 256) (omega arith) in
    value_from-append 0 (bytes n (x / 256)) (x % 256 ∷ []) ∙ omega arith

-- what was read before counts 256 for each byte behind it
pub value_from-up : (a : ℕ) (l : List ℕ) → value_from a l ≡ a * 256 ^ length l + value l
unfolding value_from value
value_from-up a [] = omega arith
value_from-up a (b ∷ l) =
    let p = 256 ^ length l in
    let i : value_from (a * 256 + b) l ≡ (a * 256 + b) * p + value l = value_from-up (a * 256 + b) l in
    let j : value_from (0 * 256 + b) l ≡ (0 * 256 + b) * p + value l = value_from-up (0 * 256 + b) l in
    let k : a * 256 ^ suc (length l) ≡ a * 256 * p = ap (λ x. a * x) (pow-succ' 256 (length l)) ∙ sym (mul_assoc a 256 p) in
    omega (arith, add-mul (a * 256) b p, add-mul (0 * 256) b p)

pub value-append : (l m : List ℕ) → value (l ++ m) ≡ value l * 256 ^ length m + value m
unfolding value
value-append l m = value_from-append 0 l m ∙ value_from-up (value_from 0 l) m

pub value-below : (l : List ℕ) → All Byte l → value l < 256 ^ length l
unfolding value_from value
value-below [] a = omega arith
value-below (b ∷ l) a =
    let p = 256 ^ length l in
    let j : value_from (0 * 256 + b) l ≡ (0 * 256 + b) * p + value l = value_from-up (0 * 256 + b) l in
    let m : b * p ≤ 255 * p = mul-le-mul_right p (omega (arith, a.0)) in
    omega (arith, add-mul (0 * 256) b p, pow-succ' 256 (length l), value-below l a.1)

-- ## Parts

pub part-byte : (a n : ℕ) (l : List ℕ) → All Byte l → All Byte (part a n l)
part-byte a n l h = all_take Byte n (drop a l) (all_drop Byte a l h)

-- also where l is cut
pub field_below : (a n : ℕ) (l : List ℕ) → All Byte l → field a n l < 256 ^ n
field_below a n l h =
    let i : field a n l < 256 ^ length (part a n l) = value-below (part a n l) (part-byte a n l h) in
    let m : length (part a n l) ≤ n = omega (arith, length-take n (drop a l)) in
    omega (arith, pow-le-pow_right {n = 256} (omega arith) m)

-- ## Names

pub name-whole : (l m : List ℕ) → NoZero l → name_in (l ++ (0 ∷ m)) ≡ l
name-whole [] m e = refl
name-whole (b ∷ l) m e =
    let z = or-none (eqb 0 b) (has_zero l) e in
    rw z.0 (ap (λ k. b ∷ k) (name-whole l m z.1))

pub name_in-self : (l : List ℕ) → NoZero l → name_in l ≡ l
name_in-self [] e = refl
name_in-self (b ∷ l) e =
    let z = or-none (eqb 0 b) (has_zero l) e in
    rw z.0 (ap (λ k. b ∷ k) (name_in-self l z.1))

-- a name ends before the first zero
pub name_in-zero : (l : List ℕ) → NoZero (name_in l)
name_in-zero [] = refl
name_in-zero (b ∷ l) = go (eqb 0 b) refl (name_in-zero l)
  where
    go : (t : Bool) → eqb 0 b ≡ t → NoZero (name_in l) → NoZero (cond t [] (b ∷ name_in l))
    go true e i = refl
    go false e i = rw e i

pub name_in-twice : (l : List ℕ) → name_in (name_in l) ≡ name_in l
name_in-twice l = name_in-self (name_in l) (name_in-zero l)

pub name_in-shorter : (l : List ℕ) → has_zero l ≡ true → length (name_in l) < length l
name_in-shorter [] e = absurd (clash false e refl)
name_in-shorter (b ∷ l) e = go (eqb 0 b) refl (name_in-shorter l)
  where
    go : (t : Bool) → eqb 0 b ≡ t → (has_zero l ≡ true → length (name_in l) < length l)
        → length (cond t [] (b ∷ name_in l)) < suc (length l)
    go true f i = omega arith
    go false f i = omega (arith, i (rw f at e))

pub name_in-byte : (l : List ℕ) → All Byte l → All Byte (name_in l)
name_in-byte [] a = tt
name_in-byte (b ∷ l) a = go (eqb 0 b) (name_in-byte l a.1)
  where
    go : (t : Bool) → All Byte (name_in l) → All Byte (cond t [] (b ∷ name_in l))
    go true i = tt
    go false i = (a.0, i)

pub length-padded : (name : List ℕ) → length name ≤ 32 → length (padded name) ≡ 32
length-padded name h = length-append name (replicate (32 - length name) 0) ∙ omega (arith, length-replicate {A = ℕ} (32 - length name) 0)

-- a name as it is written is read back, with its zeros or without
pub name_in-zeros : (name : List ℕ) (n : ℕ) → NoZero name → name_in (name ++ replicate n 0) ≡ name
name_in-zeros name zero e = ap name_in (append-nil name) ∙ name_in-self name e
name_in-zeros name (suc n) e = name-whole name (replicate n 0) e

pub name_in-padded : (name : List ℕ) → NoZero name → name_in (padded name) ≡ name
name_in-padded name e = name_in-zeros name (32 - length name) e

pub padded-byte : (name : List ℕ) → All Byte name → All Byte (padded name)
padded-byte name a = all_append Byte name (replicate (32 - length name) 0) a (all_replicate Byte (32 - length name) 0 (omega arith))

-- ## The same name

pub same_true : (l m : List ℕ) → same l m ≡ true → l ≡ m
same_true [] [] e = refl
same_true [] (y ∷ m) e = absurd (clash false e refl)
same_true (x ∷ l) [] e = absurd (clash false e refl)
same_true (x ∷ l) (y ∷ m) e =
    let b = and_both (eqb x y) (same l m) e in
    ap₂ ◌∷◌ (eqb-true x y b.0) (same_true l m b.1)

pub same_self : (l : List ℕ) → same l l ≡ true
same_self [] = refl
same_self (x ∷ l) = rw (eq-eqb x x refl) (same_self l)

-- "bytes after it don't count when names are compared"
pub same_name-true : (a b : List ℕ) → same_name a b ≡ true → name_in a ≡ name_in b
same_name-true a b e = same_true (name_in a) (name_in b) e

pub same_name-eq : (a b : List ℕ) → name_in a ≡ name_in b → same_name a b ≡ true
same_name-eq a b e = ap (same (name_in a)) (sym e) ∙ same_self (name_in a)

-- What CRC_32 is good for: a section that ends with the CRC of the bytes before is right (`crc-closes`), and of two sections that differ in
-- one bit at most one is right (`one-bit-wrong`). Rests on the bit operations' digits: an XOR with an odd number turns the lowest bit.
use mathlib.Core.Path.{◌≡◌, refl, sym, ap, ap₂, ◌∙◌}
use mathlib.Core.Bool.{Bool, true, false, cond}
use mathlib.Core.List.{List, [], ◌∷◌, ◌++◌}
use Prim.Native.Nat.{ℕ, zero, suc, ◌+◌, ◌*◌, ◌/◌, ◌%◌, ◌^◌, ◌<◌}
use native.Mathlib.Omega.{arith}
use native.Mathlib.Nat.{mul-add-mod_self_right}
use lib.Dec.{eqb}
use lib.Bits.{bit_xor, differ, xor_step}
use lib.Arith.{bin_ind}
use borrow.Author.Tests.{eqb-true, eqb-false, eq-eqb}
use Rattle.rules.specs.Lists.{All}
use Rattle.rules.specs.Follows.Wires.{Byte}
use Rattle.rules.specs.Bytes.{bytes}
use Rattle.rules.specs.Crc.{crc_bit, crc_bits, crc_byte, crc_from, crc, right_crc}
use Rattle.cues.proofs.Register.{Register, bit-register, digit-one, digit-below}

-- ## The register has 32 bits

bits-register : (n c b : ℕ) → Register c → Register (crc_bits n c b)
unfolding crc_bits
bits-register zero c b h = h
bits-register (suc n) c b h = bits-register n (crc_bit c (b / 128)) (b * 2 % 256) (bit-register c (b / 128))

from-register : (c : ℕ) (l : List ℕ) → Register c → Register (crc_from c l)
unfolding crc_from
from-register c [] h = h
from-register c (b ∷ l) h = from-register (crc_byte c b) l (bits-register 8 c b h)

from-append : (c : ℕ) (l m : List ℕ) → crc_from c (l ++ m) ≡ crc_from (crc_from c l) m
unfolding crc_from
from-append c [] m = refl
from-append c (b ∷ l) m = from-append (crc_byte c b) l m

-- ## Its own bits empty it

-- the register's next n bits are those of the byte
abbrev Same : (n c b : ℕ) → Type 0
Same zero c b = Unit {0}
Same (suc n) c b = (c / 2147483648 ≡ b / 128) × Same n (c * 2 % 4294967296) (b * 2 % 256)

unfoldable shifted : ℕ → ℕ → ℕ
shifted zero c = c
shifted (suc n) c = shifted n (c * 2 % 4294967296)

same-shifts : (n c b : ℕ) → Same n c b → crc_bits n c b ≡ shifted n c
unfolding crc_bits crc_bit shifted
same-shifts zero c b s = refl
same-shifts (suc n) c b s = rw (eq-eqb (c / 2147483648) (b / 128) s.0) (same-shifts n (c * 2 % 4294967296) (b * 2 % 256) s.1)

same1 : (c b : ℕ) → c / 2147483648 ≡ b / 128 → Same 1 c b
same1 c b e = (e, tt)

same2 : (c b : ℕ) → c / 1073741824 ≡ b / 64 → Same 2 c b
same2 c b e = (omega arith, same1 (c * 2 % 4294967296) (b * 2 % 256) (omega arith))

same3 : (c b : ℕ) → c / 536870912 ≡ b / 32 → Same 3 c b
same3 c b e = (omega arith, same2 (c * 2 % 4294967296) (b * 2 % 256) (omega arith))

same4 : (c b : ℕ) → c / 268435456 ≡ b / 16 → Same 4 c b
same4 c b e = (omega arith, same3 (c * 2 % 4294967296) (b * 2 % 256) (omega arith))

same5 : (c b : ℕ) → c / 134217728 ≡ b / 8 → Same 5 c b
same5 c b e = (omega arith, same4 (c * 2 % 4294967296) (b * 2 % 256) (omega arith))

same6 : (c b : ℕ) → c / 67108864 ≡ b / 4 → Same 6 c b
same6 c b e = (omega arith, same5 (c * 2 % 4294967296) (b * 2 % 256) (omega arith))

same7 : (c b : ℕ) → c / 33554432 ≡ b / 2 → Same 7 c b
same7 c b e = (omega arith, same6 (c * 2 % 4294967296) (b * 2 % 256) (omega arith))

same8 : (c b : ℕ) → c / 16777216 ≡ b → Same 8 c b
same8 c b e = (omega arith, same7 (c * 2 % 4294967296) (b * 2 % 256) (omega arith))

shifted2 : (c : ℕ) → c * 2 % 4294967296 * 2 % 4294967296 ≡ c * 4 % 4294967296
shifted2 c =
    sym (mul-add-mod_self_right (c * 2 / 4294967296 * 2) 4294967296 (c * 2 % 4294967296 * 2)) ∙ ap (λ x. x % 4294967296) whole
  where
    whole : c * 2 / 4294967296 * 2 * 4294967296 + c * 2 % 4294967296 * 2 ≡ c * 4
    whole = omega arith

shifted4 : (c : ℕ) → c * 4 % 4294967296 * 4 % 4294967296 ≡ c * 16 % 4294967296
shifted4 c = omega arith

shifted16 : (c : ℕ) → c * 16 % 4294967296 * 16 % 4294967296 ≡ c * 256 % 4294967296
shifted16 c = omega arith

shifted8 : (c : ℕ) → shifted 8 c ≡ c * 256 % 4294967296
unfolding shifted
shifted8 c =
    let d = c * 4 % 4294967296 in
    let e = d * 4 % 4294967296 in
    ap (shifted 6) (shifted2 c) ∙ ap (shifted 4) (shifted2 d) ∙ ap (shifted 2) (shifted2 e) ∙ shifted2 (e * 4 % 4294967296)
    ∙ ap (λ x. x * 4 % 4294967296 * 4 % 4294967296) (shifted4 c) ∙ shifted4 (c * 16 % 4294967296) ∙ shifted16 c

own-byte : (c b : ℕ) → c / 16777216 ≡ b → crc_byte c b ≡ c * 256 % 4294967296
own-byte c b e = same-shifts 8 c b (same8 c b e) ∙ shifted8 c

own-bytes : (c : ℕ) → Register c → crc_from c (bytes 4 c) ≡ 0
unfolding crc_from bytes
own-bytes c h = rw (own-byte c _ (one c h)) (rw (own-byte _ _ (two c h))
    (rw (own-byte _ _ (three c h)) (own-byte _ _ (four c h) ∙ nothing c h)))
  where
    one : (c : ℕ) → Register c → c / 16777216 ≡ c / 256 / 256 / 256 % 256
    one c h = omega arith

    two : (c : ℕ) → Register c → c * 256 % 4294967296 / 16777216 ≡ c / 256 / 256 % 256
    two c h = omega arith

    three : (c : ℕ) → Register c → c * 256 % 4294967296 * 256 % 4294967296 / 16777216 ≡ c / 256 % 256
    three c h = omega arith

    four : (c : ℕ) → Register c → c * 256 % 4294967296 * 256 % 4294967296 * 256 % 4294967296 / 16777216 ≡ c % 256
    four c h = omega arith

    nothing : (c : ℕ) → Register c → c * 256 % 4294967296 * 256 % 4294967296 * 256 % 4294967296 * 256 % 4294967296 ≡ 0
    nothing c h = omega arith

-- for every byte string, the register behind it and its CRC in four bytes is 0
pub crc-closes : (l : List ℕ) → right_crc (l ++ bytes 4 (crc l)) ≡ true
unfolding crc
crc-closes l =
    eq-eqb _ 0
    (from-append 0xFFFFFFFF l (bytes 4 (crc_from 0xFFFFFFFF l))
    ∙ own-bytes (crc_from 0xFFFFFFFF l) (from-register 0xFFFFFFFF l (omega arith)))

-- ## Every step can be taken back

digit-back : (a x y : ℕ) → a < 2 → x < 2 → y < 2 → differ a x ≡ differ a y → x ≡ y
digit-back zero x y h k l e = e
digit-back (suc zero) x y h k l e = omega (arith, digit-one x k, digit-one y l, e)
digit-back (suc (suc a)) x y h k l e = absurd (omega arith)

xor-back : (a x y : ℕ) → bit_xor a x ≡ bit_xor a y → x ≡ y
xor-back =
    bin_ind (λ (a : ℕ). (x y : ℕ) → bit_xor a x ≡ bit_xor a y → x ≡ y) (λ x y e. e)
    (λ a back x y e.
    parts (bit_xor (a / 2) (x / 2)) (bit_xor (a / 2) (y / 2)) (differ (a % 2) (x % 2)) (differ (a % 2) (y % 2)) x y
    (digit-below (a % 2) (x % 2) (omega arith) (omega arith)) (digit-below (a % 2) (y % 2) (omega arith) (omega arith))
    (sym (xor_step a x) ∙ e ∙ xor_step a y) (back (x / 2) (y / 2)) (digit-back (a % 2) (x % 2) (y % 2) (omega arith) (omega arith)
    (omega arith)))
  where
    parts : (p q d f x y : ℕ) → d < 2 → f < 2 → p * 2 + d ≡ q * 2 + f → (p ≡ q → x / 2 ≡ y / 2) → (d ≡ f → x % 2 ≡ y % 2) → x ≡ y
    parts p q d f x y h k e u v = let i = u (omega arith) in let j = v (omega arith) in omega arith

-- an even register is odd behind the XOR
xor-odd : (d : ℕ) → d % 2 ≡ 0 → bit_xor 0x04C11DB7 d % 2 ≡ 1
xor-odd d e = ap (λ x. x % 2) (xor_step 0x04C11DB7 d ∙ ap (λ y. bit_xor (0x04C11DB7 / 2) (d / 2) * 2 + differ 1 y) e)
    ∙ odd (bit_xor (0x04C11DB7 / 2) (d / 2))
  where
    odd : (n : ℕ) → (n * 2 + 1) % 2 ≡ 1
    odd n = omega arith

-- so that no register comes both with an XOR and without
xor-never : (c d : ℕ) → c * 2 % 4294967296 ≡ bit_xor 0x04C11DB7 (d * 2 % 4294967296) → ⊥
xor-never c d e = two (c * 2 % 4294967296) _ e (omega arith) (xor-odd (d * 2 % 4294967296) (omega arith))
  where
    two : (u v : ℕ) → u ≡ v → u % 2 ≡ 0 → v % 2 ≡ 1 → ⊥
    two u v e f g = omega arith

-- of three bits, two that are not the third are the same
two-others : (p q x : ℕ) → p < 2 → q < 2 → x < 2 → (p ≡ x → ⊥) → (q ≡ x → ⊥) → p ≡ q
two-others p q x h k l m n = omega arith

-- the shift leaves all bits but the highest
low_bits : (c : ℕ) → c * 2 % 4294967296 ≡ c % 2147483648 * 2
low_bits c = omega arith

module _ (c d : ℕ) (h : Register c) (k : Register d) where
  -- the highest bit and the others
  whole-register : c / 2147483648 ≡ d / 2147483648 → c * 2 % 4294967296 ≡ d * 2 % 4294967296 → c ≡ d
  whole-register e f = let g : c % 2147483648 * 2 ≡ d % 2147483648 * 2 = sym (low_bits c) ∙ f ∙ low_bits d in omega (arith, e, g)

  bit-back : (x : ℕ) → x < 2 → crc_bit c x ≡ crc_bit d x → c ≡ d
  unfolding crc_bit
  bit-back x l e = go (eqb (c / 2147483648) x) (eqb (d / 2147483648) x) refl refl e
    where
      go : (a b : Bool) → eqb (c / 2147483648) x ≡ a → eqb (d / 2147483648) x ≡ b
          → cond a (c * 2 % 4294967296) (bit_xor 0x04C11DB7 (c * 2 % 4294967296))
          ≡ cond b (d * 2 % 4294967296) (bit_xor 0x04C11DB7 (d * 2 % 4294967296))
          → c ≡ d
      go true true u v e = whole-register (eqb-true (c / 2147483648) x u ∙ sym (eqb-true (d / 2147483648) x v)) e
      go true false u v e = absurd (xor-never c d e)
      go false true u v e = absurd (xor-never d c (sym e))
      go false false u v e =
          whole-register
          (two-others (c / 2147483648) (d / 2147483648) x (omega arith) (omega arith) l (eqb-false (c / 2147483648) x u)
          (eqb-false (d / 2147483648) x v))
          (xor-back 0x04C11DB7 (c * 2 % 4294967296) (d * 2 % 4294967296) e)

bit-apart : (c x y : ℕ) → Register c → x < 2 → y < 2 → crc_bit c x ≡ crc_bit c y → x ≡ y
unfolding crc_bit
bit-apart c x y h k l e = go (eqb (c / 2147483648) x) (eqb (c / 2147483648) y) refl refl e
  where
    go : (a b : Bool) → eqb (c / 2147483648) x ≡ a → eqb (c / 2147483648) y ≡ b
        → cond a (c * 2 % 4294967296) (bit_xor 0x04C11DB7 (c * 2 % 4294967296))
        ≡ cond b (c * 2 % 4294967296) (bit_xor 0x04C11DB7 (c * 2 % 4294967296))
        → x ≡ y
    go true true u v e = omega (arith, eqb-true (c / 2147483648) x u, eqb-true (c / 2147483648) y v)
    go true false u v e = absurd (xor-never c c e)
    go false true u v e = absurd (xor-never c c (sym e))
    go false false u v e = omega (arith, eqb-false (c / 2147483648) x u, eqb-false (c / 2147483648) y v)

bits_back : (n c d b : ℕ) → Register c → Register d → Byte b → crc_bits n c b ≡ crc_bits n d b → c ≡ d
unfolding crc_bits
bits_back zero c d b h k l e = e
bits_back (suc n) c d b h k l e =
    bit-back c d h k (b / 128) (omega arith)
    (bits_back n (crc_bit c (b / 128)) (crc_bit d (b / 128)) (b * 2 % 256) (bit-register c (b / 128)) (bit-register d (b / 128))
    (omega arith)
    e)

from_back : (c d : ℕ) (l : List ℕ) → Register c → Register d → All Byte l → crc_from c l ≡ crc_from d l → c ≡ d
unfolding crc_from
from_back c d [] h k a e = e
from_back c d (b ∷ l) h k a e =
    bits_back 8 c d b h k a.0 (from_back (crc_byte c b) (crc_byte d b) l (bits-register 8 c b h) (bits-register 8 d b k) a.1 e)

-- ## One bit

byte_low : (x : ℕ) → x * 2 % 256 ≡ x % 128 * 2
byte_low x = omega arith

-- a byte whose bit of weight w is not set, and the byte in which it is: behind the first bit, if that is another one
bit_past : (n c x w : ℕ) → (x + w) / 128 ≡ x / 128 → crc_bits (suc n) c x ≡ crc_bits (suc n) c (x + w)
    → crc_bits n (crc_bit c (x / 128)) (x * 2 % 256) ≡ crc_bits n (crc_bit c (x / 128)) (x * 2 % 256 + w * 2)
unfolding crc_bits
bit_past n c x w e h = h ∙ ap₂ (λ u v. crc_bits n (crc_bit c u) v) e (omega (arith, byte_low (x + w), byte_low x))

wrong128 : (n c x : ℕ) → Register c → Byte x → x / 128 % 2 ≡ 0 → crc_bits (suc n) c x ≡ crc_bits (suc n) c (x + 128) → ⊥
unfolding crc_bits
wrong128 n c x h k z e =
    let same : (x + 128) * 2 % 256 ≡ x * 2 % 256 = omega arith in
    let back = bits_back n (crc_bit c (x / 128)) (crc_bit c ((x + 128) / 128)) (x * 2 % 256) (bit-register c (x / 128))
    (bit-register c ((x + 128) / 128)) (omega arith)
    (e ∙ ap (crc_bits n (crc_bit c ((x + 128) / 128))) same) in
    omega (arith, bit-apart c (x / 128) ((x + 128) / 128) h (omega arith) (omega arith) back)

wrong64 : (n c x : ℕ) → Register c → Byte x → x / 64 % 2 ≡ 0 → crc_bits (suc (suc n)) c x ≡ crc_bits (suc (suc n)) c (x + 64) → ⊥
wrong64 n c x h k z e =
    wrong128 n (crc_bit c (x / 128)) (x * 2 % 256) (bit-register c (x / 128)) (omega arith) (omega arith)
    (bit_past (suc n) c x 64 (omega arith) e)

wrong32 : (n c x : ℕ) → Register c → Byte x → x / 32 % 2 ≡ 0
    → crc_bits (suc (suc (suc n))) c x ≡ crc_bits (suc (suc (suc n))) c (x + 32) → ⊥
wrong32 n c x h k z e =
    wrong64 n (crc_bit c (x / 128)) (x * 2 % 256) (bit-register c (x / 128)) (omega arith) (omega arith)
    (bit_past (suc (suc n)) c x 32 (omega arith) e)

wrong16 : (n c x : ℕ) → Register c → Byte x → x / 16 % 2 ≡ 0 → crc_bits (suc (suc (suc (suc n)))) c x
    ≡ crc_bits (suc (suc (suc (suc n)))) c (x + 16) → ⊥
wrong16 n c x h k z e =
    wrong32 n (crc_bit c (x / 128)) (x * 2 % 256) (bit-register c (x / 128)) (omega arith) (omega arith)
    (bit_past (suc (suc (suc n))) c x 16 (omega arith) e)

wrong8 : (n c x : ℕ) → Register c → Byte x → x / 8 % 2 ≡ 0 → crc_bits (suc (suc (suc (suc (suc n))))) c x
    ≡ crc_bits (suc (suc (suc (suc (suc n))))) c (x + 8) → ⊥
wrong8 n c x h k z e =
    wrong16 n (crc_bit c (x / 128)) (x * 2 % 256) (bit-register c (x / 128)) (omega arith) (omega arith)
    (bit_past (suc (suc (suc (suc n)))) c x 8 (omega arith) e)

wrong4 : (n c x : ℕ) → Register c → Byte x → x / 4 % 2 ≡ 0 → crc_bits (suc (suc (suc (suc (suc (suc n)))))) c x
    ≡ crc_bits (suc (suc (suc (suc (suc (suc n)))))) c (x + 4) → ⊥
wrong4 n c x h k z e =
    wrong8 n (crc_bit c (x / 128)) (x * 2 % 256) (bit-register c (x / 128)) (omega arith) (omega arith)
    (bit_past (suc (suc (suc (suc (suc n))))) c x 4 (omega arith) e)

wrong2 : (n c x : ℕ) → Register c → Byte x → x / 2 % 2 ≡ 0 → crc_bits (suc (suc (suc (suc (suc (suc (suc n))))))) c x
    ≡ crc_bits (suc (suc (suc (suc (suc (suc (suc n))))))) c (x + 2) → ⊥
wrong2 n c x h k z e =
    wrong4 n (crc_bit c (x / 128)) (x * 2 % 256) (bit-register c (x / 128)) (omega arith) (omega arith)
    (bit_past (suc (suc (suc (suc (suc (suc n)))))) c x 2 (omega arith) e)

wrong1 : (n c x : ℕ) → Register c → Byte x → x % 2 ≡ 0 → crc_bits (suc (suc (suc (suc (suc (suc (suc (suc n)))))))) c x
    ≡ crc_bits (suc (suc (suc (suc (suc (suc (suc (suc n)))))))) c (x + 1) → ⊥
wrong1 n c x h k z e =
    wrong2 n (crc_bit c (x / 128)) (x * 2 % 256) (bit-register c (x / 128)) (omega arith) (omega arith)
    (bit_past (suc (suc (suc (suc (suc (suc (suc n))))))) c x 1 (omega arith) e)

byte-wrong : (i c x : ℕ) → i < 8 → Register c → Byte x → x / 2 ^ i % 2 ≡ 0 → crc_byte c x ≡ crc_byte c (x + 2 ^ i) → ⊥
byte-wrong zero c x l h k z e = wrong1 0 c x h k (omega arith) e
byte-wrong (suc zero) c x l h k z e = wrong2 1 c x h k z e
byte-wrong (suc (suc zero)) c x l h k z e = wrong4 2 c x h k z e
byte-wrong (suc (suc (suc zero))) c x l h k z e = wrong8 3 c x h k z e
byte-wrong (suc (suc (suc (suc zero)))) c x l h k z e = wrong16 4 c x h k z e
byte-wrong (suc (suc (suc (suc (suc zero))))) c x l h k z e = wrong32 5 c x h k z e
byte-wrong (suc (suc (suc (suc (suc (suc zero)))))) c x l h k z e = wrong64 6 c x h k z e
byte-wrong (suc (suc (suc (suc (suc (suc (suc zero))))))) c x l h k z e = wrong128 7 c x h k z e
byte-wrong (suc (suc (suc (suc (suc (suc (suc (suc i)))))))) c x l h k z e = absurd (omega arith)

-- two byte strings of one length that differ in one bit, the bit i of one byte x, do not both have a right CRC
pub one-bit-wrong : (a r : List ℕ) (x i : ℕ) → All Byte r → Byte x → i < 8 → x / 2 ^ i % 2 ≡ 0
    → right_crc (a ++ (x ∷ r)) ≡ true → right_crc (a ++ ((x + 2 ^ i) ∷ r)) ≡ true → ⊥
unfolding crc crc_from
one-bit-wrong a r x i b k l z u v =
    let c = crc_from 0xFFFFFFFF a in
    let h : Register c = from-register 0xFFFFFFFF a (omega arith) in
    let e = sym (from-append 0xFFFFFFFF a (x ∷ r)) ∙ eqb-true _ 0 u ∙ sym (eqb-true _ 0 v) ∙ from-append 0xFFFFFFFF a ((x + 2 ^ i) ∷ r) in
    byte-wrong i c x l h k z (from_back (crc_byte c x) (crc_byte c (x + 2 ^ i)) r (bits-register 8 c x h) (bits-register 8 c
    (x + 2 ^ i) h) b
    e)

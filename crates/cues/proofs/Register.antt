-- A register's way through bits and bytes, one step at a time. Rests on the bit operations' digits.
use mathlib.Core.Path.{◌≡◌, refl, sym, ap, ap₂, ◌∙◌}
use mathlib.Core.Bool.{Bool, true, false, cond}
use mathlib.Core.List.{List}
use Prim.Native.Nat.{ℕ, zero, suc, ◌+◌, ◌-◌, ◌*◌, ◌/◌, ◌%◌, ◌<◌, ◌≤◌}
use native.Mathlib.Omega.{arith}
use native.Mathlib.Numerals.{add-one}
use lib.Dec.{eqb}
use lib.Bits.{bit_xor, differ, xor_step, xor_lt, xor_mod, xor_shr, xor_zero_r}
use lib.Arith.{bin_ind}
use lib.ListN.{length, drop, get_or, drop_of_length-le}
use lib.Seq.{drop-cons}
use Rattle.rules.specs.Crc.{crc_bit, crc_bits, crc_byte, crc_from}
use Rattle.rules.proofs.Tests.{by}
use Rattle.cues.specs.Turns.{turns}

-- ## The register has 32 bits

abbrev pub Register : ℕ → Type 0
Register c = c < 4294967296

pub bit-register : (c x : ℕ) → Register (crc_bit c x)
unfolding crc_bit
bit-register c x =
    by Register (eqb (c / 2147483648) x) (c * 2 % 4294967296) (bit_xor 0x04C11DB7 (c * 2 % 4294967296)) (λ e. omega arith)
    (λ e. xor_lt 32 0x04C11DB7 (c * 2 % 4294967296) (omega arith) (omega arith))

-- ## XOR, digit by digit

pub digit-one : (x : ℕ) → x < 2 → differ 1 x ≡ 1 - x
digit-one zero h = refl
digit-one (suc zero) h = refl
digit-one (suc (suc x)) h = absurd (omega arith)

pub digit-below : (a x : ℕ) → a < 2 → x < 2 → differ a x < 2
digit-below zero x h k = k
digit-below (suc zero) x h k = omega (arith, digit-one x k)
digit-below (suc (suc a)) x h k = absurd (omega arith)

digit_assoc : (x y z : ℕ) → x < 2 → y < 2 → z < 2 → differ x (differ y z) ≡ differ (differ x y) z
digit_assoc zero y z h k l = refl
digit_assoc (suc zero) zero z h k l = refl
digit_assoc (suc zero) (suc zero) zero h k l = refl
digit_assoc (suc zero) (suc zero) (suc zero) h k l = refl
digit_assoc (suc zero) (suc zero) (suc (suc z)) h k l = absurd (omega arith)
digit_assoc (suc zero) (suc (suc y)) z h k l = absurd (omega arith)
digit_assoc (suc (suc x)) y z h k l = absurd (omega arith)

module _ (a b : ℕ) where
  low : differ (a % 2) (b % 2) < 2
  low = digit-below (a % 2) (b % 2) (omega arith) (omega arith)

  halves : (p d : ℕ) → d < 2 → ((p * 2 + d) / 2 ≡ p) × ((p * 2 + d) % 2 ≡ d)
  halves p d h = (omega arith, omega arith)

  xor-half : bit_xor a b / 2 ≡ bit_xor (a / 2) (b / 2)
  xor-half = ap (λ x. x / 2) (xor_step a b) ∙ (halves _ _ low).0

  xor-digit : bit_xor a b % 2 ≡ differ (a % 2) (b % 2)
  xor-digit = ap (λ x. x % 2) (xor_step a b) ∙ (halves _ _ low).1

xor_assoc : (a b c : ℕ) → bit_xor a (bit_xor b c) ≡ bit_xor (bit_xor a b) c
xor_assoc =
    bin_ind (λ (a : ℕ). (b c : ℕ) → bit_xor a (bit_xor b c) ≡ bit_xor (bit_xor a b) c) (λ b c. refl)
    (λ a same b c.
    xor_step a (bit_xor b c) ∙ ap₂ (λ x y. bit_xor (a / 2) x * 2 + differ (a % 2) y) (xor-half b c) (xor-digit b c)
    ∙ ap₂ (λ x y. x * 2 + y) (same (b / 2) (c / 2)) (digit_assoc (a % 2) (b % 2) (c % 2) (omega arith) (omega arith) (omega arith))
    ∙ sym (xor_step (bit_xor a b) c ∙ ap₂ (λ x y. bit_xor x (c / 2) * 2 + differ y (c % 2)) (xor-half a b) (xor-digit a b)))

-- a shift of both
xor-double : (a b : ℕ) → bit_xor (a * 2) (b * 2) ≡ bit_xor a b * 2
xor-double a b =
    xor_step (a * 2) (b * 2) ∙ ap₂ (λ x y. bit_xor x y * 2 + differ (a * 2 % 2) (b * 2 % 2)) (half a) (half b)
    ∙ ap₂ (λ x y. bit_xor a b * 2 + differ x y) (even a) (even b) ∙ none (bit_xor a b * 2)
  where
    half : (x : ℕ) → x * 2 / 2 ≡ x
    half x = omega arith

    even : (x : ℕ) → x * 2 % 2 ≡ 0
    even x = omega arith

    none : (x : ℕ) → x + 0 ≡ x
    none x = omega arith

same-digit : (p q : ℕ) → p < 2 → q < 2 → eqb (bit_xor p q) 0 ≡ eqb p q
same-digit zero zero h k = refl
same-digit zero (suc zero) h k = refl
same-digit (suc zero) zero h k = refl
same-digit (suc zero) (suc zero) h k = refl
same-digit zero (suc (suc q)) h k = absurd (omega arith)
same-digit (suc zero) (suc (suc q)) h k = absurd (omega arith)
same-digit (suc (suc p)) q h k = absurd (omega arith)

-- ## A byte's bits in the register's highest ones

module _ (c b : ℕ) (h : Register c) (k : b < 256) where
  abbrev x : ℕ
  x = bit_xor c (b * 16777216)

  -- what is left of the byte
  abbrev e : ℕ
  e = b * 2 % 256 * 16777216

  abbrev d : ℕ
  d = c * 2 % 4294967296

  shift : x * 2 % 4294967296 ≡ bit_xor d e
  shift =
      ap (λ y. y % 4294967296) (sym (xor-double c (b * 16777216))) ∙ xor_mod (c * 2) (b * 16777216 * 2) 32 ∙ ap (bit_xor d) rest
    where
      rest : b * 16777216 * 2 % 4294967296 ≡ e
      rest = omega arith

  top : x / 2147483648 ≡ bit_xor (c / 2147483648) (b / 128)
  top = xor_shr c (b * 16777216) 31 ∙ ap (bit_xor (c / 2147483648)) rest
    where
      rest : b * 16777216 / 2147483648 ≡ b / 128
      rest = omega arith

  -- a bit, taken from the register's own
  turn_step : crc_bit x 0 ≡ bit_xor (crc_bit c (b / 128)) e
  unfolding crc_bit
  turn_step =
      ap₂ (λ (t : Bool) y. cond t y (bit_xor 0x04C11DB7 y)) (ap (λ y. eqb y 0) top
      ∙ same-digit (c / 2147483648) (b / 128) (omega arith) (omega arith)) shift
      ∙ go (eqb (c / 2147483648) (b / 128))
    where
      go : (t : Bool) → cond t (bit_xor d e) (bit_xor 0x04C11DB7 (bit_xor d e)) ≡ bit_xor (cond t d (bit_xor 0x04C11DB7 d)) e
      go true = refl
      go false = xor_assoc 0x04C11DB7 d e

-- what n turns leave of a byte
unfoldable left : ℕ → ℕ → ℕ
left zero b = b
left (suc n) b = left n (b * 2 % 256)

turns-byte : (n c b : ℕ) → Register c → b < 256 → turns n (bit_xor c (b * 16777216)) ≡ bit_xor (crc_bits n c b) (left n b * 16777216)
unfolding turns crc_bits left
turns-byte zero c b h k = refl
turns-byte (suc n) c b h k = ap (turns n) (turn_step c b h k) ∙ turns-byte n (crc_bit c (b / 128)) (b * 2 % 256) (bit-register c (b / 128))
    (omega arith)

left-none : (b : ℕ) → b < 256 → left 8 b ≡ 0
unfolding left
left-none b h = omega arith

-- eight turns take the whole byte
pub byte_turns : (c b : ℕ) → Register c → b < 256 → turns 4 (turns 4 (bit_xor c (b * 16777216))) ≡ crc_byte c b
unfolding turns
byte_turns c b h k = turns-byte 8 c b h k ∙ ap (λ y. bit_xor (crc_bits 8 c b) (y * 16777216)) (left-none b k) ∙ xor_zero_r (crc_bits 8 c b)

-- ## Bytes

pub from_step : (l : List ℕ) (i c : ℕ) → i < length l → crc_from c (drop i l) ≡ crc_from (crc_byte c (get_or l i 0)) (drop (i + 1) l)
unfolding crc_from
from_step l i c h = rw add-one (ap (crc_from c) (drop-cons l i 0 h))

pub from_none : (l : List ℕ) (i c : ℕ) → length l ≤ i → crc_from c (drop i l) ≡ c
unfolding crc_from
from_none l i c h = ap (crc_from c) (drop_of_length-le l {i = i} h)

-- CRC_32 of a section of cues, bit by bit (ISO/IEC 13818-1; docs/SCTE35.md).
-- Polynomial 0x04C11DB7, register 0xFFFFFFFF at the start, the highest bit of each
-- byte first, nothing turned or added at the end. 02, CR 7: "computed bit by bit".
use Rattle.std.specs.Prelude.{Bool, cond, List, [], ◌∷◌, ℕ, zero, suc, ◌*◌, ◌/◌, ◌%◌, eqb}
use Rattle.std.specs.Int.Bits.{bit_xor}

-- a bit into the register c: take the register's highest bit, shift the register left by one, and if the bit taken differs from the data's
-- bit, XOR the register with 0x04C11DB7
unfoldable pub crc_bit : ℕ → ℕ → ℕ
crc_bit c bit = cond (eqb (c / 2147483648) bit) (c * 2 % 4294967296) (bit_xor 0x04C11DB7 (c * 2 % 4294967296))

-- n bits of the byte b, the highest first
unfoldable pub crc_bits : ℕ → ℕ → ℕ → ℕ
crc_bits zero c b = c
crc_bits (suc n) c b = crc_bits n (crc_bit c (b / 128)) (b * 2 % 256)

abbrev pub crc_byte : ℕ → ℕ → ℕ
crc_byte c b = crc_bits 8 c b

unfoldable pub crc_from : ℕ → List ℕ → ℕ
crc_from c [] = c
crc_from c (b ∷ l) = crc_from (crc_byte c b) l

-- the register behind all of l
unfoldable pub crc : List ℕ → ℕ
crc l = crc_from 0xFFFFFFFF l

-- a section is right exactly if it is 0 behind the whole section
abbrev pub right_crc : List ℕ → Bool
right_crc l = eqb (crc l) 0

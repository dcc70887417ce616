-- A register with the data's bits in its highest ones already (`byte-turns` of proofs/Register). Assumes nothing.
use Rattle.std.specs.Prelude.{ℕ, zero, suc}
use Rattle.rules.specs.Crc.{crc_bit}

-- n of its own bits taken
unfoldable pub turns : ℕ → ℕ → ℕ
turns zero c = c
turns (suc n) c = turns n (crc_bit c 0)

-- What the theorems about a cue's time and CRC_32 ask can be met: by a cue whose time the field holds, by one whose it does not, and by a
-- right CRC_32. By computing, and by crc-closes.
use mathlib.Core.Path.{◌≡◌, refl}
use mathlib.Core.Bool.{true}
use mathlib.Core.List.{[], ◌∷◌, ◌++◌}
use Prim.Native.Nat.{◌/◌, ◌%◌, ◌^◌, ◌<◌}
use native.Mathlib.Omega.{arith}
use Rattle.rules.specs.declared.Cue.TheVariants.{At, Timeless}
use Rattle.rules.specs.Bytes.{bytes}
use Rattle.rules.specs.Crc.{crc, right_crc}
use Rattle.rules.specs.Cues.{ticks_after, exact_time}
use Rattle.cues.proofs.Checked.{crc-closes}
use Rattle.cues.proofs.Times.{exact, range, Timed}

-- 100,001 ticks after the PTS of 1,000 s
pub in-range : exact 591651064 1000 0 591751065 < range
unfolding exact_time ticks_after
in-range = omega arith

-- a cue without a pts_time; and the last second of the field, two seconds before its cue
pub no-time : Timed 0 0 0 Timeless → ⊥
no-time h = h

pub past-range : Timed 0 4294967295 0 (At 180000) → ⊥
unfolding exact_time ticks_after
past-range h = omega (arith, h)

-- a byte, then the CRC_32 of the two: the bit 0 of 254 is 0
pub right : right_crc ((254 ∷ []) ++ bytes 4 (crc (254 ∷ []))) ≡ true
right = crc-closes (254 ∷ [])

pub bit : 254 / 2 ^ 0 % 2 ≡ 0
bit = refl

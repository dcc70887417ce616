-- 01, Bytes: microseconds, 90 kHz ticks and ninths, and how one becomes the other.
-- 01, Bytes: "A wire time counts microseconds and a Duration counts 90 kHz ticks, and one becomes the other only here:
-- in ninths of a microsecond, a second is 9,000,000, a microsecond 9, a tick 100. The clock and all instants are kept in ninths."
use Rattle.std.specs.Prelude.{Bool, ℕ, ◌+◌, ◌*◌, ◌/◌, ltb}
use Rattle.rules.specs.declared.Micros.{Micros}
use Rattle.rules.specs.declared.Ticks.{Ticks}
use Rattle.rules.specs.declared.Ninths.{Ninths}

-- the clock and a timed start stay below this: Seconds are four bytes
abbrev pub horizon : ℕ
horizon = 4294967296 * 9000000

-- microseconds of a second
abbrev pub second : ℕ
second = 1000000

-- the time that Seconds and MicroSeconds of the wire give
abbrev pub time_of : ℕ → ℕ → Micros
time_of seconds micros = record { 0 = seconds * second + micros }

-- a time of the wire has at most 999,999 MicroSeconds
-- 8: "MicroSeconds above 999,999"
abbrev pub bad_micros : ℕ → Bool
bad_micros micros = ltb 999999 micros

abbrev pub from_micros : Micros → Ninths
from_micros m = record { 0 = m.0 * 9 }

-- "a tick 100"
abbrev pub from_ticks : Ticks → Ninths
from_ticks d = record { 0 = d.0 * 100 }

-- rounded down
abbrev pub to_micros : Ninths → Micros
to_micros n = record { 0 = n.0 / 9 }

-- rounded down
abbrev pub to_ticks : Ninths → Ticks
to_ticks n = record { 0 = n.0 / 100 }

-- rounded up: the first microsecond that is not before an instant in ninths
abbrev pub up_micros : ℕ → ℕ
up_micros t = (t + 8) / 9

-- rounded up: the first tick that is not before so many ninths
abbrev pub up_ticks : ℕ → ℕ
up_ticks d = (d + 99) / 100

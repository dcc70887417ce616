-- 02, CR 7, of a cue's time: the ticks are those to the first such PTS (`ticks-first`), the time that is written is the last microsecond
-- not after
-- the exact one (`cue-time`), and all ones are written exactly without a pts_time or past the field (`cue-time-ones`). Assumes nothing.
use mathlib.Core.Path.{◌≡◌, refl, ap}
use Prim.Native.Nat.{ℕ, ◌+◌, ◌*◌, ◌/◌, ◌%◌, ◌<◌, ◌≤◌}
use native.Mathlib.Omega.{arith}
use borrow.Author.Tests.{lt-ltb, le-ltb}
use Rattle.rules.specs.declared.Cue.{Cue}
use Rattle.rules.specs.declared.Cue.TheVariants.{At, Timeless, Silent, Bad}
use Rattle.rules.specs.declared.WireTime.{WireTime}
use Rattle.rules.specs.Units.{second, time_of, from_micros}
use Rattle.rules.specs.Cues.{pts_turn, ticks_after, exact_time, all_ones, wire_time_of, cue_time}

-- "counts as the first one at or after that PTS": d ticks later it is p, and no fewer ticks later
pub record FirstAfter (pts p d : ℕ) : Type 0 where
  pub below : d < pts_turn
  pub there : (pts + d) % pts_turn ≡ p % pts_turn
  pub first : (e : ℕ) → (pts + e) % pts_turn ≡ p % pts_turn → d ≤ e

pub ticks-first : (pts p : ℕ) → FirstAfter pts p (ticks_after pts p)
unfolding ticks_after
ticks-first pts p = record { below = omega arith; there = omega arith; first = λ e h. omega arith }

-- the given instant in ninths, and the exact one
abbrev given : (seconds micros : ℕ) → ℕ
given seconds micros = (from_micros (time_of seconds micros)).0

abbrev pub exact : (pts seconds micros p : ℕ) → ℕ
exact pts seconds micros p = exact_time pts (given seconds micros) p

-- "the time field's range", in ninths: Seconds of four bytes
abbrev pub range : ℕ
range = 4294967296 * (second * 9)

-- "rounded down to a microsecond", "never more than a microsecond before the exact one"
pub record Writes (x : ℕ) (t : WireTime) : Type 0 where
  pub down : 9 * (time_of t.seconds t.micros).0 ≤ x
  pub near : x < 9 * (time_of t.seconds t.micros).0 + 9
  pub good : t.micros < second

module _ (x : ℕ) where
  within : x < range → Writes x (wire_time_of (x / 9))
  unfolding wire_time_of
  within h = rw (le-ltb 0xFFFFFFFF (x / 9 / second) (omega arith)) (record { down = omega arith; near = omega arith; good = omega arith })

  past : range ≤ x → wire_time_of (x / 9) ≡ all_ones
  unfolding wire_time_of
  past h = rw (lt-ltb 0xFFFFFFFF (x / 9 / second) (omega arith))

-- a cue without a time
pub without-time : (x : Cue) (pts seconds micros : ℕ) → ((p : ℕ) → x ≡ At p → ⊥) → all_ones ≡ cue_time pts seconds micros x
unfolding cue_time
without-time (At p) pts seconds micros n = absurd (n p refl)
without-time Timeless pts seconds micros n = refl
without-time Silent pts seconds micros n = refl
without-time Bad pts seconds micros n = refl

module _ (pts seconds micros : ℕ) where
  -- in ninths, a tick being 100 of them
  pub exact-is : (p : ℕ) → exact pts seconds micros p ≡ 9 * (time_of seconds micros).0 + 100 * ticks_after pts p
  unfolding exact_time
  exact-is p = omega arith

  pub cue-time : (p : ℕ) → exact pts seconds micros p < range → Writes (exact pts seconds micros p) (cue_time pts seconds micros (At p))
  unfolding cue_time
  cue-time p h = within (exact pts seconds micros p) h

  pub cue-time-past : (p : ℕ) → range ≤ exact pts seconds micros p → cue_time pts seconds micros (At p) ≡ all_ones
  unfolding cue_time
  cue-time-past p h = past (exact pts seconds micros p) h

  -- whether there is a pts_time and the exact instant is in the range
  abbrev pub Timed : Cue → Type 0
  Timed (At p) = exact pts seconds micros p < range
  Timed Timeless = ⊥
  Timed Silent = ⊥
  Timed Bad = ⊥

  pub cue-time-ones : (x : Cue) → (Timed x → ⊥) → cue_time pts seconds micros x ≡ all_ones
  unfolding cue_time
  cue-time-ones (At p) n = past (exact pts seconds micros p) (omega (arith, n))
  cue-time-ones Timeless n = refl
  cue-time-ones Silent n = refl
  cue-time-ones Bad n = refl

  pub cue-time-given : (x : Cue) → Timed x → cue_time pts seconds micros x ≡ all_ones → ⊥
  cue-time-given (At p) h e = omega (arith, (cue-time p h).good, ap (λ (t : WireTime). t.micros) e)
  cue-time-given Timeless h e = h
  cue-time-given Silent h e = h
  cue-time-given Bad h e = h

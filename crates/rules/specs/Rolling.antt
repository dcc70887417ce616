-- 02, CR 9: "The card with a rolling counter."
use Rattle.std.specs.Prelude.{Bool, true, false, cond, List, [], ◌∷◌, ℕ, ◌+◌, ◌-◌, ◌%◌, leb, ltb, None, Option, Some}
use Rattle.rules.specs.declared.Refusal.{Refusal}
use Rattle.rules.specs.declared.Refusal.TheVariants.{NoRoom, BadMicros, Counter}
use Rattle.rules.specs.Units.{time_of, bad_micros, from_micros, from_ticks, up_ticks, horizon}
use Rattle.rules.specs.State.{Splicer}
use Rattle.rules.specs.HouseNumbers.{Called, refuse, no_room}
use Rattle.rules.specs.Calls.{ticked, Call, call}
use Rattle.rules.specs.declared.Ninths.{Ninths}

-- "Given a UTC instant and a reading once": none yet, or the last reading that a good call kept
pub data Last : Type 0 where
  none : Last
  at : (reading : ℕ) → Last

-- the card's state: a splicer and, beside it, the counter's
pub record Rolling : Type 0 where
  pub splicer : Splicer
  pub last : Last

-- what a call of this card gives
pub record Rolled : Type 0 where
  pub called : Called
  pub last : Last

-- ## The step

-- "a 32-bit counter"
abbrev pub rollover : ℕ
rollover = 4294967296

-- "the difference, taken through the rollover"
unfoldable pub step_of : (last reading : ℕ) → ℕ
step_of last reading = (reading + (rollover - last)) % rollover

-- 12: "a step over 8,100,000 ticks"
abbrev pub over_step : (last reading : ℕ) → Bool
over_step last reading = ltb 8100000 (step_of last reading)

-- "later readings move the clock on by the difference": by that many ticks, in ninths
abbrev pub moved_on : (clock last reading : ℕ) → ℕ
moved_on clock last reading = clock + (from_ticks (record { 0 = step_of last reading })).0

-- 12: "past the time field's last second"
abbrev pub past_field : (until : ℕ) → Bool
past_field until = leb horizon until

-- ## The two calls in place of tick

-- what such a call comes to: a refusal, or the clock brought to an instant in ninths
pub data Course : Type 0 where
  refuses : Refusal → Course
  brings : (until : ℕ) → Course

-- 12: "a second instant"
abbrev pub is_given : Last → Bool
is_given none = false
is_given (at reading) = true

-- "Refusals, on this card after 2: 8 for the given instant; house number 12 .. for .. a second instant"
unfoldable pub instant_course : (seconds micros room : ℕ) → Last → Course
instant_course seconds micros room last =
    cond (no_room room) (refuses NoRoom)
    (cond (bad_micros micros) (refuses BadMicros)
    (cond (is_given last) (refuses Counter)
    (brings (from_micros (time_of seconds micros)).0)))

-- "house number 12, in place of 3, for a step over 8,100,000 ticks or past the time field's last second, a reading before the instant is
-- given"
unfoldable pub step_course : (clock reading : ℕ) → Last → Course
step_course clock reading none = refuses Counter
step_course clock reading (at last) =
    cond (over_step last reading) (refuses Counter)
    (cond (past_field (moved_on clock last reading)) (refuses Counter)
    (brings (moved_on clock last reading)))

unfoldable pub reading_course : (clock reading room : ℕ) → Last → Course
reading_course clock reading room last = cond (no_room room) (refuses NoRoom) (step_course clock reading last)

-- "Its answers must be those of document 01 with the clock brought to the same instants in ninths"; a refused reading is not kept
unfoldable pub rolls : Course → (reading : ℕ) → Rolling → Rolled
rolls (refuses n) reading r = record { called = refuse n r.splicer; last = r.last }
rolls (brings until) reading r = record { called = ticked until r.splicer; last = at reading }

unfoldable pub instant_call : (seconds micros reading room : ℕ) → Rolling → Rolled
instant_call seconds micros reading room r = rolls (instant_course seconds micros room r.last) reading r

unfoldable pub reading_call : (reading room : ℕ) → Rolling → Rolled
reading_call reading room r = rolls (reading_course r.splicer.clock reading room r.last) reading r

-- ## When a reading would do anything

-- "a step over 8,100,000 ticks" is refused: by then the counter must be read
abbrev pub longest_step : ℕ
longest_step = 8100000

-- from the clock: after n ticks of the counter, if a reading can be so late
abbrev pub within : (clock n : ℕ) → List ℕ
within clock n =
    cond (ltb longest_step n) (0 ∷ longest_step ∷ [])
    (cond (past_field (clock + (from_ticks (record { 0 = n })).0)) (0 ∷ longest_step ∷ []) (1 ∷ n ∷ []))

-- from the last good reading on, in words: 1 and after how many ticks of the counter the first reading does anything; 0 and the longest
-- step, if none that is good does. Before the instant is given every reading is refused
unfoldable pub step_row : Last → (clock : ℕ) → Option Ninths → List ℕ
step_row none clock w = 0 ∷ longest_step ∷ []
step_row (at reading) clock None = 0 ∷ longest_step ∷ []
step_row (at reading) clock (Some t) = within clock (up_ticks (t.0 - clock))

-- ## Sequences of this card's calls

pub data RollingCall : Type 0 where
  known : (k : Call) → RollingCall
  instants : (seconds micros reading room : ℕ) → RollingCall
  readings : (reading room : ℕ) → RollingCall

unfoldable pub roll : RollingCall → Rolling → Rolled
roll (known k) r = record { called = call k r.splicer; last = r.last }
roll (instants seconds micros reading room) r = instant_call seconds micros reading room r
roll (readings reading room) r = reading_call reading room r

-- What the theorems about the card with a rolling counter speak of, beside the definitions of rules/specs/Rolling.
use Rattle.std.specs.Prelude.{◌≡◌, ℕ, ◌+◌, ◌%◌, ◌≤◌, not, List, [], ◌∷◌}
use Rattle.rules.specs.declared.Refusal.{Refusal}
use Rattle.rules.specs.Units.{bad_micros}
use Rattle.rules.specs.HouseNumbers.{refuse, no_room}
use Rattle.rules.specs.Calls.{Call, call}
use Rattle.rules.specs.Follows.Sound.{Wired}
use Rattle.rules.specs.Rolling.{Last, none, at, Rolling, rollover, over_step, moved_on, past_field, is_given, RollingCall, known}
use Rattle.rules.specs.Follows.Sequences.{Timeless}
use Rattle.rules.specs.Rolling.{instants, readings, roll}
use Rattle.rules.specs.Follows.Sequences.{as_calls}
use Rattle.demands.specs.Told.{Check, check, checks}

-- a call of this card amounts to none of document 01's, and is then refused and changes nothing, or to one, and then its answer and the
-- splicer after it are that one's
pub data As (k : RollingCall) (r : Rolling) : Type 0 where
  nothing : (n : Refusal) → as_calls k r ≡ [] → roll k r ≡ record { called = refuse n r.splicer; last = r.last } → As k r
  one : (j : Call) → Wired j → as_calls k r ≡ j ∷ [] → (roll k r).called ≡ call j r.splicer → As k r

-- ## "Refusals, on this card after 2": the orders 2, 8, 12 and 2, 12

abbrev pub last_in : Last → ℕ
last_in none = 0
last_in (at reading) = reading

unfoldable pub roll_checks : RollingCall → Rolling → List Check
roll_checks (known k) r = checks k r.splicer
roll_checks (instants seconds micros reading room) r =
    check 2 (no_room room) ∷ check 8 (bad_micros micros) ∷ check 12 (is_given r.last) ∷ []
roll_checks (readings reading room) r =
    check 2 (no_room room) ∷ check 12 (not (is_given r.last)) ∷ check 12 (over_step (last_in r.last) reading)
    ∷ check 12 (past_field (moved_on r.splicer.clock (last_in r.last) reading)) ∷ []

-- ## True time: a counter that has ticked t times, and what is done from then on

-- a call that needs no clock; or the counter has ticked d times more and is read, with an output buffer of that room
pub data Act : Type 0 where
  asked : (k : Call) → Act
  read : (d room : ℕ) → Act

-- "none more than 8,100,000 after the one before", and a buffer that is long enough
abbrev pub InTime : Act → Type 0
InTime (asked k) = Timeless k
InTime (read d room) = (d ≤ 8100000) × (4096 ≤ room)

-- how often it has ticked in the meantime
abbrev pub ticked : List Act → ℕ
ticked [] = 0
ticked (asked k ∷ acts) = ticked acts
ticked (read d room ∷ acts) = d + ticked acts

-- the card's calls: a 32-bit counter that has ticked t times reads t modulo 2^32
abbrev pub calls_at : (t : ℕ) → List Act → List RollingCall
calls_at t [] = []
calls_at t (asked k ∷ acts) = known k ∷ calls_at t acts
calls_at t (read d room ∷ acts) = readings ((t + d) % rollover) room ∷ calls_at (t + d) acts

-- What the theorems of true time ask can be met, from this card's fresh by calls with concrete words: an instant, an open, and a reading as
-- late as is allowed. Rests on instant-shows, and on computing.
use mathlib.Core.Path.{◌≡◌, refl}
use mathlib.Core.List.{List, [], ◌∷◌, map}
use Prim.Native.Nat.{ℕ, ◌+◌, ◌*◌, ◌<◌}
use native.Mathlib.Omega.{arith}
use lib.ListN.{replicate}
use Rattle.rules.specs.Lists.{All}
use Rattle.rules.specs.Bytes.{padded}
use Rattle.rules.specs.Card.{card_name}
use Rattle.rules.specs.Units.{time_of, from_micros}
use Rattle.rules.specs.Calls.{opens}
use Rattle.rules.specs.Units.{horizon}
use Rattle.rules.specs.Rolling.{none, Rolling}
use Rattle.rules.specs.Follows.Sequences.{rolling_of, rolling_fresh, rolled_after}
use Rattle.rolling.specs.Ruled.{Act, asked, read, InTime, ticked, calls_at}
use Rattle.rolling.proofs.Time.{Shows, instant-shows}
use Rattle.door.specs.Door.{an_open}
use Rattle.door_rolling.specs.RollDoor.{RollInput, a_known, an_instant, a_reading, RollTyped, roll_call_of}

abbrev pub buffer : List ℕ
buffer = replicate 4096 0

-- 1,000 s with the reading 7; and then what is done
abbrev pub first : RollInput
first = an_instant (1000 ∷ 0 ∷ 7 ∷ []) buffer

abbrev pub then : List RollInput
then = a_known (an_open 0) ∷ a_reading 8100007 buffer ∷ []

abbrev pub acts : List Act
acts = asked (opens 0) ∷ read 8100000 4096 ∷ []

abbrev pub begun : Rolling
begun = rolling_of (rolling_fresh (padded card_name))

-- no instant is given yet
pub timeless : begun.last ≡ none
unfolding rolling_fresh
timeless = refl

pub typed : All RollTyped (first ∷ then)
typed = ((refl, (omega arith, (omega arith, (omega arith, tt)))), (((omega arith), tt), (omega arith, tt)))

-- the counter has ticked 7 times, and the clock shows 1,000 s
pub shows : Shows 7 (from_micros (time_of 1000 0)).0 (rolled_after (roll_call_of first ∷ []) begun)
unfolding rolled_after
shows = instant-shows 1000 0 7 4096 begun timeless (omega arith) (omega arith)

pub in-time : All InTime acts
in-time = (tt, ((omega arith, omega arith), tt))

pub early : (from_micros (time_of 1000 0)).0 + 100 * ticked acts < horizon
early = omega arith

pub as_called : map roll_call_of then ≡ calls_at 7 acts
as_called = refl

-- Sequences of calls and of the rolling card's, and what these amount to.
use Rattle.std.specs.Prelude.{List, [], ◌∷◌, ◌++◌, ◌≡◌, ℕ, ◌<◌, length}
use Rattle.rules.specs.Lists.{All}
use Rattle.rules.specs.State.{Splicer}
use Rattle.rules.specs.HouseNumbers.{Answer}
use Rattle.rules.specs.Calls.{fresh, Call, opens, closes, messages, ticks, moves, cues, call}
use Rattle.rules.specs.Rolling.{none, Rolling, Rolled, rollover, Course, refuses, brings, instant_course, reading_course, RollingCall}
use Rattle.rules.specs.Rolling.{known, instants, readings, roll}
use Rattle.rules.specs.Follows.Wires.{Byte}
use Rattle.rules.specs.Follows.Sound.{Wired}

unfoldable pub answers : List Call → Splicer → List Answer
answers [] s = []
answers (k ∷ ks) s = (call k s).answer ∷ answers ks (call k s).splicer

-- the card's state after it
abbrev pub rolling_of : Rolled → Rolling
rolling_of c = record { splicer = c.called.splicer; last = c.last }

-- fresh is document 01's, and no instant was given
unfoldable pub rolling_fresh : List ℕ → Rolled
rolling_fresh name = record { called = fresh name; last = none }

-- document 01's calls but for those that bring the clock to a time
abbrev pub Timeless : Call → Type 0
Timeless (opens c) = Unit {0}
Timeless (closes c room) = Unit {0}
Timeless (messages c l loans) = Unit {0}
Timeless (ticks seconds micros room) = ⊥
Timeless (moves until room) = ⊥
Timeless (cues l pts seconds micros room) = Unit {0}

unfoldable pub rolled_after : List RollingCall → Rolling → Rolling
rolled_after [] r = r
rolled_after (k ∷ ks) r = rolled_after ks (rolling_of (roll k r))

-- a good call is the clock brought to its instant, a refused one is none
abbrev pub as_move : Course → (room : ℕ) → List Call
as_move (refuses n) room = []
as_move (brings until) room = moves until room ∷ []

unfoldable pub as_calls : RollingCall → Rolling → List Call
as_calls (known k) r = k ∷ []
as_calls (instants seconds micros reading room) r = as_move (instant_course seconds micros room r.last) room
as_calls (readings reading room) r = as_move (reading_course r.splicer.clock reading room r.last) room

unfoldable pub as_moves : List RollingCall → Rolling → List Call
as_moves [] r = []
as_moves (k ∷ ks) r = as_calls k r ++ as_moves ks (rolling_of (roll k r))

-- the answers of the calls that amount to one of document 01's
abbrev pub said : List Call → Answer → List Answer
said [] a = []
said (k ∷ ks) a = a ∷ []

unfoldable pub roll_answers : List RollingCall → Rolling → List Answer
roll_answers [] r = []
roll_answers (k ∷ ks) r = said (as_calls k r) (roll k r).called.answer ++ roll_answers ks (rolling_of (roll k r))

-- the known calls without ticks; Seconds and readings are four bytes
abbrev pub RollWired : RollingCall → Type 0
RollWired (known k) = Wired k × Timeless k
RollWired (instants seconds micros reading room) = (seconds < 4294967296) × (reading < rollover)
RollWired (readings reading room) = reading < rollover

pub record RollReached (r : Rolling) : Type 0 where
  pub name : List ℕ
  pub whole : length name ≡ 32
  pub bytes : All Byte name
  pub calls : List RollingCall
  pub wired : All RollWired calls
  pub same : r ≡ rolled_after calls (rolling_of (rolling_fresh name))

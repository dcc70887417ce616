-- Every session that is held, as a row: what the read of the sessions gives, for support's page and the bench's.
use Rattle.std.specs.Prelude.{List, [], ◌∷◌, ◌++◌, ℕ, zero, suc, ◌+◌, ◌-◌, ◌*◌, length, take}
use Rattle.rules.specs.declared.Session.{Session}
use Rattle.rules.specs.State.{Queue}

-- "Held means waiting, on air or covered."
abbrev pub state_on_air : ℕ
state_on_air = 1

abbrev pub state_covered : ℕ
state_covered = 2

abbrev pub state_waiting : ℕ
state_waiting = 3

-- the started stand from the highest AccessType down: "the first is on air, the others are covered"
unfoldable pub started_state : ℕ → ℕ
started_state zero = state_on_air
started_state (suc i) = state_covered

abbrev pub waiting_state : ℕ → ℕ
waiting_state i = state_waiting

-- two numbers of 32 bits in one word, the first in its low half
abbrev pub pair : ℕ → ℕ → ℕ
pair low high = low + 4294967296 * high

-- start, end and time on air, in ninths; connection and SessionID; SpliceEventID and PriorSession, 0xFFFFFFFF for a timed one; AccessType
-- and OverridePlaying; what it asks of the multiplexer, and its state. A started one keeps what was asked
unfoldable pub session_row : (state : ℕ) → Session → List ℕ
session_row state s =
    s.start.0 ∷ s.end.0 ∷ s.played.0 ∷ pair s.conn s.id ∷ pair s.event s.prior ∷ pair s.access s.overrides
    ∷ pair s.mux state ∷ []

abbrev pub row_width : ℕ
row_width = 7

-- one behind the other, the state of the i-th being f i
unfoldable pub session_rows : (ℕ → ℕ) → List Session → List ℕ
session_rows f [] = []
session_rows f (s ∷ l) = session_row (f 0) s ++ session_rows (λ i. f (suc i)) l

-- the first n: the started from the highest AccessType down, then those that wait, in order of start
unfoldable pub held_rows : ℕ → Queue → List ℕ
held_rows n q =
    session_rows started_state (take n q.started) ++ session_rows waiting_state (take (n - length q.started) q.waiting)

-- how many are held
abbrev pub held_number : Queue → ℕ
held_number q = length q.started + length q.waiting

-- Two reads for drivers: who is on air, and when a tick, or a reading of the rolling counter, would next do anything. The words that are
-- read stand in rules/specs: `air_row` (Answers), `due_row` (Calls), `step_row` (Rolling); here is what they mean.
use Rattle.std.specs.Prelude.{◌≡◌, Bool, true, false, cond, not, ◌&&◌, List, [], ℕ, ◌+◌, ◌*◌, ◌≤◌, ◌<◌, eqb, get_or}
use Rattle.rules.specs.Units.{time_of, from_micros}
use Rattle.rules.specs.Lists.{All, count}
use Rattle.rules.specs.Request.{nobody}
use Rattle.rules.specs.Units.{horizon}
use Rattle.rules.specs.Rolling.{Last, none, at, step_of, longest_step}
use Rattle.demands.specs.History.{Event, mux_told, event_told, book}
use Rattle.demands.specs.Airing.{Airing, newest, airings_told, number_told}

-- ## Who is on air

-- Alive's State and SessionID, from the words of `air_row`
abbrev pub state_of : List ℕ → ℕ
state_of r = 1 + get_or r 0 0

abbrev pub id_of : List ℕ → ℕ
id_of r = cond (eqb (get_or r 0 0) 0) nobody (get_or r 2 0)

-- a session of a history is started and unended: its start was written, and no end
abbrev pub lives : Airing → Bool
lives a = a.begun && not a.over

-- of a history: the session that the words name, which is the one that connection c last accepted under the number x
abbrev pub named : List Event → (c x : ℕ) → Airing
named h c x = newest c x (airings_told h)

-- it is on air: its start t, its end e, its time on air so far d
pub record OnAir (h : List Event) (c x t e d : ℕ) : Type 0 where
  -- it has started and not ended
  pub on : lives (named h c x) ≡ true
  pub start : (named h c x).start ≡ t
  pub end : (named h c x).end ≡ e
  pub played : number_told h c x ≡ d
  -- "the highest AccessType of those started and unended", and no second one has it
  pub top : All (λ a. lives a ≡ true → a.access ≤ (named h c x).access) (airings_told h)
  pub only : count (λ a. lives a && eqb (named h c x).access a.access) (airings_told h) ≡ 1

-- and this is what it asked: its SpliceEventID v, its AccessType a, its MuxPriorityValue n
pub record Asked (h : List Event) (c x v a n : ℕ) : Type 0 where
  pub event : event_told c x (book h []) ≡ v
  pub access : (named h c x).access ≡ a
  pub mux : mux_told c x (book h []) ≡ n

-- the words r are what the calls and the answers' bytes tell
pub record AirTold (h : List Event) (r : List ℕ) : Type 0 where
  pub either : get_or r 0 0 ≤ 1
  pub none : get_or r 0 0 ≡ 0 → All (λ a. lives a ≡ false) (airings_told h)
  pub one : get_or r 0 0 ≡ 1 → OnAir h (get_or r 1 0) (get_or r 2 0) (get_or r 3 0) (get_or r 4 0) (get_or r 5 0)
  pub asked : get_or r 0 0 ≡ 1 → Asked h (get_or r 1 0) (get_or r 2 0) (get_or r 6 0) (get_or r 7 0) (get_or r 8 0)

-- ## When a tick would do anything

-- a tick's time in ninths
abbrev pub time_in : (seconds micros : ℕ) → ℕ
time_in seconds micros = (from_micros (time_of seconds micros)).0

-- by the words r of `due_row`, the time until, in ninths, is before what is due next
abbrev pub Before : List ℕ → ℕ → Type 0
Before r until = 0 < get_or r 0 0 → until < get_or r 1 0

-- and this: it is at that or later
abbrev pub NotBefore : List ℕ → ℕ → Type 0
NotBefore r until = (0 < get_or r 0 0) × (get_or r 1 0 ≤ until)

-- the words r name the first of all ticks that is not before what is due
pub record FirstTick (r : List ℕ) : Type 0 where
  pub seconds : get_or r 2 0 < 4294967296
  pub micros : get_or r 3 0 ≤ 999999
  pub reaches : NotBefore r (time_in (get_or r 2 0) (get_or r 3 0))
  pub first : (seconds micros : ℕ) → time_in seconds micros < time_in (get_or r 2 0) (get_or r 3 0) → Before r (time_in seconds micros)

-- from a history: the start of a session that has not started, or the end of one that has
abbrev pub next_of : Airing → ℕ
next_of a = cond a.begun a.end a.start

-- the words r are what the calls and the answers' bytes tell: of the accepted sessions that have had no end, the earliest of these
pub record DueTold (h : List Event) (r : List ℕ) : Type 0 where
  pub none : get_or r 0 0 ≡ 0 → All (λ a. a.over ≡ true) (airings_told h)
  pub least : 0 < get_or r 0 0 → All (λ a. a.over ≡ false → get_or r 1 0 ≤ next_of a) (airings_told h)
  pub one : 0 < get_or r 0 0 → 0 < count (λ a. not a.over && eqb (get_or r 1 0) (next_of a)) (airings_told h)

-- ## When a reading of the rolling counter would do anything

-- how many ticks a reading is after the last; before the instant is given it is refused whatever it is
unfoldable pub step_from : Last → (reading : ℕ) → ℕ
step_from none reading = 0
step_from (at last) reading = step_of last reading

-- of the words r of `step_row`, with a 1: a reading after so many ticks is not refused by 12
pub record FirstStep (clock : ℕ) (r : List ℕ) : Type 0 where
  pub short : get_or r 1 0 ≤ longest_step
  pub field : clock + get_or r 1 0 * 100 < horizon

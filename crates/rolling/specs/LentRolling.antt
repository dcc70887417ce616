-- What the calls of the card with a rolling counter may rely on, and what they promise.
use Rattle.std.specs.Prelude.{◌≡◌, ℕ, Option, Some, None, cond, List, [], ◌∷◌, length, ◌==◌, slice_index}
use Rattle.rules.specs.declared.Ninths.{Ninths}
use Rattle.rules.specs.State.{due}
use Rattle.rules.specs.Rolling.{Last, none, at, Rolling, Rolled, Course, refuses, brings, step_row}
use Rattle.rules.specs.Follows.Sequences.{RollReached}
use Rattle.memory.specs.Memory.{see, Whole, shown}
use Rattle.engine.specs.Lent.{Answer, Answers}

-- the counter's two words: whether the instant was given, and the last reading, 0 before
unfoldable pub counter_of : Last → List ℕ
counter_of none = 0 ∷ 0 ∷ []
counter_of (at reading) = 1 ∷ reading ∷ []

-- what they show
unfoldable pub last_of : List ℕ → Last
last_of k = cond (slice_index k 0 == 0) none (at (slice_index k 1))

-- the rolling splicer that the memory m and b and the counter's words k show
abbrev pub rolling : (m b k : List ℕ) → Rolling
rolling m b k = record { splicer = shown m b; last = last_of k }

-- "A splicer is what fresh and the calls since have given; a call may rely on that and on nothing else.": of this card's fresh and calls
pub record LentRolling (m b k : List ℕ) : Type 0 where
  pub whole : Whole m b
  pub counter : k ≡ counter_of (last_of k)
  pub reached : RollReached (rolling m b k)

-- what a call promises: what the engine's do (`Answers`), and the counter's words k after it
pub record Rolls (c : Rolled) (ring : ℕ) (e : List ℕ) (r : Answer) (m b k o : List ℕ) : Type 0 where
  pub lent : LentRolling m b k
  pub answers : Answers c.called ring e r m b o
  pub counter : k ≡ counter_of c.last

-- the same of a call of the rolling splicer that the memory m and b and the words k showed, lent the buffer e
abbrev pub Turns : (ℕ → Rolling → Rolled) → (m b k e : List ℕ) → Answer → (n c j o : List ℕ) → Type 0
Turns f m b k e r n c j o = Rolls (f (length e) (rolling m b k)) (see m).ring_end e r n c j o

-- the instant that a course brings the clock to
unfoldable pub when_of : Course → Option Ninths
when_of (refuses n) = None
when_of (brings until) = Some (record { 0 = until })

-- after how many ticks of the counter a reading would do anything, as it is read of the memory m and b and the words k in two words r
abbrev pub ReadsStep : (m b k r : List ℕ) → Type 0
ReadsStep m b k r = r ≡ step_row (last_of k) (shown m b).clock (due (shown m b).queue)

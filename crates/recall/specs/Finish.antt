-- What stands before the four calls, and behind a message's: 13 or a place, and GetConfig's record.
use Rattle.std.specs.Prelude.{Result, Ok, Err, ◌≡◌, true, false, List, ℕ}
use Rattle.rules.specs.Card.{card_name}
use Rattle.recall_rules.specs.Calls.{Pass, Answered}
use Rattle.recall_ends.specs.Does.{Tells}
use Rattle.recall_answers.specs.declared.Carried.{Carried}
use Rattle.recall_answers.specs.Replies.{hardwares, spoken, Left}
use Rattle.recall_log.specs.declared.Refused.{Refused}
use Rattle.recall_log.specs.declared.Refused.TheVariants.{Full}
use Rattle.recall_log.specs.Log.{full}
use Rattle.recall_log.specs.Kept.{Behind}
use Rattle.recall_pass.specs.declared.Heard.{Heard}
use Rattle.recall_pass.specs.Passes.{Passed}

-- of a log l that is full 13; of any other the place for the next record
abbrev pub FindsPlace : (l : List ℕ) → Result ℕ Refused → Type 0
FindsPlace l (Err n) = (full l ≡ true) × (n ≡ Full)
FindsPlace l (Ok at) = (full l ≡ false) × Behind l at

-- of a log l that is full 13; of any other the place for the next record, and what is carried behind its calls, with the words m
abbrev pub Begins : (l : List ℕ) → Result (ℕ × Carried) Refused → (m : List ℕ) → Type 0
Begins l (Err n) m = (full l ≡ true) × (n ≡ Full)
Begins l (Ok p) m = (full l ≡ false) × Behind l p.0 × Passed l p.1 m

-- of any answer a that was heard, but for that record, in a pass s over the log l, with the data d and a buffer that held e: all of its
-- records stand in the buffer o now, which held i
abbrev pub Finishes : (l : List ℕ) → Carried → (c : ℕ) (section : List ℕ) → Heard → (i : List ℕ) (len : ℕ) (o : List ℕ) → Type 0
Finishes l h c section g i len o =
    (d : List ℕ) (a : Answered) (s : Pass) (e : List ℕ) → s.name ≡ card_name → s.hardware ≡ hardwares l h
    → Left g.effect c d section s a.written → Tells e 0 (spoken g.effect a.written) g.len i → Tells e 0 a.written len o

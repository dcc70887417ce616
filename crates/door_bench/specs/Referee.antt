-- The referee of recordings in the words that C sees: its stage, a verdict, and where what is due stands.
use Rattle.std.specs.Prelude.{◌≡◌, List, [], ◌∷◌, ℕ, ◌-◌, get_or}
use Rattle.rules.specs.Calls.{fresh}
use Rattle.engine.specs.Lent.{Answer, reply_of, Answers}
use Rattle.follow.specs.declared.Stage.{Stage}
use Rattle.follow.specs.declared.Verdict.{Verdict}
use Rattle.follow.specs.Following.{first, Feeds, told_by}

-- the stage that the words w are, whatever they are
unfoldable pub stage_in : List ℕ → Stage
stage_in w =
    record {
      told = get_or w 0 0;
      number = get_or w 1 0;
      mark = get_or w 2 0;
      at = get_or w 3 0;
      from = get_or w 4 0;
      end = get_or w 5 0;
      have = get_or w 6 0;
    }

unfoldable pub stage_words : Stage → List ℕ
stage_words s = s.told ∷ s.number ∷ s.mark ∷ s.at ∷ s.from ∷ s.end ∷ s.have ∷ []

-- kind, number, place and good
unfoldable pub verdict_words : Verdict → List ℕ
verdict_words v = v.kind ∷ v.number ∷ v.place ∷ v.good ∷ []

-- where in the buffer what is still due stands, and how long it is
unfoldable pub part_of : Stage → List ℕ
part_of s = s.from ∷ (s.end - s.from) ∷ []

-- a fresh referee of this name: the reply r is that of a fresh splicer, and the words w of the stage are those before any byte
pub record TellsBegun (name m b w r : List ℕ) : Type 0 where
  pub answer : Answer
  pub answers : Answers (fresh name) 0 [] answer m b []
  pub reply : r ≡ reply_of answer
  pub stage : w ≡ stage_words first

-- the piece p: the words w of the stage before it, the memory and the buffers; after it the words x, and the verdict so far in r
pub record TellsFed (p w m b o k x n c q j r : List ℕ) : Type 0 where
  pub feeds : Feeds (stage_in w) p m b o k (stage_in x) n c q j
  pub reply : r ≡ verdict_words (told_by (stage_in x))

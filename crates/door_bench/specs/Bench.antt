-- 02, CR 14 and CR 12: a finding, and a reply of the second engine, in the words that C sees.
use Rattle.std.specs.Prelude.{◌≡◌, List, [], ◌∷◌, ℕ, Option, Some, None, Ok, Err}
use Rattle.recording.specs.declared.Finding.{Finding}
use Rattle.recording.specs.declared.Finding.TheVariants.{Longer, Unknown, Differs}
use Rattle.recording.specs.Recording.{house_number}
use Rattle.rules.specs.Calls.{Call}
use Rattle.recall_log.specs.declared.Refused.TheVariants.{Full, Rule}
use Rattle.recall_log.specs.Kept.{Reply, number_of}
use Rattle.recall.specs.Recall.{Remembers, Forgets}

-- ## 02, CR 14

-- the house number or 0, 1 if a call differs, and the call, or the place for 14
unfoldable pub words_of : Option Finding → List ℕ
words_of (Some Longer) = house_number (Some Longer) ∷ 0 ∷ 0 ∷ []
words_of (Some (Unknown i)) = house_number (Some (Unknown i)) ∷ 0 ∷ i ∷ []
words_of (Some (Differs n)) = house_number (Some (Differs n)) ∷ 1 ∷ n ∷ []
words_of None = house_number None ∷ 0 ∷ 0 ∷ []

-- ## 02, CR 12: the engine that only remembers

-- a reply: "house number 13" or the rules' number and zeros, or 0, the bytes consumed and written, and the places that an acceptance
-- shifted
unfoldable pub reply_words : Reply → List ℕ
reply_words (Err Full) = number_of (Err Full) ∷ 0 ∷ 0 ∷ 0 ∷ []
reply_words (Err (Rule n)) = number_of (Err (Rule n)) ∷ 0 ∷ 0 ∷ 0 ∷ []
reply_words (Ok did) = number_of (Ok did) ∷ did.consumed ∷ did.written ∷ did.moved ∷ []

-- a call: the reply's words w; e, o: the buffer before and after it, l, n: the log
pub record Tells (k : Call) (l e w n o : List ℕ) : Type 0 where
  pub reply : Reply
  pub remembers : Remembers k l e reply n o
  pub words : w ≡ reply_words reply

pub record TellsFresh (l w n : List ℕ) : Type 0 where
  pub reply : Reply
  pub forgets : Forgets l reply n
  pub words : w ≡ reply_words reply

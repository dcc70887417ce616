-- What an answer to a message gives.
use Rattle.std.specs.Prelude.{◌≡◌, Bool, not, ◌&&◌, ◌||◌, List, [], ◌∷◌, ℕ, eqb}
use Rattle.rules.specs.declared.Link.{Link}
use Rattle.rules.specs.Reading.{init_request}
use Rattle.rules.specs.State.{is_initialised}
use Rattle.rules.specs.Records.{Record}
use Rattle.rules.specs.Answers.{Answered}
use Rattle.memory.specs.Memory.{see, shifted, Whole, shown}
use Rattle.ends.specs.Does.{Tells}
use Rattle.reply.specs.declared.Did.{Did}
pub use Rattle.reply.specs.Unmoved.{unmoved}

-- one record stands at the start of the buffer that held e
abbrev pub Says : Record → (e : List ℕ) → ℕ → (o : List ℕ) → Type 0
Says x e len o = Tells e 0 (x ∷ []) len o

-- the memory shows the splicer after the answer, and the records stand at the start of the buffer that held e; the ring, which ended at the
-- place `at`, has moved on with an acceptance alone, and as many places as the answer says were shifted
pub record Gives (a : Answered) (at : ℕ) (e : List ℕ) (r : Did) (m b o : List ℕ) : Type 0 where
  pub whole : Whole m b
  pub splicer : shown m b ≡ a.splicer
  pub ring : (see m).ring_end ≡ shifted a.accepted at
  pub consumed : r.consumed ≡ 0
  pub tells : Tells e 0 a.written r.written o
  pub moved : r.moved ≡ a.moved

-- "2. Not initialised and not Init_Request", of an ID that has an answer at all (1)
abbrev pub barred : Link → ℕ → Bool
barred l id = not (is_initialised l) && (not (eqb id 0x0000) && not (eqb id init_request))

-- "1. ID 0x0000: no answer." "3. ID 0x000D: no answer."
abbrev pub mute : ℕ → Bool
mute id = eqb id 0x0000 || eqb id 0x000D

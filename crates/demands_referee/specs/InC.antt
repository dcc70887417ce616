-- The same of the words that C sees: what is lent to fresh, and then to feed for each piece.
use Rattle.std.specs.Prelude.{List, [], ◌∷◌, ℕ, length, ◌≡◌}
use Rattle.door_bench.specs.Referee.{TellsBegun, TellsFed}

-- the bytes of the longest entry
abbrev pub kept_bytes : ℕ
kept_bytes = 4098

-- the lent arrays: of the stage, of the splicer, what is due and what is kept
pub record Lent : Type 0 where
  pub stage : List ℕ
  pub words : List ℕ
  pub bytes : List ℕ
  pub due : List ℕ
  pub kept : List ℕ

-- behind fresh of this name, with its reply r
pub record BegunInC (name r : List ℕ) (s : Lent) : Type 0 where
  pub tells : TellsBegun name s.words s.bytes s.stage r
  pub fits : length s.kept ≡ kept_bytes

-- behind the pieces, one by one; the reply of each
pub data FedInC : Lent → List (List ℕ) → List (List ℕ) → Lent → Type 0 where
  over : {s : Lent} → FedInC s [] [] s
  piece : {s t u : Lent} {p r : List ℕ} {ps rs : List (List ℕ)}
      → TellsFed p s.stage s.words s.bytes s.due s.kept t.stage t.words t.bytes t.due t.kept r
      → FedInC t ps rs u → FedInC s (p ∷ ps) (r ∷ rs) u

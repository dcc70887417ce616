-- A referee that pieces are handed to one by one, as the promise of `feed` allows it.
use Rattle.std.specs.Prelude.{List, [], ◌∷◌, ℕ}
use Rattle.follow.specs.declared.Stage.{Stage}
use Rattle.follow.specs.Refereed.{Found}
use Rattle.follow.specs.Following.{Holds, found, Begins, Feeds}

-- its stage and all that is lent
pub record Referee : Type 0 where
  pub stage : Stage
  pub words : List ℕ
  pub bytes : List ℕ
  pub due : List ℕ
  pub kept : List ℕ

abbrev pub Fresh : List ℕ → Referee → Type 0
Fresh name s = Begins name s.stage s.words s.bytes s.due s.kept

-- what is found with `more` behind all that was handed in
abbrev pub finally : Referee → List ℕ → Found
finally s more = found s.stage s.words s.bytes s.due s.kept more

abbrev pub Held : Referee → Type 0
Held s = Holds s.stage s.words s.bytes s.due s.kept

abbrev pub Takes : Referee → List ℕ → Referee → Type 0
Takes s p t = Feeds s.stage p s.words s.bytes s.due s.kept t.stage t.words t.bytes t.due t.kept

-- the pieces are handed in one by one
pub data Fed : Referee → List (List ℕ) → Referee → Type 0 where
  over : {s : Referee} → Fed s [] s
  piece : {s t u : Referee} {p : List ℕ} {ps : List (List ℕ)} → Takes s p t → Fed t ps u → Fed s (p ∷ ps) u

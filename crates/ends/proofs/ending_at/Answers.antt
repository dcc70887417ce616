-- The first of the started is on air; any other is covered (`ending-covered`).
-- Rests on the test alone.
use mathlib.Core.Path.{refl}
use Rattle.ends.proofs.Laws.{ending-covered}
use Rattle.ends.proofs.ending_at.Goals as goal

pub returns-then-at-eq0 : goal.returns-then-at-eq0
returns-then-at-eq0 c = rw c.if-at-eq0.true refl

pub returns : goal.returns
returns c = let a = c.args in ending-covered a.at a.res c.if-at-eq0.false

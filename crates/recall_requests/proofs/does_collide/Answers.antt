-- The scan's test is the definition's: not below the rank is not outranked (`collides-is`).
use mathlib.Core.Path.{◌∙◌}
use Rattle.recall_requests.proofs.Checks.{collides-is}
use Rattle.recall_requests.proofs.does_collide.Goals as goal

pub returns : goal.returns
returns c = c.is_some.ensures ∙ collides-is c.args.new c.args.m.now c.find.ensures.first

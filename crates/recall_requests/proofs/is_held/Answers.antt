-- Held is who a scan finds (`found-is`).
use mathlib.Core.Path.{◌∙◌}
use Rattle.rules.specs.State.{is}
use Rattle.recall_rules.specs.Verdicts.{is_held}
use Rattle.recall_requests.proofs.Checks.{found-is}
use Rattle.recall_requests.proofs.is_held.Goals as goal

pub returns : goal.returns
returns c = c.is_some.ensures ∙ found-is is_held (is c.args.conn c.args.id) c.args.m.now c.find.ensures.first

-- The end of the one found; behind the last row stands the empty session, whose end is 0 (`end_none`).
use Rattle.rules.specs.State.{is}
use Rattle.recall_rules.specs.Verdicts.{is_held}
use Rattle.recall_requests.proofs.Checks.{end_none}
use Rattle.recall_requests.proofs.end_of.Goals as goal

pub returns-in-None : goal.returns-in-None
returns-in-None c = end_none is_held (is c.args.conn c.args.id) c.args.m.now c.find.ensures.first c.in-None.is

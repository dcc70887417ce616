-- The first of the started that none is higher than, if any (`top-found`, `top-none`). Rests on what recall_rows promises.
use Rattle.recall_ends.proofs.Stages.{top-found, top-none}
use Rattle.recall_ends.proofs.top_access.Goals as goal

pub returns-in-Some : goal.returns-in-Some
returns-in-Some c = top-found c.args.m.now c.first_of.ensures.first c.in-Some.is c.load.ensures

pub returns-in-None : goal.returns-in-None
returns-in-None c = top-none c.args.m.now c.first_of.ensures.first c.in-None.is

-- One link: the first that follows ends, and the walk goes on from its number; those that wait get fewer.
-- Rests on what `end_one` and recall_rows promise, and on its own promise for fewer that wait.
use Rattle.recall_rules.proofs.Links.{waiting_in}
use Rattle.recall_ends.specs.Does.{all}
use Rattle.recall_ends.proofs.+dismiss.Given as goal

abbrev pub decreases-dismiss : goal.decreases-dismiss
decreases-dismiss l = waiting_in (all l.m.now)

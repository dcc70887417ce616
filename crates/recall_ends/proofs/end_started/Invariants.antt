-- What is done so far and what is left (`Loop`): each turn the next one ends, and fewer have started. Rests on what `end_one`, `as_was`,
-- `top_access` and recall_rows promise.
use Rattle.recall_rules.specs.Verdicts.{has_started}
use Rattle.recall_rows.specs.Scans.{session_test}
use Rattle.recall_rules.specs.Work.{higher}
use Rattle.recall_ends.specs.Does.{all, by_access}
use Rattle.recall_ends.proofs.Stages.{many, started-shut}
use Rattle.recall_ends.proofs.Loops.{Loop}
use Rattle.recall_ends.proofs.end_started.Given as goal

abbrev pub invariant-loop-i : goal.invariant-loop-i
invariant-loop-i l =
    Loop has_started started-shut higher (session_test l.test) (by_access l.top l.air l.cover) l.initial.m l.initial.out l.len
    l.m l.out l.to

abbrev pub decreases-loop-i : goal.decreases-loop-i
decreases-loop-i l = many has_started started-shut (all l.m)

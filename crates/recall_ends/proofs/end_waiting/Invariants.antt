-- What is done so far and what is left (`Loop`): each turn the next one ends, and fewer wait. Rests on what `end_one` and recall_rows
-- promise.
use Rattle.recall_rules.specs.Verdicts.{is_waiting}
use Rattle.recall_rows.specs.Scans.{session_test}
use Rattle.recall_rules.specs.Work.{earlier}
use Rattle.recall_ends.specs.Does.{all}
use Rattle.recall_ends.proofs.Stages.{many, waiting-shut}
use Rattle.recall_ends.proofs.Loops.{Loop}
use Rattle.recall_ends.proofs.end_waiting.Given as goal

abbrev pub invariant-loop-i : goal.invariant-loop-i
invariant-loop-i l = Loop is_waiting waiting-shut earlier (session_test l.test) (λ s. l.how) l.initial.m l.initial.out l.len l.m l.out l.to

abbrev pub decreases-loop-i : goal.decreases-loop-i
decreases-loop-i l = many is_waiting waiting-shut (all l.m)

-- None before i is that end, and the rest decides (`Sought`). Rests on what `load` and `is_end` promise.
use Rattle.recall_rules.specs.Verdicts.{ended_as}
use Rattle.recall_rows.specs.Rows.{all}
use Rattle.recall_rows.proofs.Scans.{Sought}
use Rattle.recall_answers.proofs.find_end.Given as goal

abbrev pub invariant-loop-i : goal.invariant-loop-i
invariant-loop-i l = Sought (ended_as l.number) (all l.m) l.i

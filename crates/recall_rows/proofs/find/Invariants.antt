-- None before i is one, and the rest decides (`Sought`). Rests on what `is_one` promises.
use Rattle.recall_rules.specs.Verdicts.{stands}
use Rattle.recall_rows.specs.Rows.{all}
use Rattle.recall_rows.specs.Scans.{stand_test, session_test}
use Rattle.recall_rows.proofs.Scans.{Sought}
use Rattle.recall_rows.proofs.find.Given as goal

abbrev pub invariant-loop-i : goal.invariant-loop-i
invariant-loop-i l = Sought (stands (stand_test l.stand) (session_test l.test)) (all l.m) l.i

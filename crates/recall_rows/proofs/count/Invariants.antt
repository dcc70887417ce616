-- How many of the first i are such (`Counted`). Rests on what `is_one` promises.
use Rattle.recall_rows.specs.Rows.{all}
use Rattle.recall_rows.specs.Scans.{stand_test, session_test}
use Rattle.recall_rows.proofs.Scans.{Counted}
use Rattle.recall_rows.proofs.count.Given as goal

abbrev pub invariant-loop-i : goal.invariant-loop-i
invariant-loop-i l = Counted (stand_test l.stand) (session_test l.test) (all l.m) l.i l.found

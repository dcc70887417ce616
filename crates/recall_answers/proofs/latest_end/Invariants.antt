-- Those that are left decide (`Seeking`): number of them, and as many as are left of sixteen.
-- Rests on what `count`, `nth_end` and `is_past` promise.
use Prim.Native.Nat.{◌+◌, ◌-◌}
use Rattle.recall_rows.specs.Rows.{all}
use Rattle.recall_answers.proofs.Extended.{Seeking}
use Rattle.recall_answers.proofs.latest_end.Given as goal

abbrev pub invariant-loop-number : goal.invariant-loop-number
invariant-loop-number l = Seeking l.conn l.id (all l.m) l.number (l.number + 16 - l.ended)

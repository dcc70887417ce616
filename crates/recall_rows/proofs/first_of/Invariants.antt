-- `best` is the first of the first i that none of them comes before (`Leading`). Rests on what `is_better` promises.
use Prim.Native.Nat.{◌<◌}
use lib.ListN.{length}
use Rattle.std.specs.Option.{IfSome}
use Rattle.recall_rows.specs.Rows.{all}
use Rattle.recall_rows.specs.Scans.{session_test, order_stand, order_test, or_length}
use Rattle.recall_rows.proofs.Best.{strict, Leading}
use Rattle.recall_rows.proofs.first_of.Given as goal

abbrev pub invariant-loop-i : goal.invariant-loop-i
invariant-loop-i l = IfSome l.best (λ b. b < length (all l.m)) × Leading (order_stand l.order) (order_test l.order) (strict l.order)
    (session_test l.test) (all l.m) l.i (or_length (all l.m) l.best)

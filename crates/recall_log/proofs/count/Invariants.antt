-- The invariant: the calls before the place are counted.
-- Rests on proofs/Reading: one record more.
use Prim.Native.Nat.{◌-◌}
use lib.ListN.{length}
use Rattle.recall_log.proofs.Reading.{Counting}
use Rattle.recall_log.proofs.count.Given as goal

abbrev pub invariant-loop-r : goal.invariant-loop-r
invariant-loop-r l = Counting l.l l.at l.n

abbrev pub decreases-loop-r : goal.decreases-loop-r
decreases-loop-r l = length l.l - l.at

-- One turn of `Leaving`: the session at the place i goes with its end written, or stays and is passed; those not passed get fewer.
-- Rests on what `end_one_started` and memory promise.
use Prim.Native.Nat.{◌-◌}
use lib.ListN.{length}
use Rattle.rules.specs.declared.Ending.TheVariants.{Complete}
use Rattle.rules.specs.State.{ends_at}
use Rattle.memory.specs.Memory.{see}
use Rattle.ends.proofs.Closing.{Leaving}
use Rattle.ends.proofs.end_due.Given as goal

abbrev pub invariant-loop-i : goal.invariant-loop-i
invariant-loop-i l = Leaving (ends_at l.t.0) (Complete 100) (Complete 125) (see l.initial.m) l.initial.out l.len l.m l.i l.how l.to l.out

abbrev pub decreases-loop-i : goal.decreases-loop-i
decreases-loop-i l = length (see l.m).queue.started - l.i

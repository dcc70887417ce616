-- Before the loop it is `Running` (`first-turn`); the loop's invariant is `Onward`: the next instant has come.
-- What is still to come falls at each instant (`arrived-less`).
use Rattle.rules.specs.State.{to_come}
use Rattle.memory.specs.Memory.{see}
use Rattle.instants.proofs.Running.{Onward}
use Rattle.instants.proofs.run.Given as goal

abbrev pub invariant-loop-next : goal.invariant-loop-next
invariant-loop-next l = Onward l.until.0 l.initial.m l.initial.t l.initial.out l.m l.len l.t l.out

abbrev pub decreases-loop-next : goal.decreases-loop-next
decreases-loop-next l = to_come (see l.m).queue

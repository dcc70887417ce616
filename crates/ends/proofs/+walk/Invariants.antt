-- Those still to visit get fewer.
use Rattle.std.proofs.Common.{length, ◌-◌}
use Rattle.memory.specs.Memory.{see}
use Rattle.ends.proofs.+walk.Given as goal

abbrev pub decreases-walk : goal.decreases-walk
decreases-walk l = length (see l.m.now).queue.waiting - l.i

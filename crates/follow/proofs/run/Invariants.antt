-- The invariant: the entries passed were gone through, and nothing was told.
-- Rests on proofs/Steps: one entry more.
use Rattle.std.proofs.Common.{◌-◌, ◌^◌, ◌<◌, length}
use Rattle.follow.proofs.Steps.{Gone}
use Rattle.follow.proofs.run.Given as goal

abbrev pub invariant-loop-t : goal.invariant-loop-t
invariant-loop-t l = Gone l.initial.t l.l l.initial.m l.initial.b l.initial.due l.at l.t l.m l.b l.due × (length l.l < 2 ^ 64)

abbrev pub decreases-loop-t : goal.decreases-loop-t
decreases-loop-t l = length l.l - l.at

-- The invariant: the judgement of the bytes that are left, with what is still due, is that of all.
-- Rests on proofs/Loops: one more entry.
use Prim.Native.Nat.{◌-◌, ◌^◌, ◌<◌}
use lib.ListN.{length}
use Rattle.judge.proofs.Loops.{Running}
use Rattle.judge.proofs.turns.run.Given as goal

abbrev pub invariant-loop-n : goal.invariant-loop-n
invariant-loop-n l = Running l.l l.initial.m l.initial.b l.m l.b l.due l.at l.g × (length l.l < 2 ^ 64)

abbrev pub decreases-loop-n : goal.decreases-loop-n
decreases-loop-n l = length l.l - l.at

-- From call to call (`Walking`): the measure is what is left of the log. Rests on what `play` promises and on recall_log's laws of a walk.
use mathlib.Core.Path.{◌≡◌}
use lib.ListN.{length}
use Rattle.recall_pass.proofs.Walks.{Walking}
use Prim.Native.Nat.{◌-◌}
use Rattle.recall_pass.proofs.pass.Given as goal

abbrev pub invariant-loop-record : goal.invariant-loop-record
invariant-loop-record l = Walking l.log l.h l.m l.at × (length l.m ≡ length l.initial.m) × (length l.scratch ≡ 4096)

abbrev pub decreases-loop-record : goal.decreases-loop-record
decreases-loop-record l = length l.log - l.at

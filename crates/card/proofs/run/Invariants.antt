-- What was written is what document 01 writes for the records played, whatever input follows.
-- Rests on runs-more of proofs/Runs, one more record.
use Rattle.std.proofs.Common.{◌≡◌, true, ◌-◌, ◌^◌, ◌<◌, length}
use Rattle.memory.specs.Memory.{shown}
use Rattle.card.specs.Ran.{Runs}
use Rattle.card.proofs.run.Given as goal

abbrev pub invariant-loop-out : goal.invariant-loop-out
invariant-loop-out l =
    Runs (shown l.initial.m l.initial.b) l.l (record { used = l.used; len = l.len; more = true }) l.m l.b l.out
    × (length l.out ≡ length l.initial.out)
    × (length l.l < 2 ^ 64)
    × (length l.initial.out < 2 ^ 64)
    × (l.used ≡ 0 → l.len ≡ 0)

abbrev pub decreases-loop-out : goal.decreases-loop-out
decreases-loop-out l = length l.l - l.used

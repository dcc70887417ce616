-- The invariant: the first unknown mark of the bytes that are left is that of all.
-- Rests on `says` of proofs/Loops: what the entry at a place says of it.
use mathlib.Core.Path.{◌≡◌}
use Prim.Native.Nat.{◌-◌, ◌≤◌}
use lib.ListN.{length}
use Rattle.recording.specs.Recording.{first_unknown}
use Rattle.recording.proofs.Refusing.{from}
use Rattle.judge.proofs.first_unknown.Given as goal

abbrev pub invariant-loop-n : goal.invariant-loop-n
invariant-loop-n l = (l.at ≤ length l.l) × (first_unknown l.l ≡ from l.l l.at)

abbrev pub decreases-loop-n : goal.decreases-loop-n
decreases-loop-n l = length l.l - l.at

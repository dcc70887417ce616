-- The invariant: the walk from the place reached gives what the whole walk gives. A step is `end_step`.
use mathlib.Core.Path.{◌≡◌}
use Prim.Native.Nat.{◌-◌, ◌≤◌}
use lib.ListN.{length}
use Rattle.reading.specs.Structures.{end_from}
use Rattle.reading.proofs.structures.end_from.Given as goal

abbrev pub invariant-loop : goal.invariant-loop
invariant-loop l = (l.at ≤ length l.p) × (end_from l.n 6 l.p ≡ end_from (l.n - l.counter) l.at l.p)

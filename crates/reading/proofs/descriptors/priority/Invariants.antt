-- The invariant: the descriptors ask what the rest asks, if it is `value` before that. What a step says of the rest is `step-says`.
use mathlib.Core.Path.{◌≡◌}
use Prim.Native.Nat.{◌-◌, ◌≤◌}
use lib.ListN.{length, drop}
use Rattle.rules.specs.Descriptors.{mux_of}
use Rattle.rules.proofs.Descriptors.{mux_rest}
use Rattle.reading.proofs.descriptors.priority.Given as goal

abbrev pub invariant-loop-found : goal.invariant-loop-found
invariant-loop-found l = (l.at ≤ length l.l) × (mux_of l.l ≡ mux_rest l.value (drop l.at l.l))

abbrev pub decreases-loop-found : goal.decreases-loop-found
decreases-loop-found l = length l.l - l.at

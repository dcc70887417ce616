-- The bytes passed are not zero, so what is sought stands in the rest.
use mathlib.Core.Path.{◌≡◌}
use lib.ListN.{drop}
use Rattle.rules.specs.Bytes.{has_zero}
use Rattle.reading.proofs.names.has_zero.Given as goal

abbrev pub invariant-loop-x : goal.invariant-loop-x
invariant-loop-x l = has_zero l.l ≡ has_zero (drop l.x-index l.l)

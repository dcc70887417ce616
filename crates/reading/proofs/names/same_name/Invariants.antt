-- The invariant: the names are the same exactly if they go on the same.
use mathlib.Core.Path.{◌≡◌}
use lib.ListN.{drop}
use Rattle.rules.specs.Bytes.{same_name}
use Rattle.reading.proofs.names.same_name.Given as goal

abbrev pub invariant-loop-i : goal.invariant-loop-i
invariant-loop-i l = same_name l.a l.b ≡ same_name (drop l.i l.a) (drop l.i l.b)

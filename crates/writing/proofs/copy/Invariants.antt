-- `copy` meets its contract. The invariant: the first i bytes of the name are written, and nothing else is changed.
use mathlib.Core.Path.{◌≡◌}
use lib.ListN.{length, take}
use Rattle.rules.specs.Bytes.{written}
use Rattle.writing.proofs.copy.Given as goal

abbrev pub invariant-loop-i : goal.invariant-loop-i
invariant-loop-i l = (length l.out ≡ length l.fn.out) × (l.out ≡ written l.fn.out 0 (take l.i l.name))

-- The invariant: the rows passed stand in the output as structures (`Putting`).
use mathlib.Core.Path.{◌≡◌}
use lib.ListN.{length}
use Rattle.streams.proofs.Laws.{Putting}
use Rattle.streams.proofs.put_rows.Given as goal

abbrev pub invariant-loop-i : goal.invariant-loop-i
invariant-loop-i l = (length l.out ≡ length l.initial.out) × Putting l.n l.i l.at l.to l.words l.kept l.initial.out l.out

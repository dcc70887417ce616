-- The invariant: the structures passed stand in rows and kept bytes (`Filling`).
use mathlib.Core.Path.{◌≡◌}
use lib.ListN.{length}
use Rattle.streams.proofs.Laws.{Filling}
use Rattle.streams.proofs.fill.Given as goal

abbrev pub invariant-loop-i : goal.invariant-loop-i
invariant-loop-i l = (length l.words ≡ length l.initial.words) × (length l.kept ≡ length l.initial.kept) × Filling
    l.n l.i l.at l.to l.p l.initial.words l.initial.kept l.words l.kept

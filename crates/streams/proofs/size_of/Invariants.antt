-- The invariant: the rows passed are good and take the bytes counted (`Sizing`).
use Rattle.streams.proofs.Laws.{Sizing}
use Rattle.streams.proofs.size_of.Given as goal

abbrev pub invariant-loop-i : goal.invariant-loop-i
invariant-loop-i l = Sizing l.n l.i l.size l.words

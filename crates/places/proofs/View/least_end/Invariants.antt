-- `best` ends first of the first i (`Leading`): each turn it is the session i, or stays.
use Rattle.places.specs.Places.{lot, used}
use Rattle.places.proofs.Laws.{Leading}
use Rattle.places.proofs.View.least_end.Given as goal

abbrev pub invariant-loop-i : goal.invariant-loop-i
invariant-loop-i l = Leading (used (lot l.self.q.now l.self.ring_end l.self.n)) l.i l.best

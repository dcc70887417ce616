-- The place lies between `low` and `high` (`Halved`), and the middle one decides which half is next.
use Prim.Native.Nat.{◌-◌}
use Rattle.places.specs.Places.{lot}
use Rattle.places.proofs.Laws.{Halved}
use Rattle.places.proofs.View.find_from.Given as goal

abbrev pub invariant-loop-low : goal.invariant-loop-low
invariant-loop-low l = Halved l.t.0 (lot l.self.q.now l.self.ring_end l.self.n) l.low l.high

abbrev pub decreases-loop-low : goal.decreases-loop-low
decreases-loop-low l = l.high - l.low

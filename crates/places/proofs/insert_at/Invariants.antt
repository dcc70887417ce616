-- In the ring turned by one the hole is the last place (`turned_taken`). Each turn it moves one down (`shifts`), and without it the
-- list stays; then x fills it.
use mathlib.Core.Path.{◌≡◌}
use Prim.Native.Nat.{◌+◌, ◌-◌, ◌*◌, ◌%◌}
use lib.ListN.{length}
use Rattle.rules.specs.Lists.{remove_at}
use Rattle.places.specs.Places.{width, places, spare, round, turned, next}
use Rattle.places.proofs.insert_at.Given as goal

abbrev pub invariant-loop-later : goal.invariant-loop-later
invariant-loop-later l = (l.moves + l.at ≡ l._later) × (l.hole ≡ (next l.ring_end + (round - 1 - l.moves)) % round * width) ×
    (length l.q ≡ length l.initial.q) × (remove_at (round - 1 - l.moves) (turned (next l.ring_end) (places l.q))
    ≡ remove_at (round - 1) (turned (next l.ring_end) (places l.initial.q))) × (spare l.q ≡ spare l.initial.q)

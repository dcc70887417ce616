-- Each turn the hole, that was the session `at`, moves one down (`shifts`), and without it the list is that of the beginning without
-- that session; then `empty` fills it.
use mathlib.Core.Path.{◌≡◌}
use Prim.Native.Nat.{◌+◌, ◌-◌, ◌*◌, ◌%◌}
use lib.ListN.{length}
use Rattle.rules.specs.Lists.{remove_at}
use Rattle.places.specs.Places.{width, capacity, places, spare, round, turned, Ring}
use Rattle.places.proofs.remove_at.Given as goal

abbrev pub invariant-loop-passed : goal.invariant-loop-passed
invariant-loop-passed l = (l.hole ≡ (l.ring_end + (l.first + (l.at - l._passed))) % round * width) ×
    (length l.q ≡ length l.initial.q) × (remove_at (l.first + (l.at - l._passed)) (turned l.ring_end (places l.q))
    ≡ remove_at (l.first + l.at)
    (turned l.ring_end (places l.initial.q))) ×
    (spare l.q ≡ spare l.initial.q) × Ring (capacity l.q) l.ring_end

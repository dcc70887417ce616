-- No place before `at` passes the test, and the rest decides (`Sought`); b is the first word of the place `at`.
use mathlib.Core.Path.{◌≡◌}
use Prim.Native.Nat.{◌+◌, ◌-◌, ◌*◌, ◌%◌}
use Rattle.places.specs.Places.{width, capacity, round, lot, key_test}
use Rattle.places.proofs.Laws.{Sought}
use Rattle.places.proofs.View.find.Given as goal

abbrev pub invariant-loop-at : goal.invariant-loop-at
invariant-loop-at l =
    let v = l.self in
    Sought (key_test l.key) (lot v.q.now v.ring_end v.n) l.at ×
    (l.b ≡ (v.ring_end + (capacity v.q.now - v.n + l.at)) % round * width)

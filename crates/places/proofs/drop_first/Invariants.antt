-- The first goes, again and again (`remove_at-drop`).
use mathlib.Core.Path.{◌≡◌}
use Prim.Native.Nat.{◌-◌, ◌≤◌}
use lib.ListN.{length, drop}
use Rattle.places.specs.Places.{lot, used, Made}
use Rattle.places.proofs.drop_first.Given as goal

abbrev pub invariant-loop-i : goal.invariant-loop-i
invariant-loop-i l = (l.i ≤ l.k) × (length l.q ≡ length l.initial.q) × Made l.initial.q l.q l.ring_end (l.n - l.i)
    (drop l.i (used (lot l.initial.q l.ring_end l.n)))

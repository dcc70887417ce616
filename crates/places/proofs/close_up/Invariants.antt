-- One turn of `Omitting`: the session before `from` goes, or stands right before those that stay; where all that stay stand there
-- (`omitting-done`), `drop_first` clears.
use mathlib.Core.Path.{◌≡◌}
use lib.ListN.{length}
use Rattle.places.specs.Places.{lot, used, spare}
use Rattle.places.proofs.Laws.{Omitting}
use Rattle.places.proofs.close_up.Given as goal

abbrev pub invariant-loop-to : goal.invariant-loop-to
invariant-loop-to g l =
    let u = used (lot l.initial.q l.ring_end l.n) in
    Omitting (g.G.Goes.gone l.who u) u (lot l.q l.ring_end l.n) l.from l.to × (length l.q ≡ length l.initial.q) ×
    (spare l.q ≡ spare l.initial.q)

abbrev pub decreases-loop-to : goal.decreases-loop-to
decreases-loop-to g l = l.from

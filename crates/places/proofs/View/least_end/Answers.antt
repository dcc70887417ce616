use native.Mathlib.Omega.{arith}
use Rattle.places.specs.Places.{lot, used}
use Rattle.places.proofs.Laws.{length-used, leading-out}
use Rattle.places.proofs.View.least_end.Goals as goal

pub returns : goal.returns
returns c =
    let l = c.loop-i in
    let q = lot c.args.self.q.now c.args.self.ring_end c.args.self.n in
    leading-out (used q) l.i l.best (omega (arith, length-used q c.args.self.good)) l.invariant

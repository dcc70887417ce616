-- In order of start the flag of a session stands at its place (`flag_at`).
use native.Mathlib.Omega.{arith}
use mathlib.Core.Path.{sym}
use Rattle.places.specs.Places.{capacity}
use Rattle.places.proofs.Ring.{ring-small}
use Rattle.places.proofs.Laws.{used-fits, flag_at}
use Rattle.places.proofs.FlaggedGoes.goes.Goals as goal

pub bounds-self-at : goal.bounds-self-at
bounds-self-at c =
    let v = c.args._v in
    omega (arith, used-fits v.q.now v.ring_end v.n v.good, (ring-small (capacity v.q.now) v.ring_end c.requires.ring).0)

pub returns : goal.returns
returns c = λ u o h e. sym (flag_at c.args.self.now.0.now u c.args.at o h)

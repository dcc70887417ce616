-- Rests on `push-made`: x is the last of the free places.
use native.Mathlib.Omega.{arith}
use Prim.Native.Nat.{◌-◌}
use Rattle.places.specs.Places.{capacity, lot}
use Rattle.places.proofs.Ring.{size, flat-set}
use Rattle.places.proofs.Laws.{push-made}
use Rattle.places.proofs.push.Goals as goal

pub returns : goal.returns
returns c =
    let p = c.args.q.now in
    let w = c.write_row.ensures in
    let k = capacity p - c.args.n - 1 in
    let m = push-made (lot p 0 c.args.n) _ k c.args.x c.requires.good (omega (arith, size p 0))
    (flat-set p _ k c.args.x (omega arith) _ w.list) in
    record { good = m.0; list = m.1; rest = w.rest }

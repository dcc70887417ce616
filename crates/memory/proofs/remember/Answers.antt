-- Its words are written where the next place stands, and the next place goes one on: all else shows as before (`remembered-now`).
use mathlib.Core.Path.{refl}
use Prim.Native.Nat.{◌+◌, ◌*◌}
use native.Mathlib.Omega.{arith}
use lib.ListN.{length-set}
use Rattle.memory.specs.Memory.{first_past, past_width}
use Rattle.memory.proofs.Laws.{remembered-now}
use Rattle.memory.proofs.remember.Goals as goal

pub bounds-m-b-2 : goal.bounds-m-b-2
bounds-m-b-2 c = simp length-set (omega (arith, c.requires.whole, c.next_past-next.ensures.within))

pub bounds-m-b-3 : goal.bounds-m-b-3
bounds-m-b-3 c = simp length-set (omega (arith, c.requires.whole, c.next_past-next.ensures.within))

pub bounds-m-b-4 : goal.bounds-m-b-4
bounds-m-b-4 c = simp length-set (omega (arith, c.requires.whole, c.next_past-next.ensures.within))

pub bounds-m-b-5 : goal.bounds-m-b-5
bounds-m-b-5 c = simp length-set (omega (arith, c.requires.whole, c.next_past-next.ensures.within))

pub bounds-m-685 : goal.bounds-m-685
bounds-m-685 c = simp length-set (omega (arith, c.requires.whole, c.next_past-next.ensures.within))

pub returns : goal.returns
returns c =
    let n = c.next_past-next.result in
    remembered-now c.args.m.now c.args.x n (first_past + n * past_width) c.next_past-next.ensures.value refl c.requires

-- Rests on `play-made`: only a word of the first place changes, and what stands there is the session that has played on.
use mathlib.Core.Path.{refl, ap}
use native.Mathlib.Omega.{arith}
use Prim.Native.Nat.{◌-◌, ◌*◌}
use Rattle.places.specs.Places.{width, capacity}
use Rattle.places.proofs.Laws.{used-fits, flat_word, play-made}
use Rattle.places.proofs.play.Goals as goal

pub overflow_sub-b : goal.overflow_sub-b
overflow_sub-b c = used-fits c.args.q.now 0 c.args.n c.requires.good

pub bounds-q-b : goal.bounds-q-b
bounds-q-b c = omega (arith, used-fits c.args.q.now 0 c.args.n c.requires.good, c.requires.n_nonzero)

pub overflow_add-q-2 : goal.overflow_add-q-2
overflow_add-q-2 c =
    let b = (capacity c.args.q.now - c.args.n) * width in
    omega (
      arith,
      c.requires.d_bound,
      ap (λ x. x.played.0) (flat_word c.args.q.now c.args.n 0 c.requires.good c.requires.n_nonzero b
          (omega arith)),
    )

pub bounds-q-b-2 : goal.bounds-q-b-2
bounds-q-b-2 c = omega (arith, used-fits c.args.q.now 0 c.args.n c.requires.good, c.requires.n_nonzero)

pub returns : goal.returns
returns c = play-made c.args.q.now c.args.n c.args.d _ c.requires.good c.requires.n_nonzero refl

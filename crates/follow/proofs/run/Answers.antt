use Rattle.std.proofs.Common.{arith}
use Rattle.follow.proofs.Steps.{gone-none, gone-there, gone-more, runs-more}
use Rattle.follow.proofs.run.Goals as goal

pub loop-t-init : goal.loop-t-init
loop-t-init c = (gone-none _ _ _ _ _ c.requires.stands c.requires.told_value, omega arith)

pub slice_bounds-step-count : goal.slice_bounds-step-count
slice_bounds-step-count c = omega (arith, c.loop-t.invariant.0.goes.there)

pub slice_bounds-step-start : goal.slice_bounds-step-start
slice_bounds-step-start c = omega (arith, c.loop-t.invariant.0.goes.there)

pub slice_bounds-step-end : goal.slice_bounds-step-end
slice_bounds-step-end c = omega (arith, c.loop-t.invariant.0.goes.there)

pub step-w-requires : goal.step-w-requires
step-w-requires c = let g = c.loop-t.invariant.0 in record {
  stands = g.goes.stands;
  told_value = g.on;
}

pub overflow_add-at : goal.overflow_add-at
overflow_add-at c =
    let loop = c.loop-t in
    omega (arith, gone-there loop.invariant.0 c.step-w.ensures, loop.invariant.1)

pub returns-then-w-eq0 : goal.returns-then-w-eq0
returns-then-w-eq0 c =
    let loop = c.loop-t in
    runs-more loop.invariant.0 c.step-w.ensures

pub loop-t-smaller : goal.loop-t-smaller
loop-t-smaller c =
    let loop = c.loop-t in
    omega (arith, gone-there loop.invariant.0 c.step-w.ensures, c.if-w-eq0.false)

pub loop-t-preserved : goal.loop-t-preserved
loop-t-preserved c =
    let loop = c.loop-t in
    (gone-more loop.invariant.0 c.step-w.ensures c.if-w-eq0.false c.if-t-ne-IN_ORDER.false, loop.invariant.1)

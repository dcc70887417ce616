use Rattle.std.proofs.Common.{arith, rules}
use Rattle.follow.proofs.Pieces.{rest_some, feeds-none, feeds-part, part-there, feeds-all, feeds-rest}
use Rattle.follow.proofs.feed.Goals as goal

pub loop-i-init : goal.loop-i-init
loop-i-init c = (feeds-none _ _ _ _ _ c.requires, omega arith, omega arith)

pub returns-then-t-ne-IN_ORDER : goal.returns-then-t-ne-IN_ORDER
returns-then-t-ne-IN_ORDER c = let loop = c.loop-i in feeds-rest _ loop.i loop.invariant.0 c.if-t-ne-IN_ORDER.true

pub slice_bounds-next-count : goal.slice_bounds-next-count
slice_bounds-next-count c = omega (arith, c.loop-i.invariant.1)

pub slice_bounds-next-start : goal.slice_bounds-next-start
slice_bounds-next-start c = omega (arith, c.loop-i.invariant.1)

pub slice_bounds-next-end : goal.slice_bounds-next-end
slice_bounds-next-end c = omega (arith, c.loop-i.invariant.1)

pub next-w-requires : goal.next-w-requires
next-w-requires c =
    let loop = c.loop-i in
    let p = c.args.p.now in
    record {
      holds = loop.invariant.0.holds;
      told_value = c.if-t-ne-IN_ORDER.false;
      kept_len = search rules;
      l_nonzero = rest_some p loop.i c.loop-i-test.true;
    }

pub overflow_add-i : goal.overflow_add-i
overflow_add-i c =
    let loop = c.loop-i in
    omega (arith, part-there _ loop.i loop.invariant.0 c.next-w.ensures loop.invariant.1, loop.invariant.2)

pub loop-i-smaller : goal.loop-i-smaller
loop-i-smaller c =
    let loop = c.loop-i in
    omega (arith, part-there _ loop.i loop.invariant.0 c.next-w.ensures loop.invariant.1, c.next-w.ensures.some)

pub loop-i-preserved : goal.loop-i-preserved
loop-i-preserved c =
    let loop = c.loop-i in (
      feeds-part _ loop.i loop.invariant.0 c.next-w.ensures,
      part-there _ loop.i loop.invariant.0 c.next-w.ensures loop.invariant.1,
      loop.invariant.2,
    )

pub returns : goal.returns
returns c = let loop = c.loop-i in feeds-all _ loop.i loop.invariant.0 c.loop-i-test.false

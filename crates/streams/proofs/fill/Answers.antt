use mathlib.Core.Path.{refl}
use Prim.Native.Nat.{◌<◌}
use native.Mathlib.Omega.{arith}
use lib.ListN.{get_or, length-take, length-drop}
use Rattle.streams.proofs.Laws.{fill_begins, fill-ends, fill-good, fill-bad, fill_more}
use borrow.Author.Rules.{rules}
use Rattle.streams.proofs.fill.Goals as goal

pub loop-i-init : goal.loop-i-init
loop-i-init c = (
  refl,
  refl,
  fill_begins c.args.n c.args.p.now c.args.words.now c.args.kept.now c.requires.items
      c.requires.rest c.requires.good,
)

pub bounds-p-at : goal.bounds-p-at
bounds-p-at c =
    let l = c.loop-i.invariant in
    let on = fill-good l.2 c.loop-i-test.true in
    omega (arith, c.requires, l, on)

pub overflow_add-from : goal.overflow_add-from
overflow_add-from c =
    let l = c.loop-i.invariant in
    let on = fill-good l.2 c.loop-i-test.true in
    omega (arith, c.requires, l, on)

pub slice_bounds-fill_row-count : goal.slice_bounds-fill_row-count
slice_bounds-fill_row-count c =
    let l = c.loop-i.invariant in
    let on = fill-good l.2 c.loop-i-test.true in
    omega (arith, c.requires, l, on)

pub slice_bounds-fill_row-start : goal.slice_bounds-fill_row-start
slice_bounds-fill_row-start c =
    let l = c.loop-i.invariant in
    let on = fill-good l.2 c.loop-i-test.true in
    omega (arith, c.requires, l, on)

pub fill_row-requires : goal.fill_row-requires
fill_row-requires c =
    let l = c.loop-i.invariant in
    let h = c.loop-i-test.true in
    let on = fill-good l.2 h in record {
      p_value = fill-bad l.2 h;
      in_bounds = simp (length-take, length-drop) (omega (arith, c.requires, l, on));
    }

pub slice_bounds-copy-count-in-loop-i : goal.slice_bounds-copy-count-in-loop-i
slice_bounds-copy-count-in-loop-i c =
    let l = c.loop-i.invariant in
    let on = fill-good l.2 c.loop-i-test.true in
    omega (arith, c.requires, l, on)

pub slice_bounds-copy-start-in-loop-i : goal.slice_bounds-copy-start-in-loop-i
slice_bounds-copy-start-in-loop-i c =
    let l = c.loop-i.invariant in
    let on = fill-good l.2 c.loop-i-test.true in
    omega (arith, c.requires, l, on)

pub slice_bounds-copy-end-in-loop-i : goal.slice_bounds-copy-end-in-loop-i
slice_bounds-copy-end-in-loop-i c =
    let l = c.loop-i.invariant in
    let on = fill-good l.2 c.loop-i-test.true in
    omega (arith, c.requires, l, on)

pub overflow_sub-to : goal.overflow_sub-to
overflow_sub-to c =
    let l = c.loop-i.invariant in
    let on = fill-good l.2 c.loop-i-test.true in
    omega (arith, c.requires, l, on)

pub loop-i-preserved : goal.loop-i-preserved
loop-i-preserved c =
    let f = c.loop-i.invariant.2 in
    let h = c.loop-i-test.true in
    let low : get_or c.args.p.now c.loop-i.at 0 < 256 =
    omega (arith, c.shared_slice_known-in-loop-i-1.given c.loop-i.at) in (
      search rules,
      search rules,
      fill_more f h c.requires.few low c.requires.wide c.requires.long
          c.fill_row.new.row c.copy.new.out
          c.fill_row.ensures c.copy.ensures,
    )

pub returns : goal.returns
returns c = fill-ends c.loop-i.invariant.2 (omega arith)

use mathlib.Core.Path.{refl}
use native.Mathlib.Omega.{arith}
use Rattle.streams.proofs.Laws.{put-begins, put-ends, put_small, put-kept, put-room, put-able, put-more}
use borrow.Author.Rules.{rules}
use Rattle.streams.proofs.put_rows.Goals as goal

pub loop-i-init : goal.loop-i-init
loop-i-init c =
    (refl, put-begins c.args.n c.args.words.now c.args.kept.now c.args.out.now c.requires)

pub put_row-requires : goal.put_row-requires
put_row-requires c =
    let f = c.loop-i.invariant.1 in
    let few = c.requires.few in
    let h = c.loop-i-test.true in
    put-able f h few c.requires.rows c.requires.kept c.loop-i.invariant.0

pub overflow_add-at : goal.overflow_add-at
overflow_add-at c =
    let f = c.loop-i.invariant.1 in
    let few = c.requires.few in
    let h = c.loop-i-test.true in
    let k = put-kept f h few c.requires.rows c.requires.kept in
    omega (arith, k)

pub overflow_add-to : goal.overflow_add-to
overflow_add-to c =
    let f = c.loop-i.invariant.1 in
    let few = c.requires.few in
    let h = c.loop-i-test.true in
    let k = put_small f h few c.requires.rows c.requires.kept in
    omega (arith, k)

pub overflow_add-to-in-loop-i : goal.overflow_add-to-in-loop-i
overflow_add-to-in-loop-i c =
    let f = c.loop-i.invariant.1 in
    let few = c.requires.few in
    let h = c.loop-i-test.true in
    let k = put-room f h few c.requires.rows c.requires.kept in
    omega (arith, k)

pub loop-i-preserved : goal.loop-i-preserved
loop-i-preserved c =
    let f = c.loop-i.invariant.1 in
    let few = c.requires.few in
    let h = c.loop-i-test.true in (
      search rules,
      put-more f h few c.requires.rows c.requires.kept c.put_row.new.out
          c.put_row.ensures,
    )

pub returns : goal.returns
returns c = put-ends c.loop-i.invariant.1 (omega arith)

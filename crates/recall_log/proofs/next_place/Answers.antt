-- Each answer follows from the tests that led there.
-- Rests on `count`: how many calls there are, and the bytes that they take.
use mathlib.Core.Path.{sym, ap, ◌∙◌}
use native.Mathlib.Omega.{arith}
use borrow.Author.Tests.{lt-ltb, le-ltb}
use Rattle.std.specs.Prelude.{Some}
use Rattle.recall_log.specs.Log.{free, longest_record}
use Rattle.recall_log.proofs.Walks.{within}
use Rattle.recall_log.proofs.Logs.{full-length, full-calls, full-space, place_none, place-from}
use Rattle.recall_log.proofs.next_place.Goals as goal

pub returns-then-l-ne-LOG : goal.returns-then-l-ne-LOG
returns-then-l-ne-LOG c = let l = c.args.l.now in sym (place_none l (full-length l c.if-l-ne-LOG.true))

pub returns-then-h-ge-MOST : goal.returns-then-h-ge-MOST
returns-then-h-ge-MOST c =
    let l = c.args.l.now in
    let n = c.count-h.ensures in
    sym (place_none l (full-calls l c.if-l-ne-LOG.false (omega (arith, n.calls))))

pub overflow_sub-h : goal.overflow_sub-h
overflow_sub-h c =
    let l = c.args.l.now in
    let n = c.count-h.ensures in
    omega (arith, (within l).1, n.taken, c.if-l-ne-LOG.false)

pub returns-then-h-lt-LONGEST_RECORD : goal.returns-then-h-lt-LONGEST_RECORD
returns-then-h-lt-LONGEST_RECORD c =
    let l = c.args.l.now in
    let n = c.count-h.ensures in
    let e = c.if-l-ne-LOG.false in
    sym (place_none l (full-space l e (omega (arith, n.calls)) ∙ lt-ltb (free l) longest_record (omega (arith, n.taken))))

pub returns : goal.returns
returns c =
    let l = c.args.l.now in
    let n = c.count-h.ensures in
    let e = c.if-l-ne-LOG.false in
    ap (λ x. Some x) n.taken ∙ sym (place-from l (full-space l e (omega (arith, n.calls))
    ∙ le-ltb (free l) longest_record (omega (arith, n.taken))))

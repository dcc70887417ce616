-- What makes a request unreadable for its tail, or for having none, stands in `read_whole`; where the tail stands is `tail-is`.
use mathlib.Core.Path.{sym, ap, subst, ◌∙◌}
use native.Mathlib.Omega.{arith}
use borrow.Author.Tests.{lt-ltb, le-ltb}
use lib.ListN.{length}
use Rattle.rules.specs.Request.{tail_of, read_whole, read_splice}
use Rattle.reading.proofs.Laws.{behind}
use Rattle.reading.proofs.Steps.{Placed, tail-is}
use Rattle.reading.proofs.read_splice.Goals as goal

pub returns-then-d-lt18 : goal.returns-then-d-lt18
unfolding read_splice
returns-then-d-lt18 c =
    let d = c.args.d.now in
    rw (lt-ltb (length d) 18 (omega arith))

pub returns-in_err-at : goal.returns-in_err-at
unfolding read_splice read_whole
returns-in_err-at c =
    let d = c.args.d.now in
    let t = subst (Placed (tail_of d) d) (sym c.tail_place.ensures ∙ c.in_err-at.was) (tail-is d (omega arith)) in
    rw (le-ltb (length d) 18 (omega arith), t) c.from_residual.ensures

pub slice_bounds-read_whole-count : goal.slice_bounds-read_whole-count
slice_bounds-read_whole-count c =
    let d = c.args.d.now in
    let t = subst (Placed (tail_of d) d) (sym c.tail_place.ensures ∙ c.in_ok-at.was)
    (tail-is d (omega arith)) in
    omega (arith, t.1)

pub slice_bounds-read_whole-start : goal.slice_bounds-read_whole-start
slice_bounds-read_whole-start c =
    let d = c.args.d.now in
    let t = subst (Placed (tail_of d) d) (sym c.tail_place.ensures ∙ c.in_ok-at.was)
    (tail-is d (omega arith)) in
    omega (arith, t.1)

pub returns : goal.returns
unfolding read_splice
returns c =
    let d = c.args.d.now in
    let n = c.in_ok-at.at in
    let t = subst (Placed (tail_of d) d) (sym c.tail_place.ensures
    ∙ c.in_ok-at.was) (tail-is d (omega arith)) in
    rw (le-ltb (length d) 18 (omega arith)) (c.read_whole.ensures ∙ ap (read_whole d) (behind n d ∙ sym t.0))

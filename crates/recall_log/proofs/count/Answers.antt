use mathlib.Core.Path.{sym, subst, ◌∙◌}
use Prim.Native.Nat.{◌+◌}
use native.Mathlib.Omega.{arith}
use Rattle.recall_log.proofs.Reading.{Counting, walk-within, counting-none, counting-end, counting_more}
use Rattle.recall_log.proofs.count.Goals as goal

pub loop-r-init : goal.loop-r-init
loop-r-init c = counting-none _

pub overflow_add-at : goal.overflow_add-at
overflow_add-at c =
    let w = walk-within _ _ c.loop-r.invariant.there (sym c.record_at.ensures ∙ c.in-Some.is) in
    omega (arith, c.span_of-at.ensures)

pub loop-r-smaller : goal.loop-r-smaller
loop-r-smaller c =
    let w = walk-within _ _ c.loop-r.invariant.there (sym c.record_at.ensures ∙ c.in-Some.is) in
    omega (arith, c.span_of-at.ensures)

pub loop-r-preserved : goal.loop-r-preserved
loop-r-preserved c =
    subst (λ i. Counting c.args.l.now (c.loop-r.at + i) (c.loop-r.n + 1)) (sym c.span_of-at.ensures)
    (counting_more c.loop-r.invariant (sym c.record_at.ensures ∙ c.in-Some.is))

pub returns : goal.returns
returns c = counting-end c.loop-r.invariant (sym c.record_at.ensures ∙ c.in_default.is)

use mathlib.Core.Path.{sym, ◌∙◌}
use native.Mathlib.Omega.{arith}
use Rattle.judge.proofs.Loops.{says, says-whole, says-last, from_all}
use Rattle.judge.proofs.first_unknown.Goals as goal

pub loop-n-init : goal.loop-n-init
loop-n-init c = (omega arith, from_all _)

pub overflow_add-at : goal.overflow_add-at
overflow_add-at c =
    let w = says-whole c.args.l.now c.loop-n.at c.loop-n.invariant.0 c.entry_at.ensures c.in-Made.is in
    omega arith

pub loop-n-smaller : goal.loop-n-smaller
loop-n-smaller c =
    let w = says-whole c.args.l.now c.loop-n.at c.loop-n.invariant.0 c.entry_at.ensures c.in-Made.is in
    omega arith

pub loop-n-preserved : goal.loop-n-preserved
loop-n-preserved c =
    let w = says-whole c.args.l.now c.loop-n.at c.loop-n.invariant.0 c.entry_at.ensures c.in-Made.is in
    (omega arith, c.loop-n.invariant.1 ∙ w.2)

pub returns-in-Cut : goal.returns-in-Cut
returns-in-Cut c =
    sym (c.loop-n.invariant.1 ∙ says-last c.args.l.now c.loop-n.at c.loop-n.invariant.0 c.entry_at.ensures c.in-Cut.is)

pub returns-in-Another : goal.returns-in-Another
returns-in-Another c =
    let w = says c.args.l.now c.loop-n.at c.loop-n.invariant.0
    (sym c.in-Another.is ∙ c.entry_at.ensures) in
    sym (c.loop-n.invariant.1 ∙ w)

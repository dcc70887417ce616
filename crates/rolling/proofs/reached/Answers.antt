-- Each return is one law of proofs/Calls: a step that is too long by `step_over`, which src/lib.rt gives to the search. No answer names the
-- limit, so that code with another one is refused for it.
use Rattle.std.proofs.Common.{ap, arith}
use Rattle.rolling.proofs.Calls.{step_past, step-good}
use Rattle.rolling.proofs.reached.Goals as goal

pub overflow_add-until : goal.overflow_add-until
overflow_add-until c = omega (arith, c.requires, ap (λ y. y.0) c.from_ticks.ensures)

pub returns-then-until-ge-HORIZON : goal.returns-then-until-ge-HORIZON
returns-then-until-ge-HORIZON c =
    let step = c.step-d in
    step_past c.args.clock.0 c.args.last c.args.reading (omega (arith, step.ensures))
    (omega (arith, step.ensures, c.if-until-ge-HORIZON.true, ap (λ y. y.0) c.from_ticks.ensures))

pub returns : goal.returns
returns c =
    let step = c.step-d in
    let from-ticks = c.from_ticks in
    rw (ap (λ y. y.0) from-ticks.ensures, step.ensures)
    (step-good c.args.clock.0 c.args.last c.args.reading (omega (arith, step.ensures))
    (omega (arith, step.ensures, c.if-until-ge-HORIZON.false, ap (λ y. y.0) from-ticks.ensures)))

-- Each turn is one of those that `Stopped` speaks of.
-- Rests on proofs/Turning, one more turn.
use Rattle.std.proofs.Common.{arith, sym, ◌∙◌, ◌+◌, ◌-◌}
use Rattle.card.specs.Ran.{most}
use Rattle.card.proofs.Turning.{turning-counted, turning-over, turning-failed, turning-more}
use borrow.Author.Tests.{not-true, not-false}
use Rattle.card.proofs.turns.Goals as goal

pub returns-then-not-is_whole : goal.returns-then-not-is_whole
returns-then-not-is_whole c =
    let loop = c.loop in
    turning-failed loop.invariant.0 (most - (loop.counter + 1)) (omega (arith, c.loop-test.true)) c.turn-t.ensures
    (sym c.is_whole.ensures ∙ c.if-not-is_whole.true)

pub returns-then-not-t : goal.returns-then-not-t
returns-then-not-t c =
    let loop = c.loop in
    turning-over loop.invariant.0 (most - (loop.counter + 1)) (omega (arith, c.loop-test.true)) c.turn-t.ensures
    (not-true _ c.if-not-t.true)

pub loop-preserved : goal.loop-preserved
loop-preserved c =
    let loop = c.loop in
    let t = c.turn-t in (
      turning-more loop.invariant.0 (most - (loop.counter + 1)) (omega (arith, c.loop-test.true)) t.ensures (not-false _ c.if-not-t.false),
      t.auto.input ∙ loop.invariant.1,
      t.auto.out ∙ loop.invariant.2,
    )

pub returns : goal.returns
returns c = turning-counted c.loop.invariant.0 (omega (arith, c.loop-test.false))

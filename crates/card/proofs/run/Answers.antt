-- Each record is one more of those that were played.
-- Rests on proofs/Runs.
use Rattle.std.proofs.Common.{◌∙◌, refl, arith}
use borrow.Author.Tests.{not-false}
use Rattle.card.proofs.Runs.{runs_none, runs-long, runs-more, runs-stuck, runs_on}
use Rattle.card.proofs.run.Goals as goal

pub loop-out-init : goal.loop-out-init
loop-out-init c = (runs_none _ _ _ _ c.requires.lent, refl, omega arith, omega arith, λ e. refl)

pub overflow_add-used : goal.overflow_add-used
overflow_add-used c =
    let inv = c.loop-out.invariant in
    let more = runs-more inv.0 c.play-p.ensures c.play-p.auto.out (omega (arith, c.loop-out-test.true, inv.0.room)) in
    omega (arith, more.within, inv.2)

pub overflow_add-len : goal.overflow_add-len
overflow_add-len c =
    let inv = c.loop-out.invariant in
    let whole = c.play-p.auto.out in
    let more = runs-more inv.0 c.play-p.ensures whole (omega (arith, c.loop-out-test.true, inv.0.room)) in
    omega (arith, more.room, runs-long inv.0 c.play-p.ensures whole, inv.1, inv.3)

pub returns-then-p-eq0 : goal.returns-then-p-eq0
returns-then-p-eq0 c =
    let inv = c.loop-out.invariant in
    let whole = c.play-p.auto.out in
    record {
      runs = runs-more inv.0 c.play-p.ensures whole (omega (arith, c.loop-out-test.true, inv.0.room));
      stuck = runs-stuck inv.0 c.play-p.ensures whole;
    }

pub loop-out-smaller : goal.loop-out-smaller
loop-out-smaller c =
    let inv = c.loop-out.invariant in
    let more = runs-more inv.0 c.play-p.ensures c.play-p.auto.out (omega (arith, c.loop-out-test.true, inv.0.room)) in
    omega (arith, more.within, c.if-p-eq0.false)

pub loop-out-preserved : goal.loop-out-preserved
loop-out-preserved c =
    let inv = c.loop-out.invariant in
    let whole = c.play-p.auto.out in
    let more = runs-more inv.0 c.play-p.ensures whole (omega (arith, c.loop-out-test.true, inv.0.room)) in (
      runs_on more (not-false _ c.if-not-p.false),
      runs-long inv.0 c.play-p.ensures whole ∙ inv.1,
      inv.2,
      inv.3,
      λ e. absurd (omega (arith, c.if-p-eq0.false)),
    )

pub returns : goal.returns
returns c =
    let inv = c.loop-out.invariant in
    record { runs = inv.0; stuck = λ e f. absurd (omega (arith, c.loop-out-test.false, c.requires.card_room_in_bounds, inv.1, inv.4 e)) }

-- Each record is one of those that `Stopped` speaks of.
-- Rests on proofs/Turning, one more record.
use Rattle.std.proofs.Common.{◌≡◌, ◌+◌, ◌-◌, sym, subst, ◌∙◌, arith}
use Rattle.remember.specs.Remembered.{most}
use Rattle.remember.proofs.Turning.{Turning, turning-counted, turning-over, turning-failed, turning-last, turning-more}
use Rattle.remember.proofs.turns.Goals as goal

pub returns-then-n-lt-MARK_END : goal.returns-then-n-lt-MARK_END
returns-then-n-lt-MARK_END c =
    let read = c.read_record-r in
    let inv = c.loop-turn.invariant in
    turning-over inv.0 (omega (arith, c.loop-turn-test.true)) read.ensures (read.auto.l ∙ inv.2 ∙ c.requires.l_len)
    c.if-n-lt-MARK_END.true

pub returns-then-not-is_whole : goal.returns-then-not-is_whole
returns-then-not-is_whole c =
    let read = c.read_record-r in
    let inv = c.loop-turn.invariant in
    turning-failed inv.0 (omega (arith, c.loop-turn-test.true)) read.ensures (read.auto.l ∙ inv.2 ∙ c.requires.l_len)
    c.if-n-lt-MARK_END.false c.answer-written.ensures (sym c.is_whole.ensures ∙ c.if-not-is_whole.true)

pub returns-then-is_last : goal.returns-then-is_last
returns-then-is_last c =
    let read = c.read_record-r in
    let inv = c.loop-turn.invariant in
    turning-last inv.0 (omega (arith, c.loop-turn-test.true)) read.ensures (read.auto.l ∙ inv.2 ∙ c.requires.l_len)
    c.if-n-lt-MARK_END.false c.answer-written.ensures (sym c.is_last.ensures ∙ c.if-is_last.true)

pub loop-turn-preserved : goal.loop-turn-preserved
loop-turn-preserved c =
    let read = c.read_record-r in
    let answer = c.answer-written in
    let inv = c.loop-turn.invariant in
    let left : most - c.loop-turn._turn - 1 ≡ most - (c.loop-turn._turn + 1) = omega arith in
    let more =
    turning-more inv.0 (omega (arith, c.loop-turn-test.true)) read.ensures (read.auto.l ∙ inv.2 ∙ c.requires.l_len)
    c.if-n-lt-MARK_END.false answer.ensures (sym c.is_last.ensures ∙ c.if-is_last.false) in
    (subst (λ n. Turning c.args.log.now n answer.new.log) left more, answer.auto.log ∙ inv.1, read.auto.l ∙ inv.2, answer.auto.out ∙ inv.3)

pub returns : goal.returns
returns c = turning-counted c.loop-turn.invariant.0 (omega (arith, c.loop-turn-test.false))

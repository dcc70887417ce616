-- Each answer follows from the tests that led there.
-- Rests on proofs/Laws: the mark is the first byte.
use mathlib.Core.Path.{sym, ◌∙◌}
use Rattle.judge.proofs.Laws.{span-message, span-tick, span-mark}
use Rattle.judge.proofs.marks.span_of.Goals as goal

pub returns-then-marks_message : goal.returns-then-marks_message
returns-then-marks_message c =
    c.message_span.ensures ∙ span-message c.args.l.now c.requires.l_nonzero c.requires.mark_value
    (sym c.marks_message.ensures ∙ c.if-marks_message.true)

pub returns-then-mark-eq-TICK : goal.returns-then-mark-eq-TICK
returns-then-mark-eq-TICK c =
    span-tick c.args.l.now c.requires.l_nonzero c.requires.mark_value (sym c.marks_message.ensures ∙ c.if-marks_message.false)
    c.if-mark-eq-TICK.true

pub returns-else-mark-eq-TICK : goal.returns-else-mark-eq-TICK
returns-else-mark-eq-TICK c =
    span-mark c.args.l.now c.requires.l_nonzero c.requires.mark_value (sym c.marks_message.ensures ∙ c.if-marks_message.false)
    c.if-mark-eq-TICK.false

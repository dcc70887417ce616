-- Each answer follows from the tests that led there.
-- Rests on proofs/Laws: an entry from its mark and the bytes that it asks for.
use mathlib.Core.Path.{refl, sym, ◌∙◌}
use borrow.Author.Tests.{eqb-true}
use Rattle.judge.proofs.Laws.{end-at, some-at, another-at, call-at, record-at}
use Rattle.judge.proofs.marks.entry_at.Goals as goal

pub returns-then-is_empty : goal.returns-then-is_empty
returns-then-is_empty c = end-at _ (eqb-true _ 0 (sym c.is_empty.ensures ∙ c.if-is_empty.true))

pub returns-then-marks_call : goal.returns-then-marks_call
returns-then-marks_call c =
    c.whole.ensures ∙ call-at _ (some-at _ (sym c.is_empty.ensures ∙ c.if-is_empty.false)) refl c.span_of-n.ensures
    (sym c.marks_call.ensures ∙ c.if-marks_call.true)

pub returns-then-marks_record : goal.returns-then-marks_record
returns-then-marks_record c =
    c.whole-then-marks_record.ensures
    ∙ record-at _ (some-at _ (sym c.is_empty.ensures ∙ c.if-is_empty.false)) refl c.span_of-n.ensures
    (sym c.marks_call.ensures ∙ c.if-marks_call.false)
    (sym c.marks_record.ensures ∙ c.if-marks_record.true)

pub returns : goal.returns
returns c =
    another-at _ (some-at _ (sym c.is_empty.ensures ∙ c.if-is_empty.false)) refl (sym c.marks_call.ensures ∙ c.if-marks_call.false)
    (sym c.marks_record.ensures ∙ c.if-marks_record.false)

-- Each answer follows from the tests that led there.
-- Rests on `record-at` of proofs/Reading: the definition behind its first test, with the bytes as the code reads them.
use mathlib.Core.Path.{sym, ◌∙◌}
use native.Mathlib.Omega.{arith}
use Rattle.rules.specs.Card.{open_mark, close_mark, message_mark, tick_mark}
use Rattle.recall_log.proofs.Reading.{record-cut, record-at, record-none}
use Rattle.recall_log.proofs.records.record_at.Goals as goal

pub returns-in-79 : goal.returns-in-79
returns-in-79 c = sym (record-at c.args.l.now open_mark (omega arith) (omega arith))

pub returns-in-67 : goal.returns-in-67
returns-in-67 c = sym (record-at c.args.l.now close_mark (omega arith) (omega arith))

pub returns-in-77 : goal.returns-in-77
returns-in-77 c = c.message_at.ensures ∙ sym (record-at c.args.l.now message_mark (omega arith) (omega arith))

pub returns-in-84 : goal.returns-in-84
returns-in-84 c = c.tick_at.ensures ∙ sym (record-at c.args.l.now tick_mark (omega arith) (omega arith))

pub returns-in_default : goal.returns-in_default
returns-in_default c = sym (record-cut c.args.l.now (omega arith))

pub returns-in_default-2 : goal.returns-in_default-2
returns-in_default-2 c =
    sym (record-none c.args.l.now (omega arith) (λ e. omega arith) (λ e. omega arith) (λ e. omega arith) (λ e. omega arith))

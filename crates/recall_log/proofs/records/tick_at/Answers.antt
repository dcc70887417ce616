-- Each answer follows from the test that led there.
-- Rests on `number4`, the number in four bytes.
use mathlib.Core.Path.{sym, ap₂, ◌∙◌}
use native.Mathlib.Omega.{arith}
use Rattle.std.specs.Prelude.{Some}
use Rattle.recall_log.specs.declared.Record.TheVariants.{Tick}
use Rattle.recall_log.proofs.Reading.{tick-cut, tick-whole}
use Rattle.recall_log.proofs.records.tick_at.Goals as goal

pub returns-then-l-lt-TICK_END : goal.returns-then-l-lt-TICK_END
returns-then-l-lt-TICK_END c = sym (tick-cut c.args.l.now (omega arith))

pub returns : goal.returns
returns c =
    ap₂ (λ x y. Some (Tick x y)) c.number4.ensures c.number4-2.ensures ∙ sym
    (tick-whole c.args.l.now (omega arith))

-- Each answer follows from the tests that led there.
-- Rests on `number2`, the MessageSize where it stands.
use mathlib.Core.Path.{sym}
use native.Mathlib.Omega.{arith}
use Rattle.recall_log.proofs.Reading.{header-cut, message-oversize, message-cut, message-whole}
use Rattle.recall_log.proofs.records.message_at.Goals as goal

pub returns-then-l-lt-HEADER_END : goal.returns-then-l-lt-HEADER_END
returns-then-l-lt-HEADER_END c = sym (header-cut c.args.l.now (omega arith))

pub returns-then-size-gt-LONGEST : goal.returns-then-size-gt-LONGEST
returns-then-size-gt-LONGEST c =
    let n = c.number2-size in
    sym (message-oversize c.args.l.now n.result (omega arith) n.ensures (omega arith))

pub returns-then-l-size : goal.returns-then-l-size
returns-then-l-size c =
    let n = c.number2-size in
    sym (message-cut c.args.l.now n.result (omega arith) n.ensures (omega arith)
    (omega arith))

pub returns : goal.returns
returns c =
    let n = c.number2-size in
    sym (message-whole c.args.l.now n.result (omega arith) n.ensures
    (omega arith) (omega arith))

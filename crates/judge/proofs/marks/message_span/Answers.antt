-- Each answer follows from the tests that led there.
-- Rests on message-span-at: the definition behind its first test, with the MessageSize as the code reads it.
use native.Mathlib.Omega.{arith}
use borrow.Author.Tests.{lt-ltb, le-ltb}
use lib.ListN.{length}
use Rattle.rules.specs.Bytes.{largest_size}
use Rattle.rules.specs.Card.{header_end}
use Rattle.judge.proofs.Laws.{message-span-at}
use Rattle.judge.proofs.marks.message_span.Goals as goal

pub returns-then-l-lt-HEADER_END : goal.returns-then-l-lt-HEADER_END
returns-then-l-lt-HEADER_END c = rw (lt-ltb (length c.args.l.now) header_end (omega arith))

pub returns-then-size-gt-LONGEST : goal.returns-then-size-gt-LONGEST
returns-then-size-gt-LONGEST c =
    let l = c.args.l.now in
    let size = c.number2-size.result in
    rw (message-span-at l size (omega arith) c.number2-size.ensures, lt-ltb largest_size size (omega arith))

pub returns : goal.returns
returns c =
    let l = c.args.l.now in
    let size = c.number2-size.result in
    rw (message-span-at l size (omega arith) c.number2-size.ensures, le-ltb largest_size size (omega arith))

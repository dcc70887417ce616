-- Behind the four marks; the others follow from the definition by its first test (`cut_at`, `record_at`).
use native.Mathlib.Omega.{arith}
use borrow.Author.Tests.{ne_eqb}
use lib.ListN.{get_or}
use Rattle.rules.specs.Card.{open_mark, close_mark, message_mark, tick_mark}
use Rattle.feed.proofs.Laws.{record_at}
use Rattle.feed.proofs.take.Goals as goal

pub returns-in_default-mark : goal.returns-in_default-mark
returns-in_default-mark c =
    let l = c.args.l.now in
    rw (
      record_at l (omega arith),
      ne_eqb (get_or l 0 0) open_mark (λ e. omega arith),
      ne_eqb (get_or l 0 0) close_mark (λ e. omega arith),
      ne_eqb (get_or l 0 0) message_mark (λ e. omega arith),
      ne_eqb (get_or l 0 0) tick_mark (λ e. omega arith),
    )

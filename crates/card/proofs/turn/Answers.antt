-- What is not played of the bytes kept and read is kept.
-- Rests on proofs/Round, one turn.
use Rattle.std.proofs.Common.{arith}
use Rattle.card.proofs.Round.{turned}
use Rattle.card.proofs.turn.Goals as goal

pub returns : goal.returns
returns c =
    let refill = c.refill-n in
    let run = c.run-p in
    turned _ _ c.args.input.now refill.new.input c.write-written.result refill.ensures.result_in_bounds refill.ensures.input_unchanged
    run.ensures c.keep.ensures c.keep.auto.input c.goes_on.ensures (omega arith)

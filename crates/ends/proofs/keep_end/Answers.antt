-- Its result and its time on air are found, and memory remembers it (`kept-as`).
-- Rests on what `result_of`, units and memory promise.
use Rattle.ends.proofs.Laws.{kept-as}
use Rattle.ends.proofs.keep_end.Goals as goal

pub returns : goal.returns
returns c =
    kept-as c.args.how c.args.x c.args.m.now c.result_of.ensures c.to_long_ticks.ensures
    c.remember.ensures

-- The engine's fresh is the referee's, and nothing is kept.
-- Rests on proofs/Saying and on the promise of the engine's fresh.
use Rattle.follow.proofs.Saying.{begins-first}
use Rattle.follow.proofs.fresh.Goals as goal

pub returns : goal.returns
returns c =
    let f = c.fresh.ensures in
    record {
      answers = f;
      by_index = λ o k h. begins-first _ _ _ o k f.lent f.splicer h;
    }

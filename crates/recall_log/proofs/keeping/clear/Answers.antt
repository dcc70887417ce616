use Rattle.recall_log.specs.Kept.{cleared}
use Rattle.recall_log.proofs.keeping.clear.Goals as goal

pub returns : goal.returns
unfolding cleared
returns c = c.fill.ensures.after (λ y e. e)

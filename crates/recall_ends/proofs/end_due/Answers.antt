-- The started ones whose end has come. Rests on what `end_started` promises.
use Rattle.recall_rules.specs.Work.{end_at}
use Rattle.recall_ends.specs.Does.{started_end}
use Rattle.recall_ends.proofs.end_due.Goals as goal

pub end_started-requires : goal.end_started-requires
unfolding end_at started_end
end_started-requires c = c.requires

pub returns : goal.returns
unfolding end_at started_end
returns c = c.end_started.ensures

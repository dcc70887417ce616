-- All of its connection. Rests on what `end_all` promises.
use Rattle.recall_rules.specs.Work.{closed_by}
use Rattle.recall_ends.proofs.close.Goals as goal

pub end_all-requires : goal.end_all-requires
unfolding closed_by
end_all-requires c = c.requires

pub returns : goal.returns
unfolding closed_by
returns c = c.end_all.ensures

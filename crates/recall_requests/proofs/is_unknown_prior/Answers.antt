-- A timed start names none; of a linked one what `is_held` promises.
use borrow.Author.Rules.{rules}
use Rattle.recall_rules.specs.Work.{unknown_prior}
use Rattle.recall_requests.proofs.is_unknown_prior.Goals as goal

pub returns-in-Timed : goal.returns-in-Timed
unfolding unknown_prior
returns-in-Timed c = search rules

pub returns-in-Linked : goal.returns-in-Linked
unfolding unknown_prior
returns-in-Linked c = search rules

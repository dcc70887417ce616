-- No number, one that is held, or a prior that is not: the first decides.
use borrow.Author.Rules.{rules}
use Rattle.recall_rules.specs.Work.{wrong_number}
use Rattle.recall_requests.proofs.is_wrong_number.Goals as goal

pub returns-then-is_held : goal.returns-then-is_held
unfolding wrong_number
returns-then-is_held c = search rules

pub returns-else-is_held : goal.returns-else-is_held
unfolding wrong_number
returns-else-is_held c = search rules

-- 20, or 10 or more and a sum of 64: the first test that decides.
use borrow.Author.Rules.{rules}
use Rattle.recall_rules.specs.Work.{full}
use Rattle.recall_requests.proofs.is_full.Goals as goal

pub returns-then-n-eq20 : goal.returns-then-n-eq20
unfolding full
returns-then-n-eq20 c = search rules

pub returns-then-n-ge10 : goal.returns-then-n-ge10
unfolding full
returns-then-n-ge10 c = search rules

pub returns-else-n-ge10 : goal.returns-else-n-ge10
unfolding full
returns-else-n-ge10 c = search rules

-- Each case is the definition's.
-- Rests on proofs/Saying.
use borrow.Author.Rules.{rules}
use Rattle.follow.proofs.Saying.{said-other, said-call}
use Rattle.follow.proofs.say.Goals as goal

pub returns-then-kind-eq-A_CALL : goal.returns-then-kind-eq-A_CALL
returns-then-kind-eq-A_CALL c = said-call _ _ _ _ c.if-kind-eq-A_CALL.true (search rules)

pub returns : goal.returns
returns c = said-other _ _ _ _ c.if-kind-eq-A_CALL.false

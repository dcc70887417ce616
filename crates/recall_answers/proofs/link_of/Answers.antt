-- The word decides (`link-opened`, `link-initialised`, `link-closed`).
use native.Mathlib.Omega.{arith}
use Rattle.recall_answers.proofs.Laws.{link-opened, link-initialised, link-closed}
use Rattle.recall_answers.proofs.link_of.Goals as goal

pub returns-in-1 : goal.returns-in-1
returns-in-1 c = link-opened (omega arith)

pub returns-in-2 : goal.returns-in-2
returns-in-2 c = link-initialised (λ e. omega arith) (omega arith)

pub returns-in_default : goal.returns-in_default
returns-in_default c = link-closed (λ e. omega arith) (λ e. omega arith)

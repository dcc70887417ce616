-- The first check that applies decides.
use borrow.Author.Rules.{rules}
use Rattle.recall_rules.specs.Work.{splice_result}
use Rattle.recall_requests.proofs.splice_result.Goals as goal

pub returns-then-is_wrong_number : goal.returns-then-is_wrong_number
unfolding splice_result
returns-then-is_wrong_number c = search rules

pub returns-then-is_too_late : goal.returns-then-is_too_late
unfolding splice_result
returns-then-is_too_late c = search rules

pub returns-then-does_collide : goal.returns-then-does_collide
unfolding splice_result
returns-then-does_collide c = search rules

pub returns-then-is_full : goal.returns-then-is_full
unfolding splice_result
returns-then-is_full c = search rules

pub returns : goal.returns
unfolding splice_result
returns c = search rules

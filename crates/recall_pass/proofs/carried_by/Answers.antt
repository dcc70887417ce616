-- Each way is a clause of the definition.
use Rattle.recall_pass.specs.Passes.{carried_by}
use Rattle.recall_pass.proofs.carried_by.Goals as goal

pub returns-in-Ok : goal.returns-in-Ok
unfolding carried_by
returns-in-Ok c = rw c.in-Ok.is

pub returns-in-Err : goal.returns-in-Err
unfolding carried_by
returns-in-Err c = rw c.in-Err.is

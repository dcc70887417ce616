-- Closed connections, and no place (`begins`).
use Rattle.recall_pass.proofs.Calls.{begins}
use Rattle.recall_pass.proofs.begun.Goals as goal

pub returns : goal.returns
returns c = begins

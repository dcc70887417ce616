-- All words are zeros (`cleared-now`).
use Rattle.memory.proofs.Laws.{cleared-now}
use Rattle.memory.proofs.clear.Goals as goal

pub returns : goal.returns
returns c = cleared-now

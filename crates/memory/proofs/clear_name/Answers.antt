-- All bytes are zeros (`cleared`).
use Rattle.memory.proofs.Names.{cleared}
use Rattle.memory.proofs.clear_name.Goals as goal

pub returns : goal.returns
returns c = cleared

-- None of the newest i is of the number (`Seeking`), and the next one decides.
use Rattle.rules.proofs.Recall.{Seeking}
use Rattle.memory.specs.Memory.{see}
use Rattle.memory.proofs.recall.Given as goal

abbrev pub invariant-loop-i : goal.invariant-loop-i
invariant-loop-i l = Seeking l.conn l.id (see l.m).queue.lately l.i

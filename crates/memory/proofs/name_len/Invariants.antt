-- No zero has been passed (`Passed`), so the name goes on.
use Rattle.memory.proofs.Names.{Passed}
use Rattle.memory.proofs.name_len.Given as goal

abbrev pub invariant-loop-i : goal.invariant-loop-i
invariant-loop-i l = Passed l.name l.i

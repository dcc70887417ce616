-- One turn of `Theirs`: the session at the place i is the connection's, and its end is kept and written, or is counted; then they are taken
-- out.
-- Rests on what `write_end` and memory promise.
use Rattle.rules.specs.State.{of}
use Rattle.memory.specs.declared.Which.TheVariants.{Waiting}
use Rattle.memory.specs.Memory.{see}
use Rattle.ends.proofs.Closing.{Theirs}
use Rattle.ends.proofs.end_waiting_of.Given as goal

abbrev pub invariant-loop-i : goal.invariant-loop-i
invariant-loop-i l = Theirs (of l.conn) 116 Waiting (see l.initial.m) l.initial.out l.len l.m l.i l.to l.left l.out

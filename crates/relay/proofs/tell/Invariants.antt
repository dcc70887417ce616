-- One turn of `Sofar`: the connection is initialised, and what it gets is written, or it is passed over.
-- Rests on what `write_cue` and memory promise.

use Rattle.memory.specs.Memory.{see}
use Rattle.relay.proofs.Laws.{Sofar}
use Rattle.relay.proofs.tell.Given as goal

abbrev pub invariant-loop-conn : goal.invariant-loop-conn
invariant-loop-conn l = Sofar l.cue l.time l.section (see l.m).links l.initial.out l.conn l.len l.out

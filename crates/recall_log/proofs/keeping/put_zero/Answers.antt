-- A store, or no room for one.
use native.Mathlib.Omega.{arith}
use Rattle.recall_log.proofs.Puts.{zero-set, zero-none}
use Rattle.recall_log.proofs.keeping.put_zero.Goals as goal

pub returns-then-end-l : goal.returns-then-end-l
returns-then-end-l c = zero-set c.args.l.now c.args.end (omega arith)

pub returns-else-end-l : goal.returns-else-end-l
returns-else-end-l c = zero-none c.args.l.now c.args.end (omega arith)

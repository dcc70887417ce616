-- Two stores.
use native.Mathlib.Omega.{arith}
use lib.ListN.{length-set}
use Rattle.recall_log.proofs.Puts.{two-set}
use Rattle.recall_log.proofs.keeping.put_mark.Goals as goal

pub bounds-l-at-2 : goal.bounds-l-at-2
bounds-l-at-2 c = simp length-set (omega arith)

pub returns : goal.returns
returns c = two-set c.args.l.now c.args.at c.args.mark c.args.second (omega arith)

-- 13, or a place. Rests on what `next_place` promises.
use mathlib.Core.Path.{sym, subst}
use Rattle.recall.specs.Finish.{FindsPlace}
use Rattle.recall.proofs.Calls.{begins}
use Rattle.recall.proofs.begin.Goals as goal

pub returns : goal.returns
returns c = subst (FindsPlace c.args.log.now) (sym c.ok_or.ensures.value) (begins c.args.log.now c.next_place.result c.next_place.ensures)

-- The verdict of the one on air gets the time (`elapsed`), which fits; with none nothing changes.
use Rattle.recall_rows.proofs.Scans.{found, missing}
use Rattle.recall_ends.specs.Does.{all}
use Rattle.recall_instants.proofs.Words.{elapsed, elapsed-none}
use Rattle.recall_instants.proofs.elapse.Goals as goal

pub returns-in-Some : goal.returns-in-Some
returns-in-Some c =
    let l = all c.args.m.now in
    elapsed c.args.d c.in-Some.i l c.load.result _ (found l c.on_air.ensures.on_air c.in-Some.is) c.load.ensures c.store.ensures

pub returns-in_default : goal.returns-in_default
returns-in_default c = elapsed-none c.args.d (all c.args.m.now) (missing (all c.args.m.now) c.on_air.ensures.on_air c.in_default.is)

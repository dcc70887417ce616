-- All else shows as before (`timed-now`).
use Rattle.memory.proofs.Laws.{timed-now}
use Rattle.memory.proofs.set_clock.Goals as goal

pub returns : goal.returns
returns c =
    timed-now c.args.m.now c.args.t.0 c.requires

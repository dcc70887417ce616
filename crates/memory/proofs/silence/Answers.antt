-- All else shows as before (`silenced-now`).
use Rattle.memory.proofs.Laws.{silenced-now}
use Rattle.memory.proofs.silence.Goals as goal

pub returns : goal.returns
returns c =
    silenced-now c.args.m.now c.args.d c.requires.form

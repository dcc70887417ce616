-- The sooner of the first end and the first start is what is due (`due-of`).
use mathlib.Core.Path.{◌∙◌}
use Rattle.rules.proofs.Tick.{due-of}
use Rattle.memory.specs.Memory.{see}
use Rattle.instants.proofs.upcoming.Goals as goal

pub returns : goal.returns
returns c =
    let a = c.least_end-a in
    let b = c.first_start-b in
    c.sooner.ensures ∙ due-of (see c.args.m.now).queue a.result b.result a.ensures b.ensures

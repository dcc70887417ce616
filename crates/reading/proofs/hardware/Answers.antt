-- All from its place on (`behind`), and of that the structure.
use mathlib.Core.Path.{ap, ◌∙◌}
use Rattle.rules.specs.Hardware.{structure_in}
use Rattle.reading.proofs.Laws.{behind}
use Rattle.reading.proofs.hardware.Goals as goal

pub returns : goal.returns
returns c =
    let structure = c.structure in
    structure.ensures ∙ ap structure_in (behind 66 c.args.d.now)

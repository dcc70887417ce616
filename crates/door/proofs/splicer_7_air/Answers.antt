-- With nobody on air the zeros are the row (`air-silent`); else engine's read has it.
use mathlib.Core.Path.{sym, ◌∙◌}
use Rattle.memory.specs.Memory.{shown}
use Rattle.engine.proofs.Drivers.{air-silent}
use Rattle.door.proofs.splicer_7_air.Goals as goal

pub returns-then-on_air-eq0 : goal.returns-then-on_air-eq0
returns-then-on_air-eq0 c =
    air-silent (shown c.args.words.now c.args.bytes.now).queue.started (sym c.on_air.ensures ∙ c.if-on_air-eq0.true)

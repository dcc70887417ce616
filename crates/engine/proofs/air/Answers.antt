-- By whether one has started (`air-none`, `air-first`).
use Rattle.memory.specs.declared.Which.TheVariants.{Started}
use Rattle.memory.specs.Memory.{sessions}
use Rattle.memory.proofs.Laws.{quiet_none, quiet-some}
use Rattle.engine.proofs.Drivers.{air-none, air-first}
use Rattle.engine.proofs.air.Goals as goal

pub returns-then-is_quiet : goal.returns-then-is_quiet
returns-then-is_quiet c = air-none (sessions Started c.args.m.now) (quiet_none c.is_quiet.ensures c.if-is_quiet.true)

pub returns : goal.returns
returns c =
    air-first (sessions Started c.args.m.now) c.load-s.result c.load-s.ensures.is (quiet-some c.is_quiet.ensures c.if-is_quiet.false)

-- By whether one has started (`feed-none`, `feed-some`).
use Rattle.memory.specs.declared.Which.TheVariants.{Started}
use Rattle.memory.specs.Memory.{sessions}
use Rattle.engine.proofs.Calls.{feed-none, feed-some}
use Rattle.memory.proofs.Laws.{quiet_none, quiet-some}
use Rattle.engine.proofs.on_air.Goals as goal

pub returns-then-is_quiet : goal.returns-then-is_quiet
returns-then-is_quiet c =
    feed-none (sessions Started c.args.m.now) (quiet_none c.is_quiet.ensures c.if-is_quiet.true)

pub returns : goal.returns
returns c =
    feed-some (sessions Started c.args.m.now) (quiet-some c.is_quiet.ensures c.if-is_quiet.false)

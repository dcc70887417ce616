-- The first from t on decides (`taken_here`): the waiting stand in order of start, no two alike.
use Rattle.std.proofs.Common.{◌∙◌}
use borrow.Author.Tests.{le-ltb}
use Rattle.memory.specs.Memory.{see}
use Rattle.checks.proofs.Laws.{taken_here, taken_none}
use Rattle.checks.proofs.is_taken.Goals as goal

pub returns-then-at-count : goal.returns-then-at-count
returns-then-at-count c =
    taken_here c.args.t.0 (see c.args.m.now).queue.waiting c.requires.sorted c.requires.at_value c.count.ensures
    c.load.result c.if-at-count.true c.load.ensures.is

pub returns-else-at-count : goal.returns-else-at-count
returns-else-at-count c =
    le-ltb c.args.at c.count.result c.if-at-count.false
    ∙ taken_none c.args.t.0 (see c.args.m.now).queue.waiting c.requires.sorted c.requires.at_value
    c.count.ensures c.if-at-count.false

-- The waiting first, then the started: what each search finds is compared with how many there are.
use Rattle.memory.specs.Memory.{see}
use Rattle.checks.proofs.Laws.{found-waiting, found-started, found_nowhere}
use Rattle.checks.proofs.where_held.Goals as goal

pub returns-then-i-count : goal.returns-then-i-count
returns-then-i-count c =
    found-waiting c.args.conn c.args.id (see c.args.m.now).queue c.find-i.ensures
    c.count.ensures c.if-i-count.true

pub returns-then-j-count : goal.returns-then-j-count
returns-then-j-count c =
    found-started c.args.conn c.args.id (see c.args.m.now).queue c.find-i.ensures
    c.count.ensures c.if-i-count.false c.find-j.ensures
    c.count-2.ensures c.if-j-count.true

pub returns : goal.returns
returns c =
    found_nowhere c.args.conn c.args.id (see c.args.m.now).queue c.find-i.ensures
    c.count.ensures c.if-i-count.false c.find-j.ensures
    c.count-2.ensures c.if-j-count.false

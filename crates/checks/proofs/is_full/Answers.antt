-- 20, or 10 or more and a sum of 64; the tally has the count and the sum.
use Rattle.memory.specs.Memory.{see}
use Rattle.checks.proofs.Laws.{waiting-fits, sum-fits, full-twenty, full-few, full-sum}
use Rattle.checks.proofs.is_full.Goals as goal

pub returns-then-n-eq-MOST_OF_ONE : goal.returns-then-n-eq-MOST_OF_ONE
returns-then-n-eq-MOST_OF_ONE c =
    full-twenty (see c.args.m.now).queue.waiting c.tally-t.ensures c.args.conn c.requires.conn_bound c.if-n-eq-MOST_OF_ONE.true

pub returns-then-n-lt-OWN : goal.returns-then-n-lt-OWN
returns-then-n-lt-OWN c =
    full-few (see c.args.m.now).queue.waiting c.tally-t.ensures c.args.conn c.requires.conn_bound
    c.if-n-eq-MOST_OF_ONE.false c.if-n-lt-OWN.true

pub raised_sum-requires : goal.raised_sum-requires
raised_sum-requires c =
    sum-fits (see c.args.m.now).queue.waiting c.tally-t.ensures (waiting-fits c.args.m.now c.requires.form)

pub returns : goal.returns
returns c =
    full-sum (see c.args.m.now).queue.waiting c.tally-t.ensures c.args.conn c.requires.conn_bound
    c.if-n-eq-MOST_OF_ONE.false c.if-n-lt-OWN.false c.raised_sum.ensures

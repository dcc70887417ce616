-- What was found decides (`extended_none`, `extended-found`).
use Rattle.memory.specs.Memory.{see}
use Rattle.answers.proofs.Laws.{extended_none, extended-found}
use Rattle.answers.proofs.answer_extended.Goals as goal

pub returns-then-e-eq0 : goal.returns-then-e-eq0
returns-then-e-eq0 c =
    extended_none c.args.conn c.args.x (see c.args.m.now).queue
    c.recall-e.ensures c.if-e-eq0.true
    c.extended_none.ensures

pub returns : goal.returns
returns c =
    extended-found c.args.conn c.args.x (see c.args.m.now).queue
    c.recall-e.ensures c.if-e-eq0.false
    c.extended_found.ensures

-- What was found decides (`extended_none`, `extended-found`). Rests on what `latest_end` promises.
use Rattle.recall_ends.specs.Does.{all}
use Rattle.recall_answers.proofs.Extended.{extended_none, extended-found}
use Rattle.recall_answers.proofs.answer_extended.Goals as goal

pub returns-then-e-eq0 : goal.returns-then-e-eq0
returns-then-e-eq0 c =
    extended_none c.args.conn c.args.x (all c.args.m.now) c.latest_end-e.ensures
    c.if-e-eq0.true c.extended_none.ensures

pub returns : goal.returns
returns c =
    extended-found c.args.conn c.args.x (all c.args.m.now) c.latest_end-e.ensures
    c.if-e-eq0.false c.extended_found.ensures

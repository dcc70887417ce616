-- What the row of that end says, or what an empty one does (`nth-found`, `nth-none`). Rests on what `find_end` promises.
use mathlib.Core.Path.{refl, ◌∙◌}
use Rattle.recall_rows.specs.Rows.{all}
use Rattle.recall_rows.proofs.Scans.{found, missing}
use Rattle.recall_answers.proofs.Extended.{unused-by, nth-found, nth-none}
use Rattle.recall_answers.proofs.nth_end.Goals as goal

pub returns-in_default : goal.returns-in_default
returns-in_default c =
    let l = all c.args.m.now in
    unused-by c.default.result c.default.ensures ∙ nth-none c.args.number _ l refl (missing l c.find_end.ensures.first c.in_default.is)

pub returns : goal.returns
returns c =
    let l = all c.args.m.now in
    nth-found c.args.number c.in-Some.i l (found l c.find_end.ensures.first c.in-Some.is).0 c.load-v.result c.load-v.ensures
    c.result_in.ensures c.to_long_ticks.ensures

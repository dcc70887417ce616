-- The memory shows the card program's splicer, and the turns judge from there.
-- Rests on the promise of fresh and of the card program's name.
use mathlib.Core.Path.{◌∙◌}
use Rattle.judge.proofs.Loops.{judged-start}
use Rattle.judge.proofs.judge.Goals as goal

pub returns : goal.returns
returns c =
    let last = c.fresh.new in
    c.run.ensures ∙ judged-start _ last.m last.b _ c.fresh.ensures.splicer
    c.channel.ensures

-- The word at the slot is the length of the list (`counted`).
use mathlib.Core.Path.{ap, ◌∙◌}
use lib.ListN.{get_or}
use Rattle.memory.proofs.Laws.{counted}
use Rattle.memory.proofs.count.Goals as goal

pub returns : goal.returns
returns c =
    let slot = c.slot-i in
    ap (λ i. get_or c.args.m.now i 0) slot.ensures.value ∙ counted c.args.which c.args.m.now c.requires

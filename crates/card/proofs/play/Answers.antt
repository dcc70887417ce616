-- The memory that `fresh` leaves shows document 01's fresh splicer of the card's name, and from there all turns are made.
-- Rests on the promises of `fresh`, `channel` and `turns`.
use Rattle.std.proofs.Common.{subst, ap, ◌∙◌}
use Rattle.rules.specs.State.{Splicer}
use Rattle.rules.specs.Calls.{fresh}
use Rattle.card.specs.Ran.{Stopped}
use Rattle.card.proofs.play.Goals as goal

pub returns : goal.returns
returns c =
    let s = c.fresh.ensures.splicer ∙ ap (λ n. (fresh n).splicer) c.channel.ensures in
    subst (λ (x : Splicer). Stopped x c.turns.result) s c.turns.ensures

-- The sooner of the two is what is due.
use mathlib.Core.Path.{ap, ap₂, ◌∙◌}
use Rattle.rules.specs.State.{sooner, not_after}
use Rattle.recall_rules.specs.Work.{due}
use Rattle.recall_instants.proofs.next_due.Goals as goal

pub returns : goal.returns
unfolding due
returns c =
    let a = c.next_end-a in
    let b = c.next_start-b in
    c.not_after.ensures ∙ ap (not_after c.args.until.0) (c.sooner.ensures ∙ ap₂ sooner a.ensures b.ensures)

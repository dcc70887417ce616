-- The first of its order has the earliest (`next-found`); where none is found, none is there. Rests on what `first_of` promises.
use mathlib.Core.Path.{refl, ◌∙◌}
use Rattle.recall_rows.specs.declared.Order.TheVariants.{Earliest}
use Rattle.recall_ends.specs.Does.{all}
use Rattle.recall_instants.proofs.Leads.{next-found, next-none}
use Rattle.recall_instants.proofs.next_start.Goals as goal

pub returns-in_err-i : goal.returns-in_err-i
returns-in_err-i c =
    c.from_residual.ensures ∙ next-none Earliest (λ s. s.start) refl (all c.args.m.now) c.first_of.ensures.first c.in_err-i.was

pub returns : goal.returns
returns c = next-found Earliest (λ s. s.start) refl (all c.args.m.now) c.first_of.ensures.first c.in_ok-i.was c.load.ensures

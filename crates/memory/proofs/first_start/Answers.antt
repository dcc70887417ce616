-- The view is of the waiting ones' lot; of those in order of start the first is the earliest (`first-earliest`).
use native.Mathlib.Omega.{arith}
use mathlib.Core.Path.{ap, ◌∙◌}
use lib.ListN.{get_or}
use Rattle.rules.specs.State.{empty}
use Rattle.places.specs.Places.{Lot, used}
use Rattle.memory.specs.declared.Which.TheVariants.{Waiting}
use Rattle.memory.specs.Memory.{sessions}
use Rattle.memory.proofs.Laws.{first-earliest}
use Rattle.memory.proofs.first_start.Goals as goal

pub returns : goal.returns
returns c =
    first-earliest (sessions Waiting c.args.m.now) c.start_at.result c.requires.sorted (omega (arith, c.view.ensures.n))
    (c.start_at.ensures ∙ ap (λ (x : Lot). (get_or (used x) 0 empty).start) c.view.ensures.is)

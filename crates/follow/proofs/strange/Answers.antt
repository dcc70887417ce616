-- Something is still due, or it is the mark.
-- Rests on proofs/Steps.
use Rattle.std.proofs.Common.{ap, ◌∙◌}
use Rattle.follow.specs.Following.{told_as}
use Rattle.follow.proofs.Steps.{with-stage, strange-due, strange-met}
use Rattle.follow.proofs.strange.Goals.{then-s, else-s}
use Rattle.follow.proofs.strange.Goals as goal

pub returns : goal.returns
returns c l m b o e h =
    elim c.if-s.branch [
      | then-s w ↦ with-stage (c.as_told.ensures ∙ ap (λ k. told_as k c.args.s) w.kind-is)
          (strange-due c.args.s l m b o h c.requires e w.if-s.true)
      | else-s w ↦ with-stage (c.as_told.ensures ∙ ap (λ k. told_as k c.args.s) w.kind-is)
          (strange-met c.args.s l m b o h c.requires e w.if-s.false)
    ]

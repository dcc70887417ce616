-- The part is that of the stage.
use mathlib.Core.Path.{ap, ◌∙◌}
use Rattle.door_bench.specs.Referee.{part_of}
use Rattle.door_bench.proofs.splicer_bench_2_referee_due.Goals as goal

pub returns : goal.returns
returns c = c.part_of.ensures ∙ ap part_of c.stage_of.ensures

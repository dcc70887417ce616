-- The words are those of what judge finds.
use mathlib.Core.Path.{ap, ◌∙◌}
use Rattle.door_bench.specs.Bench.{words_of}
use Rattle.door_bench.proofs.splicer_bench_2_check.Goals as goal

pub returns : goal.returns
returns c = c.words_of.ensures ∙ ap words_of c.check.ensures

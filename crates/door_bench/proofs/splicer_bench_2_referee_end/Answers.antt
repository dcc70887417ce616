-- The words are those of what follow's end finds.
use mathlib.Core.Path.{ap, ◌∙◌}
use Rattle.follow.specs.Following.{end_by}
use Rattle.door_bench.specs.Referee.{verdict_words}
use Rattle.door_bench.proofs.splicer_bench_2_referee_end.Goals as goal

pub returns : goal.returns
returns c =
    c.verdict_words.ensures ∙ ap verdict_words (c.end.ensures ∙ ap end_by c.stage_of-s.ensures)

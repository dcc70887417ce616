-- The reply is that of follow's fresh, and the stage the first.
use mathlib.Core.Path.{ap, ◌∙◌}
use Rattle.door_bench.specs.Referee.{stage_words}
use Rattle.door_bench.proofs.splicer_bench_2_referee_fresh.Goals as goal

pub returns : goal.returns
returns c =
    record {
      answer = c.fresh-a.result;
      answers = c.fresh-a.ensures.answers;
      reply = c.reply_of.ensures;
      stage = c.stage_words.ensures ∙ ap stage_words c.first.ensures;
    }

-- The words of its place are read where they stand (`recent-word`).
use mathlib.Core.Path.{◌∙◌}
use Rattle.memory.proofs.Laws.{recent-word}
use Rattle.memory.proofs.recent_at.Goals as goal

pub returns : goal.returns
returns c =
    c.past_in.ensures ∙ recent-word c.args.m.now c.args.i c.requires.i_lt_most_kept c.next_past-next.ensures.value

-- The four words are the counts (`counts-read`).
use mathlib.Core.Path.{◌∙◌}
use Rattle.memory.proofs.Laws.{counts-read}
use Rattle.memory.proofs.tally.Goals as goal

pub returns : goal.returns
returns c =
    counts-read c.args.m.now c.requires.whole ∙ c.requires.counts

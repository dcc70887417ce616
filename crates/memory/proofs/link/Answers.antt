-- The word behind the first link is that of the connection (`link_at`).
use mathlib.Core.Path.{◌∙◌}
use Rattle.memory.proofs.Laws.{link_at}
use Rattle.memory.proofs.link.Goals as goal

pub returns : goal.returns
returns c = c.link_in.ensures ∙ link_at c.args.m.now c.args.c c.requires.c_bound

-- The pair and the zero behind it are the appended log.
use mathlib.Core.Path.{refl, ◌∙◌}
use Rattle.recall_log.proofs.Puts.{pair-appended}
use Rattle.rules.specs.Calls.{opens}
use Rattle.recall_log.specs.Kept.{marked}
use Rattle.recall_log.proofs.keeping.keep_open.Goals as goal

pub returns : goal.returns
unfolding marked
returns c = c.keep_pair.ensures ∙ pair-appended (opens c.args.conn) c.args.l.now c.requires refl

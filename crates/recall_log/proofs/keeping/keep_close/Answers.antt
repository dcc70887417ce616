-- The pair and the zero behind it are the appended log.
use mathlib.Core.Path.{refl, ◌∙◌}
use Rattle.recall_log.proofs.Puts.{pair-appended}
use Rattle.rules.specs.Calls.{closes}
use Rattle.rules.specs.Card.{card_room}
use Rattle.recall_log.specs.Kept.{marked}
use Rattle.recall_log.proofs.keeping.keep_close.Goals as goal

pub returns : goal.returns
unfolding marked
returns c = c.keep_pair.ensures ∙ pair-appended (closes c.args.conn card_room) c.args.l.now c.requires refl

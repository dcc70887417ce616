-- Three bytes and 29 zeros, by computation.
use mathlib.Core.Path.{refl}
use Rattle.rules.specs.Card.{card_name}
use Rattle.recall_answers.proofs.channel.Goals as goal

pub returns : goal.returns
unfolding card_name
returns c = rw c.copy_from_slice.ensures.after refl

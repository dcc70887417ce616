-- What the library moves is what is kept.
-- Rests on proofs/Input.
use Rattle.std.proofs.Common.{◌∙◌, arith}
use Rattle.card.proofs.Input.{moved-within}
use Rattle.card.proofs.keep.Goals as goal

pub returns : goal.returns
returns c = c.copy_within.ensures.after ∙ moved-within c.args.used c.args.end _ (omega arith) (omega arith)

-- Rests on proofs/Bytes: the library's word is the definition's.
use mathlib.Core.Path.{◌∙◌}
use Rattle.judge.proofs.Bytes.{starts-begins}
use Rattle.judge.proofs.turns.begins_with.Goals as goal

pub returns : goal.returns
returns c = c.starts_with.ensures.value ∙ starts-begins c.args.w.now c.args.d.now

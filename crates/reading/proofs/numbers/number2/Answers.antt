-- The number is split in two bytes by the law over the width.
use mathlib.Core.Path.{sym, ◌∙◌}
use Rattle.reading.proofs.Widths.{two_bytes}
use Rattle.reading.proofs.numbers.number2.Goals as goal

pub returns : goal.returns
returns c = c.from_be_bytes.ensures ∙ sym (two_bytes c.args.at c.args.l.now c.requires)

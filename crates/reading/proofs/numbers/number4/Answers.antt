-- The number is split in two halves, and each in two bytes, by the law over the width.
use mathlib.Core.Path.{sym, ◌∙◌}
use native.Mathlib.Omega.{arith}
use Rattle.reading.proofs.Widths.{four_bytes}
use Rattle.reading.proofs.numbers.number4.Goals as goal

pub returns : goal.returns
returns c = c.from_be_bytes.ensures ∙ omega arith ∙ sym (four_bytes c.args.at c.args.l.now c.requires)

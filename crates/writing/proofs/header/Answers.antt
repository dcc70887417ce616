-- `header` meets its contract: six parts, each directly behind the last (`row_next`).
use mathlib.Core.Path.{refl, ap, ◌∙◌}
use Rattle.rules.specs.Bytes.{written}
use native.Mathlib.Omega.{arith}
use Rattle.writing.proofs.Parts.{header-parts, row-bytes, row_first}
use Rattle.writing.proofs.header.Goals as goal

pub returns : goal.returns
returns c =
    let w0 = row_first 1 0x52 c.put1.ensures in
    let w1 = row-bytes 1 c.args.conn w0 c.put1-2.ensures (omega (arith, c.requires)) in
    let w2 = row-bytes 2 c.args.id w1 c.put2.ensures (omega (arith, c.requires)) in
    let w3 = row-bytes 2 c.args.size w2 c.put2-2.ensures (omega (arith, c.requires)) in
    let w4 = row-bytes 2 c.args.res w3 c.put2-3.ensures (omega (arith, c.requires)) in
    let w5 = row-bytes 2 0xFFFF w4 c.put2-4.ensures (omega (arith, c.requires)) in
    record { out_after = w5.is ∙ ap (written c.args.out.now 0) (header-parts c.args.conn c.args.id c.args.size c.args.res); length = refl }

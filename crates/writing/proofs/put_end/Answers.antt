-- `put_end` meets its contract: six parts (`row_next`), which are the descriptor (`end-parts`).
use mathlib.Core.Path.{ap, ◌∙◌}
use Rattle.rules.specs.Bytes.{written}
use native.Mathlib.Omega.{arith}
use Prim.Native.Nat.{◌/◌}
use Rattle.writing.proofs.Parts.{end-parts, row-bytes, row_first}
use Rattle.writing.proofs.put_end.Goals as goal

pub returns : goal.returns
returns c =
    let w0 = row_first 2 0x010E c.put2.ensures in
    let w1 = row-bytes 4 0x43415244 w0 c.put4.ensures (omega (arith, c.requires)) in
    let w2 = row-bytes 4 c.args.event w1 c.put4-2.ensures (omega (arith, c.requires)) in
    let w3 = row-bytes 1 (c.args.ended / 256) w2 c.put1.ensures (omega (arith, c.requires)) in
    let w4 = row-bytes 1 c.args.ended w3 c.put1-2.ensures (omega (arith, c.requires)) in
    let w5 = row-bytes 4 c.args.played w4 c.put4-3.ensures (omega (arith, c.requires)) in
    w5.is ∙ ap (written c.args.out.now 0) (end-parts c.args.event c.args.ended c.args.played)

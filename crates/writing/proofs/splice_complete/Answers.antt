-- `splice_complete` meets its contract: the header and four parts of data (`row_next`), which are the record (`complete-parts`).
use native.Mathlib.Omega.{arith}
use Rattle.writing.proofs.Parts.{complete-parts, row-bytes, row-header, row_wrote}
use Rattle.writing.proofs.splice_complete.Goals as goal

pub returns : goal.returns
returns c =
    let w0 = row-header c.args.conn 0x0009 13 c.args.res c.header-len.ensures.out_after in
    let w1 = row-bytes 4 c.args.id w0 c.put4.ensures (omega (arith, c.requires)) in
    let w2 = row-bytes 1 c.args.flag w1 c.put1.ensures (omega (arith, c.requires)) in
    let w3 = row-bytes 4 0 w2 c.put4-2.ensures (omega (arith, c.requires)) in
    let w4 = row-bytes 4 c.args.played.0 w3 c.put4-3.ensures (omega (arith, c.requires)) in
    row_wrote w4 (complete-parts c.args.conn c.args.res c.args.id c.args.flag c.args.played.0)
    c.header-len.ensures.length c.requires

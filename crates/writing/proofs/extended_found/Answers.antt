-- `extended_found` meets its contract: the header and two parts of data (`row_next`), which are the record (`found-parts`).
use native.Mathlib.Omega.{arith}
use Rattle.writing.proofs.Parts.{found-parts, length-end, row-bytes, row-header, row_next, row_wrote}
use Rattle.writing.proofs.extended_found.Goals as goal

pub returns : goal.returns
returns c =
    let w0 = row-header c.args.conn 0x0004 20 100 c.header-len.ensures.out_after in
    let w1 = row-bytes 4 c.args.id w0 c.put4.ensures (omega (arith, c.requires)) in
    let w2 = row_next _ (length-end c.args.event c.args.ended c.args.played) w1 c.put_end.ensures (omega (arith, c.requires))
    in
    row_wrote w2 (found-parts c.args.conn c.args.id c.args.event c.args.ended c.args.played) c.header-len.ensures.length
    c.requires

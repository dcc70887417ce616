-- `init_response` meets its contract: the header, Revision_Num and the name (`row_next`), which are the record (`init-parts`).
use native.Mathlib.Omega.{arith}
use Rattle.writing.proofs.Parts.{init-parts, row-bytes, row-header, row_next, row_wrote}
use Rattle.writing.proofs.init_response.Goals as goal

pub returns : goal.returns
returns c =
    let w0 = row-header c.args.conn 0x0002 34 c.args.res c.header-len.ensures.out_after in
    let w1 = row-bytes 2 2 w0 c.put2.ensures (omega (arith, c.requires)) in
    let w2 = row_next c.args.name.now c.requires.name_len w1 c.copy_name.ensures (omega (arith, c.requires)) in
    row_wrote w2 (init-parts c.args.conn c.args.res c.args.name.now c.requires.name_len c.requires.name_value) c.header-len.ensures.length
    c.requires.in_bounds

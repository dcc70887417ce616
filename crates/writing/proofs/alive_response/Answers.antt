-- `alive_response` meets its contract: the header and three parts of data (`row_next`), which are the record (`alive-parts`).
use native.Mathlib.Omega.{arith}
use Rattle.writing.proofs.Parts.{alive-parts, length-time, row-bytes, row-header, row_next, row_wrote}
use Rattle.writing.proofs.alive_response.Goals as goal

pub returns : goal.returns
returns c =
    let w0 = row-header c.args.conn 0x0006 16 100 c.header-len.ensures.out_after in
    let w1 = row-bytes 4 c.args.state w0 c.put4.ensures (omega (arith, c.requires)) in
    let w2 = row-bytes 4 c.args.id w1 c.put4-2.ensures (omega (arith, c.requires)) in
    let w3 = row_next _ (length-time c.args.time.0) w2 c.put_time.ensures (omega (arith, c.requires)) in
    row_wrote w3 (alive-parts c.args.conn c.args.state c.args.id c.args.time.0) c.header-len.ensures.length c.requires

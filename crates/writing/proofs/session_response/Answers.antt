-- `session_response` meets its contract: the header says 4 bytes of data, and the SessionID is these.
use mathlib.Core.Path.{sym}
use Rattle.rules.specs.Bytes.{bytes}
use Rattle.rules.proofs.Bytes.{length-bytes}
use native.Mathlib.Omega.{arith}
use Rattle.writing.proofs.Parts.{framed-header, row-bytes, row-header, row_wrote}
use Rattle.writing.proofs.session_response.Goals as goal

pub returns : goal.returns
returns c =
    let w0 = row-header c.args.conn c.args.id 4 c.args.res c.header-len.ensures.out_after in
    let w1 = row-bytes 4 c.args.session w0 c.put4.ensures (omega (arith, c.requires)) in
    row_wrote w1 (framed-header c.args.conn c.args.id 4 c.args.res (bytes 4 c.args.session)
    (sym (length-bytes 4 c.args.session))) c.header-len.ensures.length c.requires

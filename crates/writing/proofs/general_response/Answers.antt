-- `general_response` meets its contract: the record is its header alone.
use Rattle.writing.proofs.Parts.{general-parts, row-header, row_wrote}
use Rattle.writing.proofs.general_response.Goals as goal

pub returns : goal.returns
returns c =
    row_wrote (row-header c.args.conn 0x0000 0 c.args.res c.header.ensures.out_after)
    (general-parts c.args.conn c.args.res) c.header.ensures.length c.requires

-- `cue_request` meets its contract: the header, the time's two numbers and the section (`row_next`), which are the record (`cue-parts`).
use mathlib.Core.Path.{refl}
use Prim.Native.Nat.{◌+◌}
use lib.ListN.{length}
use native.Mathlib.Omega.{arith}
use Rattle.writing.proofs.Parts.{cue-parts, row-bytes, row-header, row_next, row_wrote}
use Rattle.writing.proofs.cue_request.Goals as goal

pub returns : goal.returns
returns c =
    let w0 = row-header c.args.conn 0x000C (8 + length c.args.section.now) 0xFFFF c.header-len.ensures.out_after in
    let w1 = row-bytes 4 c.args.time.seconds w0 c.put4.ensures (omega (arith, c.requires.section_in_bounds)) in
    let w2 = row-bytes 4 c.args.time.micros w1 c.put4-2.ensures (omega (arith, c.requires.section_in_bounds)) in
    let w3 = row_next c.args.section.now refl w2 c.copy.ensures c.requires.section_in_bounds in
    let q = cue-parts c.args.conn c.args.time.seconds c.args.time.micros c.args.section.now in
    row_wrote w3 q (omega (arith, c.header-len.ensures.length)) c.requires.section_in_bounds

-- The header, the name, the structure and the section (`row_next`), which are the record (`config-parts`).
use mathlib.Core.Path.{◌≡◌, refl}
use native.Mathlib.Omega.{arith}
use Prim.Native.Nat.{◌+◌, ◌-◌}
use lib.ListN.{length}
use Rattle.writing.proofs.Parts.{config-parts, row-header, row_next, row_wrote}
use Rattle.writing.proofs.config_response.Goals as goal

pub returns : goal.returns
returns c =
    let name = c.args.name.now in
    let h = c.args.hardware.now in
    let m = c.args.section.now in
    let long : length name ≡ 32 = c.requires.name_len in
    let w0 = row-header c.args.conn 0x000B (42 + length h + length m - 10) 100 c.header-len.ensures.out_after in
    let w1 = row_next name long w0 c.copy.ensures (omega (arith, c.requires.section_in_bounds)) in
    let w2 = row_next h refl w1 c.copy-2.ensures (omega (arith, c.requires.section_in_bounds)) in
    let w3 = row_next m refl w2 c.copy-3.ensures (omega (arith, c.requires.section_in_bounds)) in
    let q = config-parts c.args.conn (42 + length h + length m - 10) name h m (omega arith) long c.requires.name_value in
    row_wrote w3 q (omega (arith, c.header-len.ensures.length)) (omega (arith, c.requires.section_in_bounds))

-- Four parts, one directly behind the other (`written_next`), are the structure (`row_is`).
use mathlib.Core.List.{◌++◌}
use mathlib.Core.Path.{ap, ◌∙◌}
use Prim.Native.Nat.{◌+◌, ◌-◌}
use native.Mathlib.Omega.{arith}
use borrow.Rule.Slice.PartMut.{mid_of}
use lib.ListN.{get_or, length-append, length-take}
use Rattle.rules.specs.Bytes.{bytes, written}
use Rattle.rules.proofs.Bytes.{length-bytes}
use Rattle.rules.proofs.Written.{written_next}
use Rattle.streams.proofs.Laws.{row_is}
use Rattle.streams.proofs.put_row.Goals as goal

pub returns : goal.returns
returns c =
    let e = c.args.out.now in
    let w = c.args.w.now in
    let k = c.args.k.now in
    let b0 = bytes 1 (21 + get_or w 7 0) ++ bytes 2 (get_or w 0 0) ++ bytes 2 (get_or w 1 0) in
    let b1 = bytes 4 (get_or w 2 0) ++ bytes 4 (get_or w 3 0) ++ bytes 4 (get_or w 4 0) in
    let b2 = bytes 2 (get_or w 5 0) ++ bytes 2 (get_or w 6 0) in
    let b3 = mid_of 0 (get_or w 7 0 - 0) k in
    let w1 = written_next e 0 b0 b1 c.put_ids.new.out
    c.put_rates.new.out 5 c.put_ids.ensures
    (simp (length-append, length-bytes)) (simp (length-append, length-bytes) (omega (arith, c.requires.room)))
    c.put_rates.ensures in
    let w2 = written_next e 0 (b0 ++ b1) b2 _ c.put_picture.new.out 17 w1
    (simp (length-append, length-bytes)) (simp (length-append, length-bytes) (omega (arith, c.requires.room)))
    c.put_picture.ensures in
    let w3 = written_next e 0 (b0 ++ b1 ++ b2) b3 _ c.copy.new.out 21 w2 (simp (length-append, length-bytes))
    (simp length-take (omega (arith, c.requires.room))) c.copy.ensures in
    w3 ∙ ap (written e 0) (row_is w k c.requires.kept)

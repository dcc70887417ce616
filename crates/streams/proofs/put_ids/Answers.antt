-- Three parts, one directly behind the other (`written_next`).
use mathlib.Core.List.{◌++◌}
use native.Mathlib.Omega.{arith}
use lib.ListN.{length-append}
use Rattle.rules.specs.Bytes.{bytes}
use Rattle.rules.proofs.Bytes.{length-bytes}
use Rattle.rules.proofs.Written.{written_next}
use Rattle.streams.proofs.put_ids.Goals as goal

pub returns : goal.returns
returns c =
    let e = c.args.out.now in
    let b0 = bytes 1 c.args.size in
    let b1 = bytes 2 c.args.pid in
    let b2 = bytes 2 c.args.kind in
    let w1 = written_next e 0 b0 b1 c.put1.new.out c.put2.new.out 1
    c.put1.ensures (simp length-bytes) (simp length-bytes (omega (arith, c.requires)))
    c.put2.ensures in
    written_next e 0 (b0 ++ b1) b2 _ c.put2-2.new.out 3 w1 (simp (length-append, length-bytes))
    (simp length-bytes (omega (arith, c.requires))) c.put2-2.ensures

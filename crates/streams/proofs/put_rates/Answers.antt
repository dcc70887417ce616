-- Three parts, one directly behind the other (`written_next`).
use mathlib.Core.List.{◌++◌}
use native.Mathlib.Omega.{arith}
use lib.ListN.{length-append}
use Rattle.rules.specs.Bytes.{bytes}
use Rattle.rules.proofs.Bytes.{length-bytes}
use Rattle.rules.proofs.Written.{written_next}
use Rattle.streams.proofs.put_rates.Goals as goal

pub returns : goal.returns
returns c =
    let e = c.args.out.now in
    let b0 = bytes 4 c.args.avg in
    let b1 = bytes 4 c.args.max in
    let b2 = bytes 4 c.args.min in
    let w1 = written_next e 0 b0 b1 c.put4.new.out c.put4-2.new.out
    4 c.put4.ensures (simp length-bytes) (simp length-bytes (omega (arith, c.requires)))
    c.put4-2.ensures in
    written_next e 0 (b0 ++ b1) b2 _ c.put4-3.new.out 8 w1 (simp (length-append, length-bytes))
    (simp length-bytes (omega (arith, c.requires))) c.put4-3.ensures

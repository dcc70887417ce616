-- Two parts, one directly behind the other (`written_next`).
use native.Mathlib.Omega.{arith}
use Rattle.rules.specs.Bytes.{bytes}
use Rattle.rules.proofs.Bytes.{length-bytes}
use Rattle.rules.proofs.Written.{written_next}
use Rattle.streams.proofs.put_picture.Goals as goal

pub returns : goal.returns
returns c =
    let e = c.args.out.now in
    let b0 = bytes 2 c.args.width in
    let b1 = bytes 2 c.args.height in
    written_next e 0 b0 b1 c.put2.new.out c.put2-2.new.out 2
    c.put2.ensures (simp length-bytes) (simp length-bytes (omega (arith, c.requires)))
    c.put2-2.ensures

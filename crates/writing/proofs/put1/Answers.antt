-- `put1` meets its contract: the stores, one behind the other, are the number's bytes (`sets-eq`).
use native.Mathlib.Omega.{arith}
use lib.Seq.{sets-eq}
use Rattle.rules.specs.Bytes.{bytes, written}
use Rattle.writing.proofs.put1.Goals as goal

pub returns : goal.returns
unfolding bytes written
returns c = sets-eq (bytes 1 c.args.x) c.args.out.now 0 (omega arith)

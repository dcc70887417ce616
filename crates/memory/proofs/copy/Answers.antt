-- Byte by byte (`copied`).
use mathlib.Core.Path.{◌≡◌}
use native.Mathlib.Omega.{arith}
use lib.Seq.{paste-zero}
use Rattle.memory.proofs.Names.{copied}
use borrow.Author.Rules.{rules}
use Rattle.memory.proofs.copy.Goals as goal

pub loop-i-init : goal.loop-i-init
loop-i-init c = (omega arith, paste-zero c.args.b.now 0 c.args.name.now)

pub loop-i-preserved : goal.loop-i-preserved
loop-i-preserved c =
    let l = c.loop-i in
    (search rules, copied c.args.b.now c.args.name.now l.i l.b (omega arith) (omega arith) l.invariant.1)

pub returns : goal.returns
returns c =
    let l = c.loop-i in
    let e : l.i ≡ c.args.n = omega arith in
    rw e at l.invariant.1

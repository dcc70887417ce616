use mathlib.Core.Path.{◌≡◌, ◌∙◌}
use native.Mathlib.Omega.{arith}
use lib.ListN.{length}
use Rattle.memory.proofs.Names.{passed-more, passed-zero, passed-all}
use Rattle.memory.proofs.name_len.Goals as goal

pub returns-then-b-eq0 : goal.returns-then-b-eq0
returns-then-b-eq0 c =
    let l = c.loop-i in
    passed-zero c.args.name.now l.i (omega arith) c.if-b-eq0.true l.invariant

pub loop-i-preserved : goal.loop-i-preserved
loop-i-preserved c =
    let l = c.loop-i in
    passed-more c.args.name.now l.i (omega arith) c.if-b-eq0.false l.invariant

pub returns : goal.returns
returns c =
    let l = c.loop-i in
    let e : length c.args.name.now ≡ l.i = omega (arith, l.invariant.0) in
    e ∙ passed-all c.args.name.now l.i (omega arith) l.invariant

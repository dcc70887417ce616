-- Each return is one line of the definition (`init-revision`, `init-name`).
use mathlib.Core.Path.{ap}
use mathlib.Core.Bool.{not}
use mathlib.Core.Bool.{true, false}
use native.Mathlib.Omega.{arith}
use Rattle.answers.proofs.Laws.{init-revision, init-name}
use Rattle.answers.proofs.init_result.Goals as goal

pub returns-then-revision-ne2 : goal.returns-then-revision-ne2
returns-then-revision-ne2 c =
    init-revision c.args.revision c.args.asked.now c.args.name.now c.if-revision-ne2.true

pub returns-then-not-same_name : goal.returns-then-not-same_name
returns-then-not-same_name c =
    init-name c.args.revision c.args.asked.now c.args.name.now c.same_name.result true (omega arith)
    c.same_name.ensures (ap not c.if-not-same_name.true)

pub returns : goal.returns
returns c =
    init-name c.args.revision c.args.asked.now c.args.name.now c.same_name.result false (omega arith)
    c.same_name.ensures (ap not c.if-not-same_name.false)

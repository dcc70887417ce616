-- Each return is one law of proofs/Calls.
use mathlib.Core.Path.{ap}
use native.Mathlib.Omega.{arith}
use Rattle.rules.specs.State.{is_open}
use Rattle.recall_pass.proofs.Calls.{not-closed, plays-as, open-bad, open_twice, open_done}
use Rattle.recall_pass.proofs.open.Goals as goal

pub returns-then-conn-gt3 : goal.returns-then-conn-gt3
returns-then-conn-gt3 c = λ m e f l. open-bad c.args.conn c.args.h m e f l (omega arith)

pub returns-in_default : goal.returns-in_default
returns-in_default c =
    λ m e f l. open_twice c.args.conn c.args.h m e f l _ (omega arith) c.link_of.ensures (not-closed _ c.in_default.not-Closed)

pub returns : goal.returns
returns c =
    λ m e f l. plays-as c.unmoved.ensures (open_done c.args.conn c.args.h m e f l _ (omega arith) c.link_of.ensures
    (ap is_open c.in-Closed.is) c.linked.ensures)

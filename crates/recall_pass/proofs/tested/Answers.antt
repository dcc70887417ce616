-- Each return is one law of proofs/Calls: the tests in their order.
use mathlib.Core.Path.{ap, ◌∙◌}
use native.Mathlib.Omega.{arith}
use Rattle.rules.specs.State.{is_open}
use Rattle.recall_pass.proofs.Calls.{not-closed, link-is, tested-none, tested-small, tested-shut, tested-good}
use Rattle.recall_pass.proofs.tested.Goals as goal

pub returns-then-conn-gt3 : goal.returns-then-conn-gt3
returns-then-conn-gt3 c = λ hardware m. tested-none c.args.conn c.args.room _ (omega arith)

pub returns-then-room-lt4096 : goal.returns-then-room-lt4096
returns-then-room-lt4096 c = λ hardware m. tested-small c.args.conn c.args.room _ (omega arith) (omega arith)

pub returns-in-Closed : goal.returns-in-Closed
returns-in-Closed c =
    λ hardware m.
    tested-shut c.args.conn c.args.room _ (omega arith) (omega arith)
    (ap is_open (link-is hardware c.args.h m c.args.conn c.link_of.ensures ∙ c.in-Closed.is))

pub returns : goal.returns
returns c =
    λ hardware m.
    tested-good c.args.conn c.args.room _ (omega arith) (omega arith)
    (ap is_open (link-is hardware c.args.h m c.args.conn c.link_of.ensures) ∙ not-closed _ c.in_default.not-Closed)

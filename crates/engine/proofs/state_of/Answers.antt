-- By which list it is, and of the started by whether it is the first.
use native.Mathlib.Omega.{arith}
use Rattle.engine.proofs.Listed.{state-first, state-other, state-waits}
use Rattle.engine.proofs.state_of.Goals as goal

pub returns-in-Waiting-default-clause-value : goal.returns-in-Waiting-default-clause-value
returns-in-Waiting-default-clause-value c = state-waits c.args.which c.args.at c.in-Waiting-default.is-0

pub returns-in-Started-eq0-clause-value : goal.returns-in-Started-eq0-clause-value
returns-in-Started-eq0-clause-value c = state-first c.args.which c.args.at c.in-Started-eq0.is-0 c.in-Started-eq0.is-1

pub returns-in-Started-default-clause-value : goal.returns-in-Started-default-clause-value
returns-in-Started-default-clause-value c =
    state-other c.args.which c.args.at c.in-Started-default.is-0 (omega (arith, c.in-Started-default.is-1))

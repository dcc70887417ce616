-- Field by field; a Duration is at most 100 * 0xFFFFFFFF ninths, so that the end fits.
use mathlib.Core.Path.{ap}
use native.Mathlib.Omega.{arith}
use Rattle.checks.proofs.Laws.{session-is}
use Rattle.checks.proofs.session_at.Goals as goal

pub overflow_add-result : goal.overflow_add-result
overflow_add-result c = omega (arith, ap (λ n. n.0) c.from_ticks-d.ensures)

pub returns : goal.returns
returns c =
    session-is c.args.t c.args.conn c.args.r c.prior_of-prior.ensures c.from_ticks-d.ensures

-- The length alone decides (`forgets-full`, `forgets-all`).
use Rattle.recall_log.proofs.Logs as logs
use Rattle.recall.proofs.Calls.{forgets-full, forgets-all}
use native.Mathlib.Omega.{arith}
use Rattle.recall.proofs.fresh.Goals as goal

pub returns-then-log-ne-LOG : goal.returns-then-log-ne-LOG
returns-then-log-ne-LOG c =
    let if1 = c.if-log-ne-LOG in
    forgets-full c.args.log.now (logs.other_length_lem c.args.log.now (λ e. absurd (if1.true e)))

pub returns : goal.returns
returns c =
    let if1 = c.if-log-ne-LOG in
    let clear = c.clear in
    forgets-all (logs.same_length c.args.log.now (omega (arith, if1.false))) c.unmoved.ensures clear.ensures

-- Each return is one law of proofs/Calls: the tests in their order.
use mathlib.Core.Path.{◌∙◌}
use Rattle.std.proofs.lemmas.Result.{err_from_is_err_and}
use Rattle.recall_pass.proofs.Calls.{framed-bad, framed-long, framed-past}
use Rattle.recall_pass.proofs.framed.Goals as goal

pub returns-in_err-tested : goal.returns-in_err-tested
returns-in_err-tested c =
    let p = err_from_is_err_and c.from_residual.result c.from_residual.ensures.1 in
    λ hardware m.
    rw (p.1, p.2) (framed-bad c.args.conn c.args.l.now c.args.room c.args.is_long hardware c.args.h m (c.tested.ensures hardware m)
    c.in_err-tested.was)

pub returns-then-is_long : goal.returns-then-is_long
returns-then-is_long c =
    λ hardware m.
    framed-long c.args.conn c.args.l.now c.args.room c.args.is_long hardware c.args.h m (c.tested.ensures hardware m)
    c.in_ok-tested.was c.if-is_long.true

pub returns : goal.returns
returns c =
    λ hardware m.
    c.frame.ensures ∙ framed-past c.args.conn c.args.l.now c.args.room c.args.is_long hardware c.args.h m (c.tested.ensures hardware m)
    c.in_ok-tested.was c.if-is_long.false

-- Something is still due, or the call is made.
-- Rests on proofs/Going: a call that is played is the definition's.
use mathlib.Core.Path.{sym, ◌∙◌}
use native.Mathlib.Omega.{arith}
use borrow.Author.Tests.{ltb-true, ltb-false}
use Rattle.judge.proofs.Going.{made_some, call-unmet, call-on}
use Rattle.judge.proofs.turns.called.Goals as goal

pub returns-then-is_unmet : goal.returns-then-is_unmet
returns-then-is_unmet c =
    let g = c.args.g in
    call-unmet g c.args.l.now c.args.m.now c.args.b.now c.args.due.now c.requires.stands c.args.n c.requires.l_value
    (ltb-true g.from g.end (sym c.is_unmet.ensures ∙ c.if-is_unmet.true))

pub overflow_add-s : goal.overflow_add-s
overflow_add-s c =
    let some = made_some c.args.l.now c.args.n c.requires.l_value in
    omega (arith, c.requires.stands.few)

pub returns : goal.returns
returns c =
    let g = c.args.g in
    call-on g c.args.l.now c.args.m.now c.args.b.now c.args.due.now c.requires.stands c.args.n c.requires.l_value
    c.made-end.ensures
    (ltb-false g.from g.end (sym c.is_unmet.ensures ∙ c.if-is_unmet.false))

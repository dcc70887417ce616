-- Something is still due, or the call is made.
-- Rests on proofs/Steps.
use Rattle.follow.proofs.Steps.{with-stage, call-wrong, call_at}
use Rattle.follow.proofs.called.Goals as goal

pub returns-then-s : goal.returns-then-s
returns-then-s c =
    with-stage c.as_told.ensures
    (call-wrong c.args.s _ _ _ _ c.requires.stands c.requires.told_value c.args.n c.requires.l_value c.if-s.true)

pub made-end-requires : goal.made-end-requires
made-end-requires c = c.requires.stands.lent

pub returns : goal.returns
returns c =
    call_at c.args.s _ _ _ _ c.requires.stands c.requires.told_value c.args.n c.requires.l_value c.made-end.ensures
    c.wrapping_add_usize.ensures.value c.wrapping_add_usize-2.ensures.value c.if-s.false

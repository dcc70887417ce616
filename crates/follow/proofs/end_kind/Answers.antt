-- Each case is the definition's.
-- Rests on proofs/Saying.
use Rattle.follow.proofs.Saying.{end-told, end-cut, end-due, end-met}
use Rattle.follow.proofs.end_kind.Goals as goal

pub returns-then-s-ne-IN_ORDER : goal.returns-then-s-ne-IN_ORDER
returns-then-s-ne-IN_ORDER c = end-told c.args.s c.if-s-ne-IN_ORDER.true

pub returns-then-s-ne0 : goal.returns-then-s-ne0
returns-then-s-ne0 c = end-cut c.args.s c.if-s-ne-IN_ORDER.false c.if-s-ne0.true

pub returns-then-s : goal.returns-then-s
returns-then-s c = end-due c.args.s c.if-s-ne-IN_ORDER.false c.if-s-ne0.false c.if-s.true

pub returns : goal.returns
returns c = end-met c.args.s c.if-s-ne-IN_ORDER.false c.if-s-ne0.false c.if-s.false

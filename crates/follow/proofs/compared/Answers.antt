-- The record is the beginning of what is due, or it is not.
-- Rests on proofs/Steps.
use Rattle.std.proofs.Common.{sym, ◌∙◌, arith, length-take-le}
use Rattle.judge.proofs.Going.{wrote-there}
use Rattle.follow.proofs.Steps.{with-stage, within-at, record-wrong, record-at}
use Rattle.follow.proofs.compared.Goals as goal

pub slice_bounds-begins_with-end : goal.slice_bounds-begins_with-end
slice_bounds-begins_with-end c =
    sym (length-take-le c.args.n c.args.l.now (wrote-there c.args.l.now c.args.n c.requires.l_value))

pub overflow_add-stage : goal.overflow_add-stage
overflow_add-stage c =
    let i = within-at c.args.s c.args.l.now c.args.due.now c.args.n c.requires.from_le_end c.requires.end_in_bounds c.requires.l_value
    (sym c.begins_with.ensures ∙ c.if-begins_with.true) in
    omega (arith, c.requires.end_in_bounds)

pub returns-then-begins_with : goal.returns-then-begins_with
returns-then-begins_with c m b h =
    record-at c.args.s c.args.l.now m b c.args.due.now h c.requires.told_value c.args.n c.requires.l_value
    c.wrapping_add_usize.ensures.value (sym c.begins_with.ensures ∙ c.if-begins_with.true)

pub returns : goal.returns
returns c m b h =
    with-stage c.as_told.ensures
    (record-wrong c.args.s c.args.l.now m b c.args.due.now h c.requires.told_value c.args.n c.requires.l_value
    (sym c.begins_with.ensures ∙ c.if-begins_with.false))

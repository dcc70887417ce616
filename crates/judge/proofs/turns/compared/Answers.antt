-- The record is the beginning of what is due, or it is not.
-- Rests on proofs/Going: so much is taken off.
use mathlib.Core.Path.{sym, ◌∙◌}
use mathlib.Core.List.{[]}
use native.Mathlib.Omega.{arith}
use lib.Seq.{length-take-le}
use Rattle.judge.proofs.Going.{wrote-there, record-wrong, record-within, record-on}
use Rattle.judge.proofs.turns.compared.Goals as goal

pub slice_bounds-begins_with-end : goal.slice_bounds-begins_with-end
slice_bounds-begins_with-end c =
    sym (length-take-le c.args.n c.args.l.now (wrote-there c.args.l.now c.args.n c.requires.l_value))

pub overflow_add-s : goal.overflow_add-s
overflow_add-s c =
    let i = record-within c.args.g c.args.l.now [] [] c.args.due.now c.requires.stands c.args.n c.requires.l_value
    (sym c.begins_with.ensures ∙ c.if-begins_with.true) in
    omega (arith, c.requires.stands.room)

pub returns-then-begins_with : goal.returns-then-begins_with
returns-then-begins_with c m b t =
    record-on c.args.g c.args.l.now m b c.args.due.now c.requires.stands c.args.n c.requires.l_value t
    (sym c.begins_with.ensures ∙ c.if-begins_with.true)

pub returns : goal.returns
returns c m b t =
    record-wrong c.args.g c.args.l.now m b c.args.due.now c.requires.stands c.args.n c.requires.l_value
    (sym c.begins_with.ensures ∙ c.if-begins_with.false)

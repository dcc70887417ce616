-- Each arm is the call of its record (`remembers-as`); a record that was read whole lies within the bytes (`record-within`).
-- Rests on what `recall` promises of each call.
use Rattle.std.proofs.Common.{Some, ap, ◌∙◌, length, arith}
use Rattle.recall_log.specs.Kept.{span_of}
use Rattle.remember.proofs.Plays.{quiet, record-within, remembers-as, open_is, close-is, tick_is, message-is, rest-is}
use Rattle.remember.proofs.call.Goals as goal

pub slice_bounds-message-end : goal.slice_bounds-message-end
unfolding span_of
slice_bounds-message-end c =
    let a = c.in-Some-Message in
    omega (arith, record-within c.args.l.now c.record_at.ensures (a.is ∙ ap (λ x. Some x) a.field-0-is))

pub returns-in-Some-Open : goal.returns-in-Some-Open
returns-in-Some-Open c =
    let a = c.in-Some-Open in
    remembers-as c.args.l.now c.record_at.ensures (a.is ∙ ap (λ x. Some x) a.field-0-is) (open_is c.args.l.now _)
    (quiet c.args.out.now c.open.ensures)

pub returns-in-Some-Close : goal.returns-in-Some-Close
returns-in-Some-Close c =
    let a = c.in-Some-Close in
    remembers-as c.args.l.now c.record_at.ensures (a.is ∙ ap (λ x. Some x) a.field-0-is)
    (close-is c.args.l.now _ (length c.args.out.now) c.requires.out_len) c.close.ensures

pub returns-in-Some-Message : goal.returns-in-Some-Message
returns-in-Some-Message c =
    let a = c.in-Some-Message in
    remembers-as c.args.l.now c.record_at.ensures (a.is ∙ ap (λ x. Some x) a.field-0-is) (message-is c.args.l.now a.c a.size)
    c.message.ensures

pub returns-in-Some-Tick : goal.returns-in-Some-Tick
returns-in-Some-Tick c =
    let a = c.in-Some-Tick in
    remembers-as c.args.l.now c.record_at.ensures (a.is ∙ ap (λ x. Some x) a.field-0-is)
    (tick_is c.args.l.now _ _ (length c.args.out.now) c.requires.out_len) c.tick.ensures

pub returns-in-None : goal.returns-in-None
returns-in-None c =
    remembers-as c.args.l.now c.record_at.ensures c.in-None.is (rest-is c.args.l.now c.requires.in_bounds) c.message-in-None.ensures

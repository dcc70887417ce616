-- Each return is one of 01's steps (`second` to `fifth`); the first and the third have no answer.
use mathlib.Core.Path.{ap}
use mathlib.Core.Bool.{not}
use mathlib.Core.Path.{refl}
use Rattle.answers.proofs.Laws.{second, third, fourth, fifth}
use Rattle.answers.proofs.answer.Goals as goal

pub returns-then-is_barred : goal.returns-then-is_barred
returns-then-is_barred c =
    rw c.unmoved.ensures
    (second c.requires.whole c.args.sent.conn c.args.sent.id c.args.d.now c.args.section.now
    c.link-link.ensures c.is_barred.ensures refl c.if-is_barred.true c.general.ensures)

pub returns-then-is_mute : goal.returns-then-is_mute
returns-then-is_mute c =
    rw c.unmoved-then-is_mute.ensures
    (third c.requires.whole c.args.sent.conn c.args.sent.id c.args.d.now c.args.section.now
    c.link-link.ensures c.is_barred.ensures c.is_mute.ensures c.if-is_barred.false c.if-is_mute.true)

pub returns-then-not-is_read : goal.returns-then-not-is_read
returns-then-not-is_read c =
    rw c.unmoved-then-not-is_read.ensures
    (fourth c.requires.whole c.args.sent.conn c.args.sent.id c.args.d.now c.args.section.now
    c.link-link.ensures c.is_barred.ensures c.is_mute.ensures c.if-is_barred.false c.if-is_mute.false
    c.is_read.ensures (ap not c.if-not-is_read.true) c.general-then-not-is_read.ensures)

pub returns : goal.returns
returns c =
    fifth c.requires.whole c.args.sent.conn c.args.sent.id c.args.d.now c.args.section.now
    c.link-link.ensures c.is_barred.ensures c.is_mute.ensures c.if-is_barred.false c.if-is_mute.false
    c.is_read.ensures (ap not c.if-not-is_read.false)
    c.answer_read.ensures

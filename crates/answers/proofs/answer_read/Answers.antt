-- The message that was read decides, and each part promises its answer (`reads`).
use Rattle.rules.specs.Answers.{answer_read}
use mathlib.Core.Path.{sym, ◌∙◌, ap}
use Rattle.std.specs.Prelude.{Some}
use native.Mathlib.Omega.{arith}
use Rattle.rules.specs.Follows.Wires.{Byte}
use Rattle.rules.proofs.All.{all-at}
use Rattle.rules.proofs.Readings.{splice-grants}
use Rattle.memory.specs.Memory.{shown}
use Rattle.reading.proofs.Laws.{init-good}
use Rattle.answers.proofs.Laws.{said, turned, spliced, reads}
use Rattle.answers.proofs.answer_read.Goals as goal

pub answer_init-requires : goal.answer_init-requires
answer_init-requires c =
    let e = sym c.read.ensures ∙ (c.in-Some-Init.is ∙ ap Some c.in-Some-Init.field-0-is) in
    record {
      whole = c.requires.whole;
      conn_bound = c.requires.conn_bound;
      d_value = init-good c.args.sent.id c.args.d.now _ e;
      in_bounds = omega (arith, c.requires.in_bounds);
    }

pub answer_splice-requires : goal.answer_splice-requires
answer_splice-requires c =
    let e = sym c.read.ensures ∙ (c.in-Some-Splice.is ∙ ap Some c.in-Some-Splice.field-0-is) in
    let a = all-at Byte 0 c.args.d.now (λ i. omega (arith, c.type_inv.d i)) in
    let asked = splice-grants c.args.d.now a c.args.sent.id _ e in
    record {
      form = c.requires.whole.words;
      holding = c.requires.sound.holding;
      m_bound = c.requires.sound.clock;
      conn_bound = c.requires.conn_bound;
      asked = asked;
      in_bounds = c.requires.in_bounds;
    }

pub returns-in-Some-Init : goal.returns-in-Some-Init
unfolding answer_read
returns-in-Some-Init c =
    rw c.unmoved.ensures
    (reads (shown c.args.m.now c.args.b.now) c.args.sent.conn c.args.sent.id c.args.d.now c.args.section.now
    c.read.ensures (c.in-Some-Init.is ∙ ap Some c.in-Some-Init.field-0-is)
    c.answer_init.ensures)

pub returns-in-Some-Alive : goal.returns-in-Some-Alive
unfolding answer_read
returns-in-Some-Alive c =
    rw c.unmoved-in-Some-Alive.ensures
    (reads (shown c.args.m.now c.args.b.now) c.args.sent.conn c.args.sent.id c.args.d.now c.args.section.now
    c.read.ensures (c.in-Some-Alive.is ∙ ap Some c.in-Some-Alive.field-0-is)
    (said c.requires.whole c.answer_alive.ensures))

pub returns-in-Some-Splice : goal.returns-in-Some-Splice
unfolding answer_read
returns-in-Some-Splice c =
    reads (shown c.args.m.now c.args.b.now) c.args.sent.conn c.args.sent.id c.args.d.now c.args.section.now
    c.read.ensures (c.in-Some-Splice.is ∙ ap Some c.in-Some-Splice.field-0-is)
    (spliced c.requires.whole c.answer_splice.ensures)

pub returns-in-Some-Abort : goal.returns-in-Some-Abort
unfolding answer_read
returns-in-Some-Abort c =
    rw c.unmoved-in-Some-Abort.ensures
    (reads (shown c.args.m.now c.args.b.now) c.args.sent.conn c.args.sent.id c.args.d.now c.args.section.now
    c.read.ensures (c.in-Some-Abort.is ∙ ap Some c.in-Some-Abort.field-0-is)
    (turned c.requires.whole c.answer_abort.ensures))

pub returns-in-Some-Extended : goal.returns-in-Some-Extended
unfolding answer_read
returns-in-Some-Extended c =
    rw c.unmoved-in-Some-Extended.ensures
    (reads (shown c.args.m.now c.args.b.now) c.args.sent.conn c.args.sent.id c.args.d.now c.args.section.now
    c.read.ensures (c.in-Some-Extended.is ∙ ap Some c.in-Some-Extended.field-0-is)
    (said c.requires.whole c.answer_extended.ensures))

pub returns-in-Some-Config : goal.returns-in-Some-Config
unfolding answer_read
returns-in-Some-Config c =
    rw c.unmoved-in-Some-Config.ensures
    (reads (shown c.args.m.now c.args.b.now) c.args.sent.conn c.args.sent.id c.args.d.now c.args.section.now
    c.read.ensures (c.in-Some-Config.is ∙ ap Some c.in-Some-Config.field-0-is)
    (said c.requires.whole c.answer_config.ensures))

pub returns-in-None : goal.returns-in-None
unfolding answer_read
returns-in-None c =
    rw c.unmoved-in-None.ensures
    (reads (shown c.args.m.now c.args.b.now) c.args.sent.conn c.args.sent.id c.args.d.now c.args.section.now
    c.read.ensures c.in-None.is
    (said c.requires.whole c.general.ensures))

-- The message that was read decides, and each part promises its answer (`reads`).
use mathlib.Core.Path.{refl, sym, ◌∙◌, ap}
use Rattle.std.specs.Prelude.{Some}
use native.Mathlib.Omega.{arith}
use borrow.Author.Tests.{le-ltb}
use Rattle.rules.specs.Follows.Wires.{Byte}
use Rattle.rules.proofs.All.{all-at}
use Rattle.rules.proofs.Readings.{splice-grants}
use Rattle.reading.proofs.Laws.{init-good}
use Rattle.recall_rules.specs.Calls.{alive_response, answer_read}
use Rattle.recall_requests.proofs.Rooms.{abort-room}
use Rattle.recall_answers.proofs.Laws.{turned, told, reads, configures}
use Rattle.recall_answers.proofs.answer_read.Goals as goal

pub answer_init-requires : goal.answer_init-requires
answer_init-requires c =
    let read = c.read in
    record {
      d_value = init-good c.args.id c.args.d.now _ (sym read.ensures ∙ (c.in-Some-Init.is ∙ ap Some c.in-Some-Init.field-0-is));
      in_bounds = omega
          (arith, c.requires.in_bounds);
    }

pub answer_alive-requires : goal.answer_alive-requires
answer_alive-requires c =
    omega (arith, c.requires.in_bounds)

pub answer_splice-requires : goal.answer_splice-requires
answer_splice-requires c =
    let read = c.read in
    let a = all-at Byte 0 c.args.d.now (λ i. omega (arith, c.type_inv.d i)) in
    let asked = splice-grants c.args.d.now a c.args.id _ (sym read.ensures ∙ (c.in-Some-Splice.is ∙ ap Some c.in-Some-Splice.field-0-is)) in
    record { keeps = c.requires.keeps; clock_lt_horizon = c.requires.clock_lt_horizon; asked = asked; in_bounds = c.requires.in_bounds }

pub answer_abort-requires : goal.answer_abort-requires
answer_abort-requires c =
    abort-room c.args.m.now c.args.out.now c.requires.keeps (le-ltb _ _ c.requires.in_bounds) _ _

pub answer_extended-requires : goal.answer_extended-requires
answer_extended-requires c =
    omega (arith, c.requires.in_bounds)

pub general-requires : goal.general-requires
general-requires c =
    omega (arith, c.requires.in_bounds)

pub returns-in-Some-Init : goal.returns-in-Some-Init
returns-in-Some-Init c =
    let read = c.read in
    let answer-init = c.answer_init in
    reads c.args.conn c.args.id c.args.d.now c.args.h c.args.m.now read.ensures (c.in-Some-Init.is ∙ ap Some c.in-Some-Init.field-0-is)
    (answer-init.ensures c.args.h c.args.m.now)

pub returns-in-Some-Alive : goal.returns-in-Some-Alive
unfolding alive_response answer_read
returns-in-Some-Alive c =
    let read = c.read in
    let answer-alive = c.answer_alive in
    let said = c.said in
    reads c.args.conn c.args.id c.args.d.now c.args.h c.args.m.now read.ensures (c.in-Some-Alive.is ∙ ap Some c.in-Some-Alive.field-0-is)
    (λ hardware section. told c.args.conn c.args.d.now section said.ensures refl answer-alive.ensures)

pub returns-in-Some-Splice : goal.returns-in-Some-Splice
returns-in-Some-Splice c =
    let read = c.read in
    let answer-splice = c.answer_splice in
    reads c.args.conn c.args.id c.args.d.now c.args.h c.args.m.now read.ensures (c.in-Some-Splice.is ∙ ap Some c.in-Some-Splice.field-0-is)
    (answer-splice.ensures c.args.d.now)

pub returns-in-Some-Abort : goal.returns-in-Some-Abort
unfolding answer_read
returns-in-Some-Abort c =
    let read = c.read in
    let answer-abort = c.answer_abort in
    let said2 = c.said-in-Some-Abort in
    reads c.args.conn c.args.id c.args.d.now c.args.h c.args.m.now read.ensures (c.in-Some-Abort.is ∙ ap Some c.in-Some-Abort.field-0-is)
    (λ hardware section. turned c.args.conn c.args.d.now section said2.ensures answer-abort.ensures)

pub returns-in-Some-Extended : goal.returns-in-Some-Extended
unfolding answer_read
returns-in-Some-Extended c =
    let read = c.read in
    let answer-extended = c.answer_extended in
    let said3 = c.said-in-Some-Extended in
    reads c.args.conn c.args.id c.args.d.now c.args.h c.args.m.now read.ensures
    (c.in-Some-Extended.is ∙ ap Some c.in-Some-Extended.field-0-is)
    (λ hardware section. told c.args.conn c.args.d.now section said3.ensures refl answer-extended.ensures)

pub returns-in-Some-Config : goal.returns-in-Some-Config
returns-in-Some-Config c =
    let read = c.read in
    reads c.args.conn c.args.id c.args.d.now c.args.h c.args.m.now read.ensures (c.in-Some-Config.is ∙ ap Some c.in-Some-Config.field-0-is)
    (configures c.args.conn c.args.d.now c.args.h c.args.m.now c.said-in-Some-Config.ensures)

pub returns-in-None : goal.returns-in-None
unfolding answer_read
returns-in-None c =
    let read = c.read in
    let general = c.general in
    reads c.args.conn c.args.id c.args.d.now c.args.h c.args.m.now read.ensures c.in-None.is
    (λ hardware section. told c.args.conn c.args.d.now section general.ensures.0 refl general.ensures.1)

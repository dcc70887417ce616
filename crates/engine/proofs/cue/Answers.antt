-- Each return is one law of proofs/Calls; the section that is passed on has 20 to 512 bytes (`section-size`).
use mathlib.Core.Path.{sym, ◌∙◌}
use native.Mathlib.Omega.{arith}
use Rattle.rules.specs.Follows.Wires.{Byte}
use Rattle.rules.proofs.All.{all-at}
use Rattle.rules.proofs.Cued.{section-size}
use lib.ListN.{length}
use Rattle.std.proofs.lemmas.Result.{err_from_is_err_and}
use Rattle.engine.proofs.Calls.{room-refused, room-past, micros-refused, micros-past, cue-small, cue-micros, cue-section, cue-done}
use Rattle.engine.proofs.cue.Goals as goal

pub returns-in_err-test_room : goal.returns-in_err-test_room
returns-in_err-test_room c =
    let at = c.args.at in
    let p = err_from_is_err_and c.from_residual.result c.from_residual.ensures.1 in
    let r = room-refused (length c.args.out.now) c.test_room.ensures c.in_err-test_room.field-0.0 c.in_err-test_room.was in
    rw (p.1, p.2, r.1) (cue-small c.args.section.now at.pts at.seconds at.micros c.requires r.0)

pub returns-in_err-test_micros : goal.returns-in_err-test_micros
returns-in_err-test_micros c =
    let at = c.args.at in
    let p = err_from_is_err_and c.from_residual-in_err-test_micros.result c.from_residual-in_err-test_micros.ensures.1 in
    let roomy = room-past (length c.args.out.now) c.test_room.ensures c.in_ok-test_room.was in
    let r = micros-refused at.micros c.test_micros.ensures c.in_err-test_micros.field-0.0 c.in_err-test_micros.was in
    rw (p.1, p.2, r.1) (cue-micros c.args.section.now at.pts at.seconds at.micros c.requires roomy r.0)

pub returns-then-bad_section : goal.returns-then-bad_section
returns-then-bad_section c =
    let at = c.args.at in
    cue-section c.args.section.now at.pts at.seconds at.micros c.requires
    (room-past (length c.args.out.now) c.test_room.ensures c.in_ok-test_room.was)
    (micros-past at.micros c.test_micros.ensures c.in_ok-test_micros.was)
    (sym c.bad_section.ensures ∙ c.if-bad_section.true)

pub pass_on-len-requires : goal.pass_on-len-requires
pass_on-len-requires c =
    let size = section-size c.args.section.now (sym c.bad_section.ensures ∙ c.if-bad_section.false) in
    record {
      form = c.requires.whole.words;
      in_bounds = size.0;
      section_len_bound = size.1;
      cue_room_in_bounds = omega (arith, room-past (length c.args.out.now) c.test_room.ensures c.in_ok-test_room.was);
    }

pub returns : goal.returns
returns c =
    let at = c.args.at in
    let l = c.args.section.now in
    let y = all-at Byte 0 l (λ i. omega (arith, c.shared_slice_known-2-1.given i)) in
    rw c.unmoved.ensures (cue-done l at.pts at.seconds at.micros c.requires y
    (room-past (length c.args.out.now) c.test_room.ensures c.in_ok-test_room.was)
    (micros-past at.micros c.test_micros.ensures c.in_ok-test_micros.was)
    (sym c.bad_section.ensures ∙ c.if-bad_section.false) c.pass_on-len.ensures)

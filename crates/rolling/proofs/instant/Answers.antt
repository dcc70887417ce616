-- Each return is one law of proofs/Calls: the clock, 0 until then, is brought to the instant, which is below the horizon by its type.
use Rattle.std.proofs.Common.{length, ap, ◌∙◌, arith, rules}
use Rattle.rules.specs.Units.{from_micros}
use Rattle.std.proofs.lemmas.Result.{err_from_is_err_and}
use Rattle.engine.proofs.Calls.{room-refused, room-past, micros-refused, micros-past}
use Rattle.rolling.proofs.Calls.{lent-core, instant-small, instant-micros, instant-second, instant-done}
use Rattle.rolling.proofs.instant.Goals as goal

pub returns-in_err-test_room : goal.returns-in_err-test_room
returns-in_err-test_room c =
    let g = c.args.given in
    let p = err_from_is_err_and c.from_residual.result c.from_residual.ensures.1 in
    let r = room-refused (length c.args.out.now) c.test_room.ensures c.in_err-test_room.field-0.0 c.in_err-test_room.was in
    rw (p.1, p.2, r.1) (instant-small g.seconds g.micros g.reading c.requires r.0)

pub returns-in_err-test_micros : goal.returns-in_err-test_micros
returns-in_err-test_micros c =
    let g = c.args.given in
    let p = err_from_is_err_and c.from_residual-in_err-test_micros.result c.from_residual-in_err-test_micros.ensures.1 in
    let roomy = room-past (length c.args.out.now) c.test_room.ensures c.in_ok-test_room.was in
    let r = micros-refused g.micros c.test_micros.ensures c.in_err-test_micros.field-0.0 c.in_err-test_micros.was in
    rw (p.1, p.2, r.1) (instant-micros g.seconds g.micros g.reading c.requires roomy r.0)

pub returns-then-counter-ne0 : goal.returns-then-counter-ne0
returns-then-counter-ne0 c =
    let g = c.args.given in
    let roomy = room-past (length c.args.out.now) c.test_room.ensures c.in_ok-test_room.was in
    let proper = micros-past c.args.given.micros c.test_micros.ensures c.in_ok-test_micros.was in
    instant-second g.seconds g.micros g.reading c.requires roomy proper c.if-counter-ne0.true

pub from_micros-until-requires : goal.from_micros-until-requires
from_micros-until-requires c =
    let time-of = c.time_of in
    let proper = micros-past c.args.given.micros c.test_micros.ensures c.in_ok-test_micros.was in
    omega (arith, ap (λ y. y.0) time-of.ensures, proper)

pub bring_to-a-requires : goal.bring_to-a-requires
bring_to-a-requires c =
    let from-micros = c.from_micros-until in
    let time-of = c.time_of in
    let proper = micros-past c.args.given.micros c.test_micros.ensures c.in_ok-test_micros.was in
    record {
      lent = lent-core c.requires;
      until_lt_horizon = omega (
        arith,
        ap (λ y. y.0) (from-micros.ensures ∙ ap from_micros time-of.ensures),
        proper,
      );
    }

pub returns : goal.returns
returns c =
    let g = c.args.given in
    let roomy = room-past (length c.args.out.now) c.test_room.ensures c.in_ok-test_room.was in
    let proper = micros-past c.args.given.micros c.test_micros.ensures c.in_ok-test_micros.was in
    let if3 = c.if-counter-ne0 in
    let time-of = c.time_of in
    let from-micros = c.from_micros-until in
    let bring-to = c.bring_to-a in
    instant-done g.seconds g.micros g.reading c.requires from-micros.result
    (from-micros.ensures ∙ ap from_micros time-of.ensures)
    (omega (arith)) (omega (arith)) roomy proper if3.false bring-to.ensures
    (search rules)

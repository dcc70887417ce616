-- Each return is one law of proofs/Calls: a tick is the clock brought to its time. That the time is below the horizon comes from the types.
use mathlib.Core.Path.{ap, ◌∙◌}
use native.Mathlib.Omega.{arith}
use Rattle.rules.specs.Units.{from_micros}
use lib.ListN.{length}
use Rattle.std.proofs.lemmas.Result.{err_from_is_err_and}
use Rattle.engine.proofs.Calls.{room-refused, room-past, micros-refused, micros-past, tick-small, tick-micros, tick-moves}
use Rattle.engine.proofs.tick.Goals as goal

pub returns-in_err-test_room : goal.returns-in_err-test_room
returns-in_err-test_room c =
    let p = err_from_is_err_and c.from_residual.result c.from_residual.ensures.1 in
    let r = room-refused (length c.args.out.now) c.test_room.ensures c.in_err-test_room.field-0.0 c.in_err-test_room.was in
    rw (p.1, p.2, r.1) (tick-small c.args.seconds c.args.micros c.requires r.0)

pub returns-in_err-test_micros : goal.returns-in_err-test_micros
returns-in_err-test_micros c =
    let p = err_from_is_err_and c.from_residual-in_err-test_micros.result c.from_residual-in_err-test_micros.ensures.1 in
    let roomy = room-past (length c.args.out.now) c.test_room.ensures c.in_ok-test_room.was in
    let r = micros-refused c.args.micros c.test_micros.ensures c.in_err-test_micros.field-0.0 c.in_err-test_micros.was in
    rw (p.1, p.2, r.1) (tick-micros c.args.seconds c.args.micros c.requires roomy r.0)

pub from_micros-until-requires : goal.from_micros-until-requires
from_micros-until-requires c =
    let time-of = c.time_of in
    omega (arith, ap (λ y. y.0) time-of.ensures, c.ranges.seconds, c.ranges.micros)

pub bring_to-requires : goal.bring_to-requires
bring_to-requires c =
    let proper = micros-past c.args.micros c.test_micros.ensures c.in_ok-test_micros.was in
    let time-of = c.time_of in
    let from-micros = c.from_micros-until in
    record {
      lent = c.requires;
      until_lt_horizon = omega (arith, proper, ap (λ y. y.0) (from-micros.ensures ∙ ap from_micros time-of.ensures), c.ranges.seconds);
    }

pub returns : goal.returns
returns c =
    let roomy = room-past (length c.args.out.now) c.test_room.ensures c.in_ok-test_room.was in
    let proper = micros-past c.args.micros c.test_micros.ensures c.in_ok-test_micros.was in
    let time-of = c.time_of in
    let from-micros = c.from_micros-until in
    let bring-to = c.bring_to in
    tick-moves c.args.seconds c.args.micros c.requires from-micros.result (from-micros.ensures ∙ ap from_micros time-of.ensures)
    roomy proper bring-to.ensures

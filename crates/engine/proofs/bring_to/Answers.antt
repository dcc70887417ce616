-- Each return is one law of proofs/Calls; what `instants` asks holds of every splicer that the calls have given.
use native.Mathlib.Omega.{arith}
use Rattle.std.proofs.lemmas.Result.{err_from_is_err_and}
use lib.ListN.{length}
use Rattle.engine.proofs.Calls.{early, holding, room-refused, room-past, room-run, move-small, move-back, move-done}
use Rattle.engine.proofs.bring_to.Goals as goal

pub returns-in_err-test_room : goal.returns-in_err-test_room
returns-in_err-test_room c =
    let p = err_from_is_err_and c.from_residual.result c.from_residual.ensures.1 in
    let r = room-refused (length c.args.out.now) c.test_room.ensures c.in_err-test_room.field-0.0 c.in_err-test_room.was in
    rw (p.1, p.2, r.1) (move-small c.args.until.0 c.requires.lent r.0)

pub returns-then-until-clock : goal.returns-then-until-clock
returns-then-until-clock c =
    let clock = c.clock-clock in
    move-back c.args.until.0 c.requires.lent (room-past (length c.args.out.now) c.test_room.ensures c.in_ok-test_room.was)
    (omega (arith, clock.ensures))

pub run-len-requires : goal.run-len-requires
run-len-requires c =
    let roomy = room-past (length c.args.out.now) c.test_room.ensures c.in_ok-test_room.was in
    let clock = c.clock-clock in
    let h = holding c.requires.lent in
    record {
      form = c.requires.lent.whole.words;
      holding = h;
      m_bound = (omega (arith, clock.ensures), c.requires.until_lt_horizon);
      m_bound_2 = early c.requires.lent;
      m_in_bounds = room-run h roomy;
    }

pub returns : goal.returns
returns c =
    let roomy = room-past (length c.args.out.now) c.test_room.ensures c.in_ok-test_room.was in
    let clock = c.clock-clock in
    let if2 = c.if-until-clock in
    let run = c.run-len in
    let set-clock = c.set_clock in
    rw c.unmoved.ensures (move-done c.args.until.0 c.requires.lent c.requires.until_lt_horizon roomy
    (omega (arith, clock.ensures, if2.false)) run.ensures
    set-clock.ensures)

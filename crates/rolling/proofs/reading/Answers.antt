-- Each return is one law of proofs/Calls; that the clock and the last reading are in range holds of every rolling splicer.
use Rattle.std.proofs.Common.{◌≡◌, None, length, arith, rules}
use Rattle.std.proofs.lemmas.Result.{err_from_is_err_and}
use Rattle.rules.specs.declared.Refusal.TheVariants.{Counter}
use Rattle.engine.proofs.Calls.{room-refused, room-past}
use Rattle.rolling.proofs.Calls.{lent-core, lent-early, some-low, reading_small, reading-before, reading-early, reading-never}
use Rattle.rolling.proofs.Calls.{reading-done}
use Rattle.rolling.proofs.reading.Goals as goal

pub returns-in_err-test_room : goal.returns-in_err-test_room
returns-in_err-test_room c =
    let p = err_from_is_err_and c.from_residual.result c.from_residual.ensures.1 in
    let r = room-refused (length c.args.out.now) c.test_room.ensures c.in_err-test_room.field-0.0 c.in_err-test_room.was in
    rw (p.1, p.2, r.1) (reading_small c.args.reading c.requires r.0)

pub returns-then-counter-eq0 : goal.returns-then-counter-eq0
returns-then-counter-eq0 c =
    let roomy = room-past (length c.args.out.now) c.test_room.ensures c.in_ok-test_room.was in
    reading-before c.args.reading c.requires roomy c.if-counter-eq0.true

pub clock-clock-requires : goal.clock-clock-requires
clock-clock-requires c =
    (lent-core c.requires).whole.words

pub overflow_cast-counter : goal.overflow_cast-counter
overflow_cast-counter c =
    let if2 = c.if-counter-eq0 in
    omega (arith, some-low c.requires if2.false)

pub reached-requires : goal.reached-requires
reached-requires c =
    let clock = c.clock-clock in
    omega (arith, lent-early c.requires, clock.ensures)

pub returns-in_err-until : goal.returns-in_err-until
returns-in_err-until c =
    let roomy = room-past (length c.args.out.now) c.test_room.ensures c.in_ok-test_room.was in
    let if2 = c.if-counter-eq0 in
    let p = err_from_is_err_and c.from_residual-in_err-until.result c.from_residual-in_err-until.ensures.1 in
    let none : c.reached.result ≡ None = grind arith in
    let is : c.in_err-until.field-0.0 ≡ Counter = grind arith in
    rw (p.1, p.2, is) (reading-never c.args.reading c.requires c.clock-clock.result roomy if2.false c.clock-clock.ensures
    c.reached.ensures none)

pub bring_to-a-requires : goal.bring_to-a-requires
bring_to-a-requires c =
    let if2 = c.if-counter-eq0 in
    let clock = c.clock-clock in
    let reached = c.reached in
    record {
      lent = lent-core c.requires;
      until_lt_horizon = (reading-early c.args.m.now c.args.counter.now c.args.reading clock.result if2.false clock.ensures
          c.in_ok-until.until
          reached.ensures (grind arith)).1;
    }

pub returns : goal.returns
returns c =
    let roomy = room-past (length c.args.out.now) c.test_room.ensures c.in_ok-test_room.was in
    let if2 = c.if-counter-eq0 in
    let clock = c.clock-clock in
    let reached = c.reached in
    let bring-to = c.bring_to-a in
    reading-done c.args.reading c.requires clock.result roomy if2.false clock.ensures c.in_ok-until.until
    reached.ensures (grind arith) (omega (arith, c.ranges.reading)) bring-to.ensures (search rules)

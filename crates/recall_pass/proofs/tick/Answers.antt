-- Each return is one law of proofs/Calls. The room for the records comes from what the verdicts show; that the time is below the horizon,
-- from the types.
use mathlib.Core.Path.{sym, ap, ◌∙◌}
use native.Mathlib.Omega.{arith}
use Prim.Native.Nat.{◌*◌}
use lib.Seq.{length-take-le}
use Rattle.rules.specs.Units.{from_micros}
use Rattle.recall_rows.specs.Rows.{width}
use Rattle.recall_pass.proofs.Calls.{ticks-room, ticks-small, ticks-micros, ticks-back, ticks-done, plays-as}
use Rattle.recall_pass.proofs.tick.Goals as goal

pub returns-then-out-lt4096 : goal.returns-then-out-lt4096
returns-then-out-lt4096 c =
    let if1 = c.if-out-lt4096 in
    λ l. ticks-small c.args.seconds c.args.micros c.args.h c.args.m.now c.args.out.now c.requires.fits l
    (omega (arith, if1.true))

pub returns-then-micros-gt999999 : goal.returns-then-micros-gt999999
returns-then-micros-gt999999 c =
    let if1 = c.if-out-lt4096 in
    let if2 = c.if-micros-gt999999 in
    λ l. ticks-micros c.args.seconds c.args.micros c.args.h c.args.m.now c.args.out.now c.requires.fits l
    (omega (arith, if1.false)) (omega (arith, if2.true))

pub from_micros-until-requires : goal.from_micros-until-requires
from_micros-until-requires c =
    let time-of = c.time_of in
    omega (arith, ap (λ y. y.0) time-of.ensures, c.ranges.seconds, c.ranges.micros)

pub returns-then-until-clock : goal.returns-then-until-clock
returns-then-until-clock c =
    let if1 = c.if-out-lt4096 in
    let if2 = c.if-micros-gt999999 in
    let time-of = c.time_of in
    let from-micros = c.from_micros-until in
    let if3 = c.if-until-clock in
    λ l. ticks-back c.args.seconds c.args.micros c.args.h c.args.m.now c.args.out.now c.requires.fits l
    (omega (arith, if1.false)) (omega (arith, if2.false)) from-micros.result
    (from-micros.ensures ∙ ap from_micros time-of.ensures) (omega (arith, if3.true))

pub slice_bounds-run-end-2 : goal.slice_bounds-run-end-2
slice_bounds-run-end-2 c =
    sym (length-take-le (c.args.h.rows * width) c.args.m.now c.requires.fits)

pub run-len-requires : goal.run-len-requires
run-len-requires c =
    let if1 = c.if-out-lt4096 in
    let if2 = c.if-micros-gt999999 in
    let time-of = c.time_of in
    let from-micros = c.from_micros-until in
    let if3 = c.if-until-clock in record {
      keeps = c.requires.keeps;
      clock_le_until = (
        omega (arith, if3.false),
        omega (
          arith,
          ap (λ y. y.0) (from-micros.ensures ∙ ap from_micros time-of.ensures),
          c.ranges.seconds,
          if2.false,
        ),
      );
      room = ticks-room from-micros.result.0 c.args.out.now c.requires.keeps (omega (arith, if1.false));
    }

pub returns : goal.returns
returns c =
    let if1 = c.if-out-lt4096 in
    let if2 = c.if-micros-gt999999 in
    let time-of = c.time_of in
    let from-micros = c.from_micros-until in
    let if3 = c.if-until-clock in
    let run = c.run-len in
    λ l. plays-as c.unmoved.ensures (ticks-done c.args.seconds c.args.micros c.args.h c.args.m.now c.args.out.now c.requires.fits l
    (omega (arith, if1.false)) (omega (arith, if2.false)) from-micros.result
    (from-micros.ensures ∙ ap from_micros time-of.ensures) (omega (arith, if3.false)) run.auto.m run.ensures)

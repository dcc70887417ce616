-- Each arm is the call of its record (`led-open` and its like): what the four calls promise.
use mathlib.Core.Path.{sym, subst}
use Rattle.recall_answers.specs.declared.Carried.{Carried}
use Rattle.recall_rules.specs.Calls.{open_call, close_call, tick_call}
use Rattle.recall_pass.specs.Passes.{pass_in, Leads}
use lib.ListN.{length}
use Rattle.recall_pass.proofs.Walks.{message-within, led-open, led-close, led-tick, led-message}
use Rattle.recall_pass.proofs.play.Goals as goal

pub play_message-requires-clause-from_in_bounds : goal.play_message-requires-clause-from_in_bounds
play_message-requires-clause-from_in_bounds c =
    message-within c.args.log.now c.args.at c.requires.record_value.0 c.in-Message.is c.requires.record_value.1

pub returns-in-Open : goal.returns-in-Open
returns-in-Open c =
    let log = c.args.log.now in
    let h = c.args.h in
    let m = c.args.m.now in
    led-open log c.args.at c.requires.record_value.0 h m c.carried_by.result m c.in-Open.is
    (subst (λ (r : Carried). Leads log h (open_call c.in-Open.c (pass_in log h m)) r m) (sym c.carried_by.ensures)
    (c.open.ensures m c.args.scratch.now c.requires.ready.fits log).leads)

pub returns-in-Close : goal.returns-in-Close
returns-in-Close c =
    let log = c.args.log.now in
    let h = c.args.h in
    let m = c.args.m.now in
    led-close log c.args.at c.requires.record_value.0 h m c.carried_by-in-Close.result c.close.new.m c.in-Close.is c.requires.scratch_len
    (subst (λ (r : Carried). Leads log h (close_call c.in-Close.c (length c.args.scratch.now) (pass_in log h m)) r c.close.new.m)
    (sym c.carried_by-in-Close.ensures) (c.close.ensures log).leads)

pub returns-in-Message : goal.returns-in-Message
returns-in-Message c =
    led-message c.args.log.now c.args.at c.requires.record_value.0 c.args.h c.args.m.now c.play_message.result
    c.play_message.new.m c.in-Message.is c.play_message.ensures

pub returns-in-Tick : goal.returns-in-Tick
returns-in-Tick c =
    let log = c.args.log.now in
    let h = c.args.h in
    let m = c.args.m.now in
    led-tick log c.args.at c.requires.record_value.0 h m c.carried_by-in-Tick.result c.tick.new.m c.in-Tick.is c.requires.scratch_len
    (subst
    (λ (r : Carried). Leads log h (tick_call c.in-Tick.seconds c.in-Tick.micros (length c.args.scratch.now) (pass_in log h m)) r
    c.tick.new.m)
    (sym c.carried_by-in-Tick.ensures) (c.tick.ensures log).leads)

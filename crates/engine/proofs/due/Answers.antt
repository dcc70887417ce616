-- By what comes next, and whether a tick reaches it (`due-never`, `due-beyond`, `due-reached`).
use mathlib.Core.Path.{sym, ◌∙◌}
use native.Mathlib.Omega.{arith}
use Rattle.engine.proofs.Calls.{holding}
use Rattle.engine.proofs.Drivers.{due-never, due-beyond, due-reached}
use Rattle.engine.proofs.due.Goals as goal

pub upcoming-requires : goal.upcoming-requires
upcoming-requires c =
    record {
      form = c.requires.whole.words;
      sorted = (holding c.requires).timed.sorted;
    }

pub returns-in_default : goal.returns-in_default
returns-in_default c = due-never _ (sym c.upcoming.ensures ∙ c.in_default.is)

pub returns-then-up-ge-PAST_SECONDS : goal.returns-then-up-ge-PAST_SECONDS
returns-then-up-ge-PAST_SECONDS c =
    let up = c.up_micros-up in
    let at = sym c.upcoming.ensures ∙ c.in-Some.is in
    due-beyond _ c.in-Some.t at up.result up.ensures (omega (arith, c.if-up-ge-PAST_SECONDS.true))

pub returns : goal.returns
returns c =
    let up = c.up_micros-up in
    let at = sym c.upcoming.ensures ∙ c.in-Some.is in
    due-reached _ c.in-Some.t at up.result up.ensures (omega (arith, c.if-up-ge-PAST_SECONDS.false))

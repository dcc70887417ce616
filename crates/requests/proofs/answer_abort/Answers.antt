-- 121 (`abort-unknown`), or 100 and behind it the ends of the session where it is held and of its followers (`abort-waiting`,
-- `abort-started`).
-- Rests on where the number is held, once (`found_in`).
use mathlib.Core.Path.{sym, ◌∙◌}
use native.Mathlib.Omega.{arith}
use Rattle.rules.specs.Records.{AbortResponse}
use Rattle.rules.proofs.Records.{length-record}
use Rattle.rules.proofs.Sound.{few-wait}
use Rattle.memory.specs.declared.Which.TheVariants.{Started}
use Rattle.memory.specs.Memory.{see}
use Rattle.ends.proofs.Laws.{playable}
use Rattle.ends.proofs.Followers.{ordered-now}
use Rattle.checks.proofs.Laws.{held-nowhere}
use Rattle.requests.proofs.Laws.{found_in, abort-unknown, abort-waiting, abort-started}
use Rattle.requests.proofs.answer_abort.Goals as goal

pub returns-in_default : goal.returns-in_default
returns-in_default c =
    let no = sym c.where_held-held.ensures ∙ c.in_default.is in
    let h = held-nowhere c.args.conn c.args.id (see c.args.m.now).queue no in
    abort-unknown c.args.conn c.args.id c.requires.form h c.abort_response.ensures

pub end_waiting-requires : goal.end_waiting-requires
end_waiting-requires c =
    let m = c.args.m.now in
    let e = c.where_held-held.ensures in
    let h = found_in c.args.conn c.args.id (see m).queue e c.in-Some.is c.in-Waiting.is in
    let k = length-record (AbortResponse c.args.conn 100 c.args.id) tt in record {
      form = c.requires.form;
      at_in_bounds = omega (arith, h.within);
      ordered = ordered-now _ _ c.requires.holding;
      m_in_bounds = omega (
        arith,
        few-wait c.requires.holding,
        c.requires.in_bounds,
        c.abort_response-len.auto.out,
        k,
        c.abort_response-len.ensures.count,
      );
    }

pub end_started-requires : goal.end_started-requires
end_started-requires c =
    let m = c.args.m.now in
    let e = c.where_held-held.ensures in
    let h = found_in c.args.conn c.args.id (see m).queue e c.in-Some.is c.in-Started.is in
    let p = playable Started m c.requires.holding in
    let k = length-record (AbortResponse c.args.conn 100 c.args.id) tt in record {
      form = c.requires.form;
      at_in_bounds = omega (arith, h.within);
      all = p;
      ordered = ordered-now _ _ c.requires.holding;
      m_in_bounds = omega (
        arith,
        few-wait c.requires.holding,
        c.requires.in_bounds,
        c.abort_response-len.auto.out,
        k,
        c.abort_response-len.ensures.count,
      );
    }

pub returns-in-Waiting : goal.returns-in-Waiting
returns-in-Waiting c =
    let m = c.args.m.now in
    let e = c.where_held-held.ensures in
    let h = found_in c.args.conn c.args.id (see m).queue e c.in-Some.is c.in-Waiting.is in
    abort-waiting c.args.conn c.args.id c.requires.form c.requires.holding
    c.abort_response-len.ensures h c.end_waiting.ensures

pub returns-in-Started : goal.returns-in-Started
returns-in-Started c =
    let m = c.args.m.now in
    let e = c.where_held-held.ensures in
    let h = found_in c.args.conn c.args.id (see m).queue e c.in-Some.is c.in-Started.is in
    abort-started c.args.conn c.args.id c.requires.form c.requires.holding
    c.abort_response-len.ensures h c.end_started.ensures

-- 13, or the call behind the pass; a good one is kept. Rests on what `recall_pass` promises, and on Calls.
use borrow.Author.Rules.{rules}
use Rattle.std.proofs.lemmas.Result.{err_from_is_err_and}
use Rattle.recall_log.specs.Kept.{kept_form}
use Rattle.recall_pass.proofs.Laws.{passed-ready}
use Rattle.recall_log.proofs.Logs.{not_full}
use Rattle.recall.proofs.Calls.{found-full, found-there, begins-with, played-not, played-done, tick_is}
use Rattle.rules.proofs.All.{all-at}
use Rattle.rules.specs.Follows.Wires.{Byte}
use Rattle.rules.specs.Calls.{ticks}
use lib.ListN.{length}
use native.Mathlib.Omega.{arith}
use Rattle.recall.proofs.tick.Goals as goal

pub returns-in_err-at : goal.returns-in_err-at
returns-in_err-at c =
    let p = err_from_is_err_and c.from_residual.result c.from_residual.ensures.1 in
    rw (p.1, p.2) (found-full (ticks c.args.seconds c.args.micros (length c.args.out.now)) c.args.log.now c.args.out.now c.begin.ensures
    c.in_err-at.was)

pub pass-h-requires : goal.pass-h-requires
pass-h-requires c =
    record {
      log_len_bound = (not_full c.args.log.now (found-there c.args.log.now c.begin.ensures c.in_ok-at.was).0).few;
      width_in_bounds = omega arith;
    }

pub tick-requires : goal.tick-requires
tick-requires c = passed-ready c.pass-h.ensures

pub returns-in_err-p : goal.returns-in_err-p
returns-in_err-p c =
    let p = err_from_is_err_and c.from_residual-in_err-p.result c.from_residual-in_err-p.ensures.1 in
    let l = c.args.log.now in
    let b = begins-with l c.begin.ensures c.in_ok-at.was c.pass-h.ensures in
    rw (p.1, p.2) (played-not (ticks c.args.seconds c.args.micros (length c.args.out.now)) l (all-at Byte 0 l (λ i. search rules)) b.0
    b.2 (tick_is c.args.seconds c.args.micros (length c.args.out.now)) (c.tick.ensures l) c.in_err-p.was)

pub keep_tick-requires : goal.keep_tick-requires
keep_tick-requires c = (found-there c.args.log.now c.begin.ensures c.in_ok-at.was).1

pub returns : goal.returns
unfolding kept_form
returns c =
    let l = c.args.log.now in
    let b = begins-with l c.begin.ensures c.in_ok-at.was c.pass-h.ensures in
    played-done (ticks c.args.seconds c.args.micros (length c.args.out.now)) l (all-at Byte 0 l (λ i. search rules)) b.0 b.2
    (tick_is c.args.seconds c.args.micros (length c.args.out.now)) (c.tick.ensures l) c.in_ok-p.was c.keep_tick.ensures

-- 13, or the call behind the pass; a good one is kept. Rests on what `recall_pass` promises, and on Calls.
use borrow.Author.Rules.{rules}
use Rattle.std.proofs.lemmas.Result.{err_from_is_err_and}
use Rattle.recall_log.specs.Kept.{kept_form}
use Rattle.recall_log.proofs.Keeps.{close-low}
use Rattle.recall_pass.proofs.Laws.{passed-ready}
use Rattle.recall_log.proofs.Logs.{not_full}
use Rattle.recall.proofs.Calls.{found-full, found-there, begins-with, played-not, played-done, played-good, close-is}
use Rattle.rules.proofs.All.{all-at}
use Rattle.rules.specs.Follows.Wires.{Byte}
use Rattle.rules.specs.Calls.{closes}
use lib.ListN.{length}
use native.Mathlib.Omega.{arith}
use Rattle.recall.proofs.close.Goals as goal

pub returns-in_err-at : goal.returns-in_err-at
returns-in_err-at c =
    let p = err_from_is_err_and c.from_residual.result c.from_residual.ensures.1 in
    rw (p.1, p.2) (found-full (closes c.args.conn (length c.args.out.now)) c.args.log.now c.args.out.now c.begin.ensures
    c.in_err-at.was)

pub pass-h-requires : goal.pass-h-requires
pass-h-requires c =
    record {
      log_len_bound = (not_full c.args.log.now (found-there c.args.log.now c.begin.ensures c.in_ok-at.was).0).few;
      width_in_bounds = omega arith;
    }

pub close-requires : goal.close-requires
close-requires c = passed-ready c.pass-h.ensures

pub returns-in_err-p : goal.returns-in_err-p
returns-in_err-p c =
    let p = err_from_is_err_and c.from_residual-in_err-p.result c.from_residual-in_err-p.ensures.1 in
    let l = c.args.log.now in
    let b = begins-with l c.begin.ensures c.in_ok-at.was c.pass-h.ensures in
    rw (p.1, p.2) (played-not (closes c.args.conn (length c.args.out.now)) l (all-at Byte 0 l (λ i. search rules)) b.0 b.2
    (close-is c.args.conn (length c.args.out.now)) (c.close.ensures l) c.in_err-p.was)

pub overflow_cast-conn : goal.overflow_cast-conn
overflow_cast-conn c =
    let l = c.args.log.now in
    let b = begins-with l c.begin.ensures c.in_ok-at.was c.pass-h.ensures in
    omega (
      arith,
      close-low c.args.conn (length c.args.out.now) _ (played-good (closes c.args.conn (length c.args.out.now)) l
          (all-at Byte 0 l (λ i. search rules)) b.0 b.2 (close-is c.args.conn (length c.args.out.now)) (c.close.ensures l)
          c.in_ok-p.was),
    )

pub keep_close-requires : goal.keep_close-requires
keep_close-requires c = (found-there c.args.log.now c.begin.ensures c.in_ok-at.was).1

pub returns : goal.returns
unfolding kept_form
returns c =
    let l = c.args.log.now in
    let b = begins-with l c.begin.ensures c.in_ok-at.was c.pass-h.ensures in
    played-done (closes c.args.conn (length c.args.out.now)) l (all-at Byte 0 l (λ i. search rules)) b.0 b.2
    (close-is c.args.conn (length c.args.out.now)) (c.close.ensures l) c.in_ok-p.was c.keep_close.ensures

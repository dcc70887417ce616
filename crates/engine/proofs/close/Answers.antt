-- Each return is one law of proofs/Calls; what `ends` asks holds of every splicer that the calls have given.
use Rattle.rules.specs.Calls.{close_call}
use mathlib.Core.Path.{sym, ◌∙◌}
use lib.ListN.{length}
use Rattle.std.proofs.lemmas.Result.{err_from_is_err_and}
use Rattle.ends.proofs.Laws.{playable}
use Rattle.memory.specs.declared.Which.TheVariants.{Started}
use Rattle.memory.specs.Memory.{see}
use Rattle.engine.proofs.Calls.{holding, room-all, test-past, guard-refused, close-done}
use Rattle.engine.proofs.close.Goals as goal

pub returns-in_err-test_open : goal.returns-in_err-test_open
unfolding close_call
returns-in_err-test_open c =
    let p = err_from_is_err_and c.from_residual.result c.from_residual.ensures.1 in
    rw (p.1, p.2) (guard-refused c.args.conn _ c.in_err-test_open.field-0.0 c.requires c.test_open.ensures c.in_err-test_open.was)

pub end_all_of-len-requires : goal.end_all_of-len-requires
end_all_of-len-requires c =
    let good = sym c.in_ok-test_open.was ∙ c.test_open.ensures in
    let past = test-past c.args.conn (length c.args.out.now) (see c.args.m.now).links good in
    let h = holding c.requires in
    record {
      form = c.requires.whole.words;
      all = playable Started c.args.m.now h;
      conn_bound = past.0;
      m_in_bounds = room-all h past.1;
    }

pub set_link-requires : goal.set_link-requires
set_link-requires c =
    let end-all-of = c.end_all_of-len in
    let good = sym c.in_ok-test_open.was ∙ c.test_open.ensures in
    let past = test-past c.args.conn (length c.args.out.now) (see c.args.m.now).links good in
    record {
      form = end-all-of.ensures.shows.form;
      c_bound = past.0;
    }

pub forget-requires : goal.forget-requires
forget-requires c =
    let good = sym c.in_ok-test_open.was ∙ c.test_open.ensures in
    let past = test-past c.args.conn (length c.args.out.now) (see c.args.m.now).links good in
    record {
      stored = c.requires.whole.bytes;
      c_bound = past.0;
    }

pub returns : goal.returns
returns c =
    let end-all-of = c.end_all_of-len in
    let set_link = c.set_link in
    let forget = c.forget in
    let good = sym c.in_ok-test_open.was ∙ c.test_open.ensures in
    rw c.unmoved.ensures (close-done c.args.conn c.requires good end-all-of.ensures set_link.ensures forget.ensures)

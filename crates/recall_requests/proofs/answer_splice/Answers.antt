-- The result decides between acceptance (`splice-accepted`) and one record (`splice-declined`).
-- Rests on that no start is so late that an end wraps (`start_fits`), and no connection has more than 20 waiting (`few`).
use native.Mathlib.Omega.{arith}
use Rattle.recall_ends.specs.Does.{all}
use Rattle.recall_requests.proofs.Checks.{few, rank-fits, start_fits}
use Rattle.recall_requests.proofs.Admission.{admit-room, decline-room, splice-accepted, splice-declined}
use Rattle.recall_requests.proofs.answer_splice.Goals as goal

pub session_at-new-requires : goal.session_at-new-requires
session_at-new-requires c =
    omega (
      arith,
      c.start_of-t.ensures,
      start_fits c.args.clock.0 c.args.conn c.args.r (all c.args.m.now) c.requires.asked c.requires.keeps c.requires.clock_lt_horizon,
    )

pub splice_result-n-requires : goal.splice_result-n-requires
splice_result-n-requires c =
    record {
      few = few c.args.m.now c.requires.keeps;
      clock_lt_horizon = c.requires.clock_lt_horizon;
      asked = c.requires.asked;
      overrides_bound = rank-fits c.start_of-t.result.0 c.args.conn c.args.r c.session_at-new.ensures c.requires.asked;
    }

pub accept-requires : goal.accept-requires
accept-requires c =
    let a = c.args in
    admit-room a.clock.0 a.conn a.r a.m.now c.start_of-t.ensures c.session_at-new.ensures c.splice_result-n.ensures a.out.now
    c.requires.room c.if-n-eq100.true

pub returns-then-n-eq100 : goal.returns-then-n-eq100
returns-then-n-eq100 c =
    let a = c.args in
    let g = c.accept.ensures in
    splice-accepted a.clock.0 a.conn a.r a.m.now c.start_of-t.ensures c.session_at-new.ensures c.splice_result-n.ensures c.if-n-eq100.true
    g.admits g.accepted_value.0 g.accepted_value.1

pub splice_response-requires : goal.splice_response-requires
splice_response-requires c =
    let a = c.args in
    decline-room a.clock.0 a.conn a.r a.m.now c.start_of-t.ensures c.session_at-new.ensures c.splice_result-n.ensures a.out.now
    c.requires.room c.if-n-eq100.false

pub returns : goal.returns
returns c =
    let a = c.args in
    splice-declined a.clock.0 a.conn a.r a.m.now c.start_of-t.ensures c.session_at-new.ensures c.splice_result-n.ensures c.if-n-eq100.false
    c.splice_response.ensures

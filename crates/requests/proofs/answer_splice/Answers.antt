-- Without a start one record (`splice-unknown`); else the result decides between acceptance and one record.
-- Rests on what the checks promise of the session asked for (`asks`); one search gives its place.
use mathlib.Core.Path.{sym, ◌∙◌}
use native.Mathlib.Omega.{arith}
use Rattle.memory.specs.Memory.{see}
use Rattle.requests.proofs.Laws.{start_fits, asks, asks-taken, storable, room-waiting, splice-accepted, splice-refused}
use Rattle.requests.proofs.Laws.{splice-unknown}
use Rattle.requests.proofs.answer_splice.Goals as goal

pub returns-in_default : goal.returns-in_default
returns-in_default c =
    let no = sym c.start_of-start.ensures ∙ c.in_default.is in
    rw c.unmoved.ensures (splice-unknown c.args.conn c.args.r c.args.m.now no c.requires.form c.splice_response.ensures)

pub session_at-new-requires : goal.session_at-new-requires
session_at-new-requires c =
    let m = see c.args.m.now in
    let yes = sym c.start_of-start.ensures ∙ c.in-Some.is in
    let a = c.requires.asked in
    let early = start_fits c.args.conn m.clock c.args.r.start m.queue a.start c.requires.holding c.requires.m_bound yes in
    omega arith

pub spot_of-spot-requires : goal.spot_of-spot-requires
spot_of-spot-requires c =
    record { form = c.requires.form; sorted = c.requires.holding.timed.sorted }

pub splice_result-n-requires : goal.splice_result-n-requires
splice_result-n-requires c =
    let m = c.args.m.now in
    let yes = sym c.start_of-start.ensures ∙ c.in-Some.is in
    let a = asks c.args.conn c.args.r (see m).queue yes c.session_at-new.ensures c.spot_of-spot.ensures.at in
    let b = asks-taken c.args.conn c.args.r (see m).queue.waiting c.in-Some.t c.session_at-new.ensures
    c.spot_of-spot.ensures.taken in
    record {
      form = c.requires.form;
      holding = c.requires.holding;
      m_bound = c.requires.m_bound;
      conn_bound = c.requires.conn_bound;
      within
          = c.requires.asked.start;
      m_value = a.known;
      at_value = a.at;
      taken_value = b;
    }

pub accept-requires : goal.accept-requires
accept-requires c =
    let m = c.args.m.now in
    let yes = sym c.start_of-start.ensures ∙ c.in-Some.is in
    let a = asks c.args.conn c.args.r (see m).queue yes c.session_at-new.ensures c.spot_of-spot.ensures.at in
    let low = c.requires.conn_bound in
    let n = c.splice_result-n.ensures in
    let room = room-waiting c.args.conn c.args.r m a.is n c.if-n-eq100.true low c.requires.form c.requires.holding in
    let fit = storable c.args.conn c.args.r m a.is n low c.requires.asked in
    let b = asks-taken c.args.conn c.args.r (see m).queue.waiting c.in-Some.t c.session_at-new.ensures
    c.spot_of-spot.ensures.taken in
    record {
      form = c.requires.form;
      holding = c.requires.holding;
      at_value = a.at;
      taken_value = b;
      m_len_bound = room;
      storable = fit;
      in_bounds = c.requires.in_bounds;
    }

pub returns-then-n-eq100 : goal.returns-then-n-eq100
returns-then-n-eq100 c =
    let m = c.args.m.now in
    let yes = sym c.start_of-start.ensures ∙ c.in-Some.is in
    let a = asks c.args.conn c.args.r (see m).queue yes c.session_at-new.ensures c.spot_of-spot.ensures.at in
    splice-accepted c.args.conn c.args.r m a.is c.splice_result-n.ensures c.if-n-eq100.true c.accept.ensures

pub splice_response-requires-2 : goal.splice_response-requires-2
splice_response-requires-2 c =
    omega (arith, c.requires.in_bounds)

pub returns : goal.returns
returns c =
    let m = c.args.m.now in
    let yes = sym c.start_of-start.ensures ∙ c.in-Some.is in
    let a = asks c.args.conn c.args.r (see m).queue yes c.session_at-new.ensures c.spot_of-spot.ensures.at in
    rw c.unmoved-2.ensures
    (splice-refused c.args.conn c.args.r m a.is c.splice_result-n.ensures c.if-n-eq100.false c.requires.form
    c.splice_response-2.ensures)

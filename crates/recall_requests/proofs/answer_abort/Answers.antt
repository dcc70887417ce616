-- 100 and behind it the ends (`abort-done`), or 121 alone (`abort-unknown`).
use Rattle.recall_requests.proofs.Admission.{abort-says, abort-none, abort-unknown, ends-room, abort-done}
use Rattle.recall_requests.proofs.answer_abort.Goals as goal

pub abort_response-len-requires : goal.abort_response-len-requires
abort_response-len-requires c =
    let a = c.args in
    abort-says a.conn a.id a.m.now c.is_held.ensures a.out.now c.requires c.if-is_held.true

pub abort-requires : goal.abort-requires
abort-requires c =
    let a = c.args in
    ends-room a.conn a.id a.m.now c.is_held.ensures a.out.now c.requires c.if-is_held.true c.abort_response-len.ensures
    c.abort_response-len.auto.out

pub returns-then-is_held : goal.returns-then-is_held
returns-then-is_held c =
    let a = c.args in
    abort-done a.conn a.id a.m.now c.is_held.ensures a.out.now c.requires c.if-is_held.true c.abort_response-len.ensures c.abort.ensures

pub abort_response-requires : goal.abort_response-requires
abort_response-requires c =
    let a = c.args in
    abort-none a.conn a.id a.m.now c.is_held.ensures a.out.now c.requires c.if-is_held.false

pub returns : goal.returns
returns c =
    let a = c.args in
    abort-unknown a.conn a.id a.m.now c.is_held.ensures a.out.now c.requires c.if-is_held.false c.abort_response.ensures

use borrow.Author.Rules.{rules}
use Rattle.recall_rules.specs.Verdicts.{has_started}
use Rattle.recall_rows.specs.Scans.{session_test}
use Rattle.recall_rules.specs.Work.{higher}
use Rattle.recall_ends.specs.Does.{all, by_access}
use Rattle.recall_ends.proofs.Laws.{as_room, as-done}
use Rattle.recall_ends.proofs.Stages.{started-shut, started-stage}
use Rattle.recall_ends.proofs.Loops.{loop-start, loop-room, loop-fewer, loop-next, loop-out}
use Rattle.recall_ends.proofs.end_started.Goals as goal

pub loop-i-init : goal.loop-i-init
loop-i-init c =
    let a = c.args in
    let how = by_access c.top_access-top.result a.air a.cover in
    loop-start has_started started-shut higher (session_test a.test) how a.m.now a.out.now a.len

pub end_one-to-requires-clause-room : goal.end_one-to-requires-clause-room
end_one-to-requires-clause-room c =
    let a = c.args in
    let how = by_access c.top_access-top.result a.air a.cover in
    let is = started-stage a.air a.cover (session_test a.test) (all a.m.now) c.top_access-top.result c.top_access-top.ensures in
    let room = as_room is a.out.now a.len c.requires in
    loop-room has_started started-shut higher (session_test a.test) how c.loop-i.invariant c.first_of.ensures.first
    c.in-Some.is c.as_was-how.ensures
    room

pub loop-i-smaller : goal.loop-i-smaller
loop-i-smaller c =
    let a = c.args in
    let how = by_access c.top_access-top.result a.air a.cover in
    loop-fewer has_started started-shut higher (session_test a.test) how c.loop-i.invariant c.first_of.ensures.first
    c.in-Some.is c.as_was-how.ensures
    c.end_one-to.ensures

pub loop-i-preserved : goal.loop-i-preserved
loop-i-preserved c =
    let a = c.args in
    let how = by_access c.top_access-top.result a.air a.cover in
    let is = started-stage a.air a.cover (session_test a.test) (all a.m.now) c.top_access-top.result c.top_access-top.ensures in
    let room = as_room is a.out.now a.len c.requires in
    loop-next has_started started-shut higher (session_test a.test) how c.loop-i.invariant c.first_of.ensures.first
    c.in-Some.is c.as_was-how.ensures
    c.end_one-to.ensures room (search rules) (search rules)

pub returns : goal.returns
returns c =
    let a = c.args in
    let how = by_access c.top_access-top.result a.air a.cover in
    let is = started-stage a.air a.cover (session_test a.test) (all a.m.now) c.top_access-top.result c.top_access-top.ensures in
    let room = as_room is a.out.now a.len c.requires in
    as-done is
    (loop-out has_started started-shut higher (session_test a.test) how c.loop-i.invariant c.first_of.ensures.first
    room c.in_default.is)

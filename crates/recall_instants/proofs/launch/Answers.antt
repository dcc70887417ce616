-- It starts (`launched-on`), or fails (`launched-off`).
use mathlib.Core.Path.{ap}
use Rattle.recall_rules.specs.declared.Verdict.{Verdict}
use Rattle.recall_ends.specs.Does.{all}
use Rattle.recall_instants.proofs.Starts.{as_room, as-done, launched-on, launched-off}
use Rattle.recall_instants.proofs.launch.Goals as goal

pub start-requires-clause-room : goal.start-requires-clause-room
start-requires-clause-room c =
    let a = c.args in
    let is = launched-on a.i (all a.m.now) c.load.result.session (ap (λ (v : Verdict). v.session) c.load.ensures) c.may_start.result
    c.may_start.ensures c.if-may_start.true in
    as_room is a.out.now a.len c.requires.room

pub end_chain-requires-clause-room : goal.end_chain-requires-clause-room
end_chain-requires-clause-room c =
    let a = c.args in
    let is = launched-off a.i (all a.m.now) c.load.result.session (ap (λ (v : Verdict). v.session) c.load.ensures) c.may_start.result
    c.may_start.ensures c.if-may_start.false in
    as_room is a.out.now a.len c.requires.room

pub returns-then-may_start : goal.returns-then-may_start
returns-then-may_start c =
    let a = c.args in
    let is = launched-on a.i (all a.m.now) c.load.result.session (ap (λ (v : Verdict). v.session) c.load.ensures) c.may_start.result
    c.may_start.ensures c.if-may_start.true in
    as-done is c.start.ensures

pub returns-else-may_start : goal.returns-else-may_start
returns-else-may_start c =
    let a = c.args in
    let is = launched-off a.i (all a.m.now) c.load.result.session (ap (λ (v : Verdict). v.session) c.load.ensures) c.may_start.result
    c.may_start.ensures c.if-may_start.false in
    as-done is c.end_chain.ensures

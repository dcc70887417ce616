-- Nothing is on air, or one with the AccessType (`ousted-equal`) or with another (`ousted-other`).
use mathlib.Core.Path.{refl}
use Rattle.recall_rules.specs.Work.{on_air}
use Rattle.recall_rows.proofs.Scans.{found, missing}
use Rattle.recall_ends.specs.Does.{all}
use Rattle.recall_ends.proofs.Laws.{loaded, turns-quiet}
use Rattle.recall_instants.proofs.Starts.{as_room, as-done, ousted-none, ousted-equal, ousted-other}
use Rattle.recall_instants.proofs.oust.Goals as goal

pub end_chain-requires-clause-room : goal.end_chain-requires-clause-room
end_chain-requires-clause-room c =
    let a = c.args in
    let l = all a.m.now in
    let f = found l c.on_air.ensures.on_air c.in-Some.is in
    as_room (ousted-equal a.x l c.in-Some.i f.0 c.load.result.session (loaded c.in-Some.i a.m.now c.load.result c.load.ensures) f.1
    c.if-air-x.true) a.out.now a.len c.requires

pub returns-then-air-x : goal.returns-then-air-x
returns-then-air-x c =
    let a = c.args in
    let l = all a.m.now in
    let f = found l c.on_air.ensures.on_air c.in-Some.is in
    as-done (ousted-equal a.x l c.in-Some.i f.0 c.load.result.session (loaded c.in-Some.i a.m.now c.load.result c.load.ensures) f.1
    c.if-air-x.true) c.end_chain.ensures

pub returns-else-air-x : goal.returns-else-air-x
returns-else-air-x c =
    let a = c.args in
    let l = all a.m.now in
    let f = found l c.on_air.ensures.on_air c.in-Some.is in
    as-done (ousted-other a.x l c.in-Some.i f.0 c.load.result.session (loaded c.in-Some.i a.m.now c.load.result c.load.ensures)
    c.if-air-x.false) turns-quiet

pub returns-in_default : goal.returns-in_default
returns-in_default c =
    let l = all c.args.m.now in
    as-done (ousted-none c.args.x l (on_air l) refl (missing l c.on_air.ensures.on_air c.in_default.is)) turns-quiet

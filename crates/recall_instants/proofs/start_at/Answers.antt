-- The one that waits for t, found by a scan (`start-one`), or none.
use mathlib.Core.Path.{refl}
use Rattle.rules.specs.State.{starts_at}
use Rattle.recall_rules.specs.Verdicts.{is_waiting, which}
use Rattle.recall_rows.proofs.Scans.{found, missing}
use Rattle.recall_ends.specs.Does.{all}
use Rattle.recall_ends.proofs.Laws.{turns-quiet}
use Rattle.recall_instants.proofs.Starts.{as_room, as-done, start-one, start_none}
use Rattle.recall_instants.proofs.start_at.Goals as goal

pub launch-requires-clause-room : goal.launch-requires-clause-room
launch-requires-clause-room c =
    let a = c.args in
    let f = found (all a.m.now) c.find.ensures.first c.in-Some.is in
    as_room (start-one a.t.0 c.in-Some.i (all a.m.now) f.0 f.1) a.out.now a.len c.requires

pub returns-in-Some : goal.returns-in-Some
returns-in-Some c =
    let a = c.args in
    let f = found (all a.m.now) c.find.ensures.first c.in-Some.is in
    as-done (start-one a.t.0 c.in-Some.i (all a.m.now) f.0 f.1) c.launch.ensures

pub returns-in-None : goal.returns-in-None
returns-in-None c =
    let t = c.args.t.0 in
    let l = all c.args.m.now in
    as-done (start_none t (which is_waiting (starts_at t) l) l refl (missing l c.find.ensures.first c.in-None.is)) turns-quiet

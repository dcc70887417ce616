-- The one found, or none (`evicted-one`, `evicted-none`). Rests on what `end_chain` and recall_rows promise.
use mathlib.Core.Path.{refl}
use Rattle.rules.specs.State.{starts_at}
use Rattle.recall_rules.specs.Verdicts.{is_waiting, which}
use Rattle.recall_rows.proofs.Scans.{found, missing}
use Rattle.recall_ends.specs.Does.{all}
use Rattle.recall_ends.proofs.Laws.{evicted-one, evicted-none, turns-quiet, as_room, as-done}
use Rattle.recall_ends.proofs.evict.Goals as goal

pub end_chain-requires-clause-room : goal.end_chain-requires-clause-room
end_chain-requires-clause-room c =
    let a = c.args in
    let f = found (all a.m.now) c.find.ensures.first c.in-Some.is in
    as_room (evicted-one a.t c.in-Some.i (all a.m.now) f.0 f.1) a.out.now a.len c.requires

pub returns-in-Some : goal.returns-in-Some
returns-in-Some c =
    let a = c.args in
    let f = found (all a.m.now) c.find.ensures.first c.in-Some.is in
    as-done (evicted-one a.t c.in-Some.i (all a.m.now) f.0 f.1) c.end_chain.ensures

pub returns-in-None : goal.returns-in-None
returns-in-None c =
    let t = c.args.t in
    let l = all c.args.m.now in
    as-done (evicted-none t (which is_waiting (starts_at t) l) l refl (missing l c.find.ensures.first c.in-None.is)) turns-quiet

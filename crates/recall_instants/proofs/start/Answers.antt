-- It no longer waits (`started-is`), an equal one on air ends, and it goes on air.
use Rattle.recall_ends.specs.Does.{all}
use Rattle.recall_ends.proofs.Laws.{loaded}
use Rattle.recall_instants.specs.Moments.{begins}
use Rattle.recall_instants.proofs.Starts.{first-room, next-room, both-done, started-is}
use borrow.Author.Rules.{rules}
use Rattle.recall_instants.proofs.start.Goals as goal

pub oust-to-requires : goal.oust-to-requires
oust-to-requires c =
    let a = c.args in
    let x = c.load.result.session in
    let is = started-is a.i (all a.m.now) x (loaded a.i a.m.now c.load.result c.load.ensures) _ c.store.ensures in
    first-room _ (begins a.i x) is a.out.now a.len c.requires.room

pub begin-requires-clause-room : goal.begin-requires-clause-room
begin-requires-clause-room c =
    let a = c.args in
    let x = c.load.result.session in
    let is = started-is a.i (all a.m.now) x (loaded a.i a.m.now c.load.result c.load.ensures) _ c.store.ensures in
    next-room _ (begins a.i x) is a.out.now a.len c.requires.room c.oust-to.ensures (search rules)

pub returns : goal.returns
returns c =
    let a = c.args in
    let x = c.load.result.session in
    let is = started-is a.i (all a.m.now) x (loaded a.i a.m.now c.load.result c.load.ensures) _ c.store.ensures in
    both-done _ (begins a.i x) is a.out.now a.len c.requires.room c.oust-to.ensures c.begin.ensures

-- The started ones, then the waiting ones (`cancelled-is`). Rests on what `end_started` and `end_waiting` promise.
use Rattle.rules.specs.declared.Ending.TheVariants.{Complete, Response}
use Rattle.recall_rows.specs.Scans.{session_test}
use Rattle.recall_ends.specs.Does.{all, started_end, waiting_end}
use Rattle.recall_ends.proofs.Laws.{cancelled-is, first-room, next-room, both-done}
use borrow.Author.Rules.{rules}
use Rattle.recall_ends.proofs.end_all.Goals as goal

pub end_started-to-requires : goal.end_started-to-requires
end_started-to-requires c =
    let a = c.args in
    let p = session_test a.test in
    let l = all a.m.now in
    first-room (started_end (Complete 116) (Response 116) p l) (waiting_end (Response 116) p) (cancelled-is p l) a.out.now a.len c.requires

pub end_waiting-requires : goal.end_waiting-requires
end_waiting-requires c =
    let a = c.args in
    let p = session_test a.test in
    let l = all a.m.now in
    next-room (started_end (Complete 116) (Response 116) p l) (waiting_end (Response 116) p) (cancelled-is p l) a.out.now a.len c.requires
    c.end_started-to.ensures (search rules)

pub returns : goal.returns
returns c =
    let a = c.args in
    let p = session_test a.test in
    let l = all a.m.now in
    both-done (started_end (Complete 116) (Response 116) p l) (waiting_end (Response 116) p) (cancelled-is p l) a.out.now a.len c.requires
    c.end_started-to.ensures c.end_waiting.ensures

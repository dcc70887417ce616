-- Its own end, then its followers' (`aborted-is`). Rests on what `end_all` and `dismiss` promise.
use Rattle.rules.specs.State.{is}
use Rattle.recall_rules.specs.Work.{dismissed, cancelled}
use Rattle.recall_ends.specs.Does.{all}
use Rattle.recall_ends.proofs.Laws.{aborted-is, first-room, next-room, both-done}
use borrow.Author.Rules.{rules}
use Rattle.recall_ends.proofs.abort.Goals as goal

pub end_all-to-requires : goal.end_all-to-requires
end_all-to-requires c =
    let a = c.args in
    let l = all a.m.now in
    first-room (cancelled (is a.conn a.id) l) (dismissed 116 a.conn a.id) (aborted-is a.conn a.id l) a.out.now a.len c.requires

pub dismiss-requires : goal.dismiss-requires
dismiss-requires c =
    let a = c.args in
    let l = all a.m.now in
    next-room (cancelled (is a.conn a.id) l) (dismissed 116 a.conn a.id) (aborted-is a.conn a.id l) a.out.now a.len c.requires
    c.end_all-to.ensures (search rules)

pub returns : goal.returns
returns c =
    let a = c.args in
    let l = all a.m.now in
    both-done (cancelled (is a.conn a.id) l) (dismissed 116 a.conn a.id) (aborted-is a.conn a.id l) a.out.now a.len c.requires
    c.end_all-to.ensures c.dismiss.ensures

-- Its own end, then its followers' (`chain-is`). Rests on what `end_one` and `dismiss` promise.
use borrow.Author.Rules.{rules}
use Rattle.recall_rules.specs.Work.{dismissed}
use Rattle.recall_ends.specs.Does.{all, one_over}
use Rattle.recall_ends.proofs.Laws.{loaded, chain-is, first-room, next-room, both-done}
use Rattle.recall_ends.proofs.end_chain.Goals as goal

pub end_one-to-requires-clause-room : goal.end_one-to-requires-clause-room
end_one-to-requires-clause-room c =
    let a = c.args in
    let x = c.load.result.session in
    let chain = chain-is a.how a.res a.i x (all a.m.now) (loaded a.i a.m.now c.load.result c.load.ensures) in
    first-room (one_over a.how a.i (all a.m.now)) (dismissed a.res x.conn x.id) chain a.out.now a.len c.requires.room

pub dismiss-requires : goal.dismiss-requires
dismiss-requires c =
    let a = c.args in
    let x = c.load.result.session in
    let chain = chain-is a.how a.res a.i x (all a.m.now) (loaded a.i a.m.now c.load.result c.load.ensures) in
    next-room (one_over a.how a.i (all a.m.now)) (dismissed a.res x.conn x.id) chain a.out.now a.len c.requires.room c.end_one-to.ensures
    (search rules)

pub returns : goal.returns
returns c =
    let a = c.args in
    let x = c.load.result.session in
    let chain = chain-is a.how a.res a.i x (all a.m.now) (loaded a.i a.m.now c.load.result c.load.ensures) in
    both-done (one_over a.how a.i (all a.m.now)) (dismissed a.res x.conn x.id) chain a.out.now a.len c.requires.room c.end_one-to.ensures
    c.dismiss.ensures

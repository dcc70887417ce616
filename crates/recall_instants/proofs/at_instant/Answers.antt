-- The ends, and from there the start (`both-done`), within the room for both.
use Rattle.recall_rules.specs.Work.{start_at, end_at}
use Rattle.recall_ends.specs.Does.{all}
use Rattle.recall_instants.proofs.Starts.{first-room, next-room, both-done, instant-is}
use borrow.Author.Rules.{rules}
use Rattle.recall_instants.proofs.at_instant.Goals as goal

pub end_due-to-requires : goal.end_due-to-requires
end_due-to-requires c =
    let a = c.args in
    let t = c.args.t.0 in
    let l = all a.m.now in
    first-room (end_at t l) (start_at t) (instant-is t l) a.out.now a.len c.requires

pub start_at-requires : goal.start_at-requires
start_at-requires c =
    let a = c.args in
    let t = c.args.t.0 in
    let l = all a.m.now in
    next-room (end_at t l) (start_at t) (instant-is t l) a.out.now a.len c.requires
    c.end_due-to.ensures (search rules)

pub returns : goal.returns
returns c =
    let a = c.args in
    let t = c.args.t.0 in
    let l = all a.m.now in
    both-done (end_at t l) (start_at t) (instant-is t l) a.out.now a.len c.requires c.end_due-to.ensures
    c.start_at.ensures

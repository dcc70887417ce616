-- Accepted or not (`splice-joins`, `splice-refused`); the room is recall_requests' (`splice-room`).
use borrow.Author.Tests.{le-ltb}
use Rattle.recall_requests.proofs.Rooms.{splice-room}
use Rattle.recall_answers.proofs.Laws.{splice-joins, splice-refused}
use Rattle.recall_answers.proofs.answer_splice.Goals as goal

pub answer_splice-a-requires : goal.answer_splice-a-requires
answer_splice-a-requires c =
    let room = splice-room c.args.m.now c.args.out.now c.requires.keeps (le-ltb _ _ c.requires.in_bounds) in
    record { keeps = c.requires.keeps; clock_lt_horizon = c.requires.clock_lt_horizon; asked = c.requires.asked; room = room _ _ _ }

pub returns-in-Some : goal.returns-in-Some
returns-in-Some c = splice-joins c.args.conn c.args.r c.args.h c.args.m.now c.answer_splice-a.ensures c.in-Some.is

pub returns-in-None : goal.returns-in-None
returns-in-None c = splice-refused c.args.conn c.args.r c.args.h c.args.m.now c.answer_splice-a.ensures c.in-None.is c.said.ensures

-- The whole list is passed (`none-behind`).
use Rattle.rules.specs.State.{of}
use Rattle.places.specs.Places.{lot}
use Rattle.places.proofs.Laws.{none-behind}
use Rattle.places.proofs.omit_of.Goals as goal

pub close_up-requires-clause-rest : goal.close_up-requires-clause-rest
close_up-requires-clause-rest c = none-behind (of c.args.conn) (lot c.args.q.now c.args.ring_end c.args.n) c.requires.good

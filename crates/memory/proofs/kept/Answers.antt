-- All 256 of them (`kept-part`).
use Rattle.memory.proofs.Names.{kept-part}
use Rattle.memory.proofs.kept.Goals as goal

pub returns : goal.returns
returns c = let both = kept-part c.args.b.now c.args.c c.requires.stored c.requires.c_bound in
    record { is = both.0; whole = both.1 }

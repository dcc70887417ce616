-- The bytes of the connection hold the structure (`kept-now`).
use Rattle.memory.proofs.Names.{kept-now}
use Rattle.memory.proofs.keep.Goals as goal

pub returns : goal.returns
returns c =
    let put-kept = c.put_kept in
    rw put-kept.ensures (kept-now c.args.b.now c.args.c c.args.h.now c.requires.stored c.requires.c_bound c.requires.h_len.0
    c.requires.h_len.1)

-- All else shows as before (`linked-now`).
use Rattle.memory.proofs.Laws.{linked-now}
use Rattle.memory.proofs.set_link.Goals as goal

pub returns : goal.returns
returns c =
    linked-now c.args.m.now c.args.c c.args.l c.word_of.result c.requires.c_bound c.word_of.ensures c.requires.form

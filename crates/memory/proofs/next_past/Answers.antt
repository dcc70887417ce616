-- The word of the next place is read where it stands (`next_word_lem`).
use native.Mathlib.Omega.{arith}
use Rattle.memory.proofs.Laws.{next_word_lem}
use Rattle.memory.proofs.next_past.Goals as goal

pub returns : goal.returns
returns c =
    let w = next_word_lem c.args.m.now in
    record { value = w; within = omega (arith, w, c.requires.late) }

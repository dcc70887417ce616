-- The flags say what goes, and from `end` on none does.
use native.Mathlib.Omega.{arith}
use Rattle.places.specs.Places.{lot}
use Rattle.places.proofs.Laws.{length-used}
use Rattle.places.proofs.omit_flagged.Goals as goal

pub close_up-requires-clause-end_le_n : goal.close_up-requires-clause-end_le_n
close_up-requires-clause-end_le_n c =
    omega (arith, length-used (lot c.args.q.now c.args.ring_end c.args.n) c.requires.good, c.requires.unflagged.within)

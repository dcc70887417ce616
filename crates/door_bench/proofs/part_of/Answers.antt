-- By whether something is due.
-- Rests on proofs/Staged.
use Rattle.door_bench.proofs.Staged.{part-some, part_none}
use Rattle.door_bench.proofs.part_of.Goals as goal

pub returns-then-s : goal.returns-then-s
returns-then-s c = part-some _

pub returns : goal.returns
returns c = part_none c.args.s c.if-s.false

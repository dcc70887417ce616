-- The lent memory holds what the stage says, and the buffer stays as long as it was.
use Rattle.std.proofs.Common.{◌≡◌, length}
use Rattle.follow.specs.Following.{Holds}
use Rattle.referee.proofs.turns.Given as goal

abbrev pub invariant-loop : goal.invariant-loop
invariant-loop l = Holds l.t l.m l.b l.due l.kept × (length l.input ≡ length l.initial.input)

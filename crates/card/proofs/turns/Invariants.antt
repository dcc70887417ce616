-- Whatever the turns to come give, it is what the whole program gives.
-- Rests on proofs/Turning, one more turn.
use Rattle.std.proofs.Common.{◌≡◌, ◌-◌, length}
use Rattle.memory.specs.Memory.{shown}
use Rattle.card.specs.Ran.{most}
use Rattle.card.proofs.Turning.{Turning}
use Rattle.card.proofs.turns.Given as goal

abbrev pub invariant-loop : goal.invariant-loop
invariant-loop l =
    Turning (shown l.initial.m l.initial.b) (most - l.counter) l.m l.b l.input l.have × (length l.input ≡ length l.initial.input)
    × (length l.out ≡ length l.initial.out)

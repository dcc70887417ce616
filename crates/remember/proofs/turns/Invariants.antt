-- Whatever the records to come give, it is what the whole program gives; and the buffers keep their lengths.
-- Rests on proofs/Turning, one more record.
use Rattle.std.proofs.Common.{◌≡◌, ◌-◌, length}
use Rattle.remember.specs.Remembered.{most}
use Rattle.remember.proofs.Turning.{Turning}
use Rattle.remember.proofs.turns.Given as goal

abbrev pub invariant-loop-turn : goal.invariant-loop-turn
invariant-loop-turn l =
    Turning l.initial.log (most - l._turn) l.log × (length l.log ≡ length l.initial.log) × (length l.l ≡ length l.initial.l)
    × (length l.out ≡ length l.initial.out)

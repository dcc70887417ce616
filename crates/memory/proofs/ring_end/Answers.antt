-- The word of the ring's end, or 0: the started never come round. That it is a place of the ring is asked of the words.
use mathlib.Core.Path.{sym, ap}
use Rattle.memory.specs.declared.Which.{Which}
use Rattle.memory.specs.Memory.{ring_of}
use Rattle.memory.proofs.ring_end.Goals as goal

pub returns-in-Waiting : goal.returns-in-Waiting
returns-in-Waiting c =
    record { value = ap (λ (v : Which). ring_of v c.args.m.now) (sym c.in-Waiting.is); within = c.requires.ring }

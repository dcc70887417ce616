-- 02, CR 7, of one cue call: the memory stays. Rests on demands' Cued and on memory's memory-same: what two memories show and where their
-- rings end
-- determines their words and bytes.
use mathlib.Core.Path.{◌≡◌, ap, ◌∙◌}
use mathlib.Core.List.{List}
use Prim.Native.Nat.{ℕ}
use lib.ListN.{length}
use Rattle.memory.specs.Memory.{see, shifted}
use Rattle.memory.proofs.Laws as memory
use Rattle.demands.proofs.Cued.{cue-same, cue-unaccepted}
use Rattle.engine.specs.Lent.{Lent}
use Rattle.demands_engine.specs.Trace.{Memory, shown, a_cue, Result, Allowed}
use Rattle.demands_engine.proofs.Steps.{promised, memory-same}

pub memory-stays : (m : Memory) (l : List ℕ) (pts seconds micros : ℕ) (e : List ℕ) (r : Result) → Lent m.words m.bytes
    → Allowed m (a_cue l pts seconds micros e) r → r.memory ≡ m
memory-stays m l pts seconds micros e r d a =
    let p = promised m (a_cue l pts seconds micros e) r a in
    let at = (see m.words).ring_end in
    let k = memory.memory-same r.memory.words r.memory.bytes m.words m.bytes p.lent.whole d.whole
    (p.ring ∙ ap (λ b. shifted b at) (cue-unaccepted (shown m) l pts seconds micros (length e)))
    (p.splicer ∙ cue-same (shown m) l pts seconds micros (length e)) in
    memory-same r.memory m k.0 k.1

-- What `More` asks for is met: from any trace each input of the types goes on, so a word of it that asked more would be refused here. For
-- `Trace` it is Answerable's runs and Cited's name-typed. Rests on proofs/Answerable.
use mathlib.Core.List.{List}
use Prim.Native.Nat.{ℕ}
use Rattle.demands_engine.specs.Trace.{Memory, Input, Typed, Result, Made, Trace, More}
use Rattle.demands_engine.proofs.Course.{trace-lent}
use Rattle.demands_engine.proofs.Answerable.{answerable}

-- from every trace, a call with any input of the types
pub any-more : (name : List ℕ) (h : List Made) (m : Memory) → Trace name h m → (i : Input) → Typed i → (r : Result) × More name h m i r
any-more name h m t i k =
    let a = answerable m (trace-lent name h m t) i k in
    (a.result, record { trace = t; typed = k; allowed = a.allowed })

-- "every call takes every input", of the types alone: any list of what C can hand in is a run, and each goes on from any trace. So a word
-- of a trace that asked more than the types would be refused here, and one that asked less by name_typed. Rests on proofs/Course.
use mathlib.Core.Path.{◌≡◌, refl}
use mathlib.Core.List.{List, [], ◌∷◌, map}
use Prim.Native.Nat.{ℕ, ◌<◌}
use native.Mathlib.Omega.{arith}
use lib.ListN.{length}
use contract.Lifetimes.{Lfts}
use denote.Ref.{Bor}
use Rattle.rules.specs.Lists.{All}
use Rattle.rules.specs.Follows.Wires.{Byte}
use Rattle.engine.proofs.Held.{kind, Holds, Same}
use Rattle.door.specs.Door.{Input, an_open, a_close, a_message, a_tick, a_cue, Typed, Seen}
use Rattle.door.proofs.Cited as door
use Rattle.door.specs.contracts.splicer_7_fresh as fresh
use Rattle.demands_engine.specs.Trace.{Memory}
use Rattle.demands_engine.proofs.Course as core
use Rattle.demands_door.specs.Driven.{Made, Trace, More, Run}
use Rattle.demands_door.specs.Handed.{Word, Slice, Name, Handed, to_open, to_close, to_message, to_tick, to_cue, input_of}
use Rattle.demands_door.proofs.Inside.{trace-inside}
use Rattle.demands_door.proofs.Course.{answerable, runs}

pub handed-typed : (x : Handed) → Typed (input_of x)
handed-typed (to_open conn) = conn.low
handed-typed (to_close conn e) = conn.low
handed-typed (to_message conn l pm im e) = (conn.low, l.bytes, pm.bytes, im.bytes)
handed-typed (to_tick seconds micros e) = (seconds.low, micros.low)
handed-typed (to_cue l high low seconds micros e) = (l.bytes, refl, (high.low, (low.low, (seconds.low, (micros.low, tt)))))

all_typed : (xs : List Handed) → All Typed (map input_of xs)
all_typed [] = tt
all_typed (x ∷ xs) = (handed-typed x, all_typed xs)

-- any name, then any calls
pub any-inputs : (name : Name) (xs : List Handed) → Run name.list (map input_of xs)
any-inputs name xs = runs name.list name.whole name.bytes (map input_of xs) (all_typed xs)

-- from every trace, any call
pub any-more : (name : List ℕ) (h : List Made) (m : Memory) → Trace name h m → (x : Handed) → (r : Seen) × More name h m (input_of x) r
any-more name h m t x =
    let a = answerable m (core.trace-lent name _ m (trace-inside name h m t)) (input_of x) (handed-typed x) in
    (a.result, record { trace = t; typed = handed-typed x; allowed = a.allowed })

-- a trace asks of a name what its type says
pub name_typed : (κs : Lfts 4) (name : Bor (List ℕ)) → Same (Holds (kind fresh.signature κs 0) name) (Run name.now [])
name_typed κs name =
    let n = door.name_typed κs name in
    ((λ h. runs name.now (n.0 h).0 (n.0 h).1 [] tt), λ t. n.1 (t.trace.whole, t.trace.bytes))

-- and all that the types let in can be handed in: each name and each input of the types is one
pub name-handed : (name : List ℕ) → length name ≡ 32 → All Byte name → (n : Name) × (n.list ≡ name)
name-handed name w b = (record { list = name; whole = w; bytes = b }, refl)

abbrev pub word : (x : ℕ) → x < 4294967296 → Word
word x low = record { value = x; low = low }

abbrev pub slice : (l : List ℕ) → All Byte l → Slice
slice l bytes = record { list = l; bytes = bytes }

pub input-handed : (i : Input) → Typed i → (x : Handed) × (input_of x ≡ i)
input-handed (an_open c) t = (to_open (word c t), refl)
input-handed (a_close c e) t = (to_close (word c t) e, refl)
input-handed (a_message c l pm im e) t = (to_message (word c t.0) (slice l t.1) (slice pm t.2) (slice im t.3) e, refl)
input-handed (a_tick s u e) t = (to_tick (word s t.0) (word u t.1) e, refl)
input-handed (a_cue l (a ∷ b ∷ c ∷ d ∷ []) e) t =
    let w = t.2 in
    (to_cue (slice l t.0) (word a w.0) (word b w.1.0) (word c w.1.1.0) (word d w.1.1.1.0) e, refl)
input-handed (a_cue l [] e) t = absurd (omega (arith, t.1))
input-handed (a_cue l (a ∷ []) e) t = absurd (omega (arith, t.1))
input-handed (a_cue l (a ∷ b ∷ []) e) t = absurd (omega (arith, t.1))
input-handed (a_cue l (a ∷ b ∷ c ∷ []) e) t = absurd (omega (arith, t.1))
input-handed (a_cue l (a ∷ b ∷ c ∷ d ∷ f ∷ g) e) t = absurd (omega (arith, t.1))

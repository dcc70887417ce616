-- "every call takes every input", of the types alone, for this card: any list of what C can hand in is a run, and each goes on from any
-- trace. So a word of a trace that asked more than the types would be refused here, and one that asked less by name_typed. And a run over
-- the rollover meets all that true-time asks. Rests on proofs/Course and on rolling's course-shown.
use mathlib.Core.Path.{◌≡◌, refl, sym, ap, subst, ◌∙◌}
use mathlib.Core.List.{List, [], ◌∷◌, map}
use Prim.Native.Nat.{ℕ, ◌+◌, ◌*◌, ◌%◌, ◌≤◌}
use native.Mathlib.Omega.{arith}
use contract.Lifetimes.{Lfts}
use lib.ListN.{length, replicate, length-replicate}
use denote.Ref.{Bor}
use Rattle.rules.specs.Lists.{All}
use Rattle.rules.specs.Units.{time_of, from_micros}
use Rattle.rules.specs.Follows.Sequences.{rolling_of, rolling_fresh, rolled_after}
use Rattle.engine.proofs.Held.{kind, Holds, Same}
use Rattle.rolling.specs.Ruled.{ticked}
use Rattle.rolling.proofs.Time.{Shows, course, course-shown}
use Rattle.door.specs.Door.{an_open, a_close, a_message, a_tick, a_cue}
use Rattle.door_rolling.specs.RollDoor.{RollInput, a_known, an_instant, a_reading, RollTyped, roll_call_of, RollSeen}
use Rattle.door_rolling.proofs.Cited as rolldoor
use Rattle.door_rolling.specs.contracts.splicer_7_rolling_fresh as fresh
use Rattle.demands_door.specs.Handed.{Word, Slice, Name}
use Rattle.demands_door.specs.Handed as door
use Rattle.demands_door.proofs.Any.{handed-typed, word, slice}
use Rattle.demands_rolling.specs.Rolled.{Memory, shown, Made, Trace, More, calls, inputs, Run}
use Rattle.demands_rolling.specs.Handed.{Handed, to_open, to_close, to_message, to_cue, to_instant, to_reading, input_of}
use Rattle.demands_rolling.proofs.Inside.{trace-lent, trace-shown}
use Rattle.demands_rolling.proofs.Course.{answerable, runs}

typed : (x : Handed) → RollTyped (input_of x)
typed (to_open conn) = (handed-typed (door.to_open conn), tt)
typed (to_close conn e) = (handed-typed (door.to_close conn e), tt)
typed (to_message conn l pm im e) = (handed-typed (door.to_message conn l pm im e), tt)
typed (to_cue l high low seconds micros e) = (handed-typed (door.to_cue l high low seconds micros e), tt)
typed (to_instant seconds micros x e) = (refl, (seconds.low, (micros.low, (x.low, tt))))
typed (to_reading x e) = x.low

all_typed : (xs : List Handed) → All RollTyped (map input_of xs)
all_typed [] = tt
all_typed (x ∷ xs) = (typed x, all_typed xs)

-- any name, then any calls
pub any-inputs : (name : Name) (xs : List Handed) → Run name.list (map input_of xs)
any-inputs name xs = runs name.list name.whole name.bytes (map input_of xs) (all_typed xs)

-- from every trace, any call
pub any-more : (name : List ℕ) (h : List Made) (m : Memory) → Trace name h m → (x : Handed) → (r : RollSeen) × More name h m (input_of x) r
any-more name h m t x =
    let a = answerable m (trace-lent name h m t) (input_of x) (typed x) in
    (a.result, record { trace = t; typed = typed x; allowed = a.allowed })

-- a trace asks of a name what its type says
pub name_typed : (κs : Lfts 5) (name : Bor (List ℕ)) → Same (Holds (kind fresh.signature κs 0) name) (Run name.now [])
name_typed κs name =
    let n = rolldoor.name_typed κs name in
    ((λ h. runs name.now (n.0 h).0 (n.0 h).1 [] tt), λ t. n.1 (t.trace.whole, t.trace.bytes))

-- and all that the types let in can be handed in: each input of the types is one, as each name is (driven's name-handed)
pub input-handed : (i : RollInput) → RollTyped i → (x : Handed) × (input_of x ≡ i)
input-handed (a_known (an_open c)) t = (to_open (word c t.0), refl)
input-handed (a_known (a_close c e)) t = (to_close (word c t.0) e, refl)
input-handed (a_known (a_message c l pm im e)) t =
    let d = t.0 in
    (to_message (word c d.0) (slice l d.1) (slice pm d.2) (slice im d.3) e, refl)
input-handed (a_known (a_tick s u e)) t = absurd t.1
input-handed (a_known (a_cue l (a ∷ b ∷ c ∷ d ∷ []) e)) t =
    let w = t.0.2 in
    (to_cue (slice l t.0.0) (word a w.0) (word b w.1.0) (word c w.1.1.0) (word d w.1.1.1.0) e, refl)
input-handed (a_known (a_cue l [] e)) t = absurd (omega (arith, t.0.1))
input-handed (a_known (a_cue l (a ∷ []) e)) t = absurd (omega (arith, t.0.1))
input-handed (a_known (a_cue l (a ∷ b ∷ []) e)) t = absurd (omega (arith, t.0.1))
input-handed (a_known (a_cue l (a ∷ b ∷ c ∷ []) e)) t = absurd (omega (arith, t.0.1))
input-handed (a_known (a_cue l (a ∷ b ∷ c ∷ d ∷ f ∷ g) e)) t = absurd (omega (arith, t.0.1))
input-handed (an_instant (a ∷ b ∷ c ∷ []) e) t =
    let w = t.1 in
    (to_instant (word a w.0) (word b w.1.0) (word c w.1.1.0) e, refl)
input-handed (an_instant [] e) t = absurd (omega (arith, t.0))
input-handed (an_instant (a ∷ []) e) t = absurd (omega (arith, t.0))
input-handed (an_instant (a ∷ b ∷ []) e) t = absurd (omega (arith, t.0))
input-handed (an_instant (a ∷ b ∷ c ∷ d ∷ g) e) t = absurd (omega (arith, t.0))
input-handed (a_reading x e) t = (to_reading (word x t) e, refl)

-- ## A run that is in time, over the rollover

abbrev buffer : List ℕ
buffer = replicate 4096 0

abbrev zero : Word
zero = record { value = 0; low = omega arith }

abbrev empty : Slice
empty = record { list = []; bytes = tt }

-- a reading of what the counter shows, d ticks after its last reading before the rollover
abbrev later : (d : ℕ) → Handed
later d = to_reading (record { value = (4294967295 + d) % 4294967296; low = omega arith }) buffer

-- rolling's course, as C hands it in
abbrev driver : List Handed
driver =
    to_instant zero zero (record { value = 4294967295; low = omega arith }) buffer ∷ to_open zero ∷ later 8100000
    ∷ to_message zero empty empty empty buffer ∷ later 8100000
    ∷ to_cue empty zero zero zero zero buffer ∷ later 8100001 ∷ to_close zero buffer ∷ []

calls-inputs : (h : List Made) → calls h ≡ map roll_call_of (inputs h)
calls-inputs [] = refl
calls-inputs (x ∷ h) = ap (λ ks. roll_call_of x.input ∷ ks) (calls-inputs h)

pub true-time-met : (name : Name) → (r : Run name.list (map input_of driver))
    × Shows (4294967295 + ticked (course (length buffer))) ((from_micros (time_of 0 0)).0 + 100 * ticked (course (length buffer)))
    (shown r.memory)
true-time-met name =
    let r = any-inputs name driver in
    let k = trace-shown name.list r.course r.memory r.trace in
    let c = calls-inputs r.course ∙ ap (map roll_call_of) r.same in
    let e = k ∙ ap (λ ks. rolled_after ks (rolling_of (rolling_fresh name.list))) c in
    let long : 4096 ≤ length buffer = omega (arith, length-replicate {A = ℕ} 4096 0) in
    (r, subst (Shows _ _) (sym e) (course-shown (length buffer) long name.list))

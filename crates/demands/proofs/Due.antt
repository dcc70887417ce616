-- When a tick does anything: nothing before the next start or end, at least one record from it on. Rests on proofs/Writes and on what is
-- known of every splicer from fresh.
use mathlib.Core.Path.{◌≡◌, refl, ap, ◌∙◌}
use mathlib.Core.Bool.{Bool, true, false}
use mathlib.Core.List.{List, []}
use Prim.Native.Nat.{ℕ, ◌*◌, ◌/◌, ◌%◌, ◌≤◌, ◌<◌}
use native.Mathlib.Omega.{arith}
use lib.Dec.{ltb}
use lib.ListN.{length, get_or}
use borrow.Author.Tests.{ltb-false, leb-true, leb-false, le-ltb}
use Rattle.rules.specs.declared.Ninths.{Ninths}
use Rattle.rules.specs.declared.Refusal.TheVariants.{NoRoom, ClockBack, BadMicros}
use Rattle.rules.specs.Units.{second, bad_micros, up_micros}
use Rattle.rules.specs.State.{Splicer, due, not_after}
use Rattle.rules.specs.Follows.ReadBack.{records_in}
use Rattle.rules.specs.HouseNumbers.{Called, written_by, no_room}
use Rattle.rules.specs.Calls.{ticked, move_call, tick_call, ticks, moves, call, beyond, due_row}
use Rattle.rules.specs.Follows.Sound.{OnTime}
use Rattle.rules.specs.Units.{horizon}
use Rattle.rules.proofs.Tests.{by, clash}
use Rattle.rules.proofs.Tick.{due-meets, not_after-at, not_after-none}
use Rattle.rules.proofs.Timed.{meets-after}
use Rattle.rules.proofs.Fitted.{records_of}
use Rattle.rules.proofs.Sound.{sound-found}
use Rattle.demands.specs.History.{Event}
use Rattle.demands.specs.Told.{FromFresh, number_of}
use Rattle.demands.specs.Due.{time_in, Before, NotBefore, FirstTick}
use Rattle.demands.proofs.Refusals.{a-number}
use Rattle.demands.proofs.Room.{from-sound}
use Rattle.demands.proofs.Writes.{ticked-quiet, ticked-writes, ticked-stays}
use Rattle.std.specs.Prelude.{None, Option, Some}

-- by the words of `due_row`, whether it is before what is due
module _ (until : ℕ) where
  row_before : (w : Option Ninths) → Before (due_row w) until → not_after until w ≡ None
  unfolding due_row
  row_before None h = refl
  row_before (Some t) h =
      not_after-none until t
      (by (λ (r : List ℕ). Before r until → until < t.0) (beyond t.0) _ _ (λ e f. f (omega arith)) (λ e f. f (omega arith)) h)

  pub record Comes (w : Option Ninths) : Type 0 where
    pub t : Ninths
    pub is : w ≡ Some t
    pub by-then : t.0 ≤ until

  row-not-before : (w : Option Ninths) → NotBefore (due_row w) until → Comes w
  unfolding due_row
  row-not-before None h = absurd (omega (arith, h.0))
  row-not-before (Some t) h =
      let P : List ℕ → Type 0 = λ r. NotBefore r until → t.0 ≤ until in
      record { t = t; is = refl; by-then = by P (beyond t.0) _ _ (λ e f. f.1) (λ e f. f.1) h }

  pub comes : {w : Option Ninths} (c : Comes w) → not_after until w ≡ Some c.t
  comes c = ap (not_after until) c.is ∙ not_after-at until c.t c.by-then

pub row-never : get_or (due_row None) 0 0 ≡ 0
unfolding due_row
row-never = refl

pub row_at : (t : Ninths) → (0 < get_or (due_row (Some t)) 0 0) × (get_or (due_row (Some t)) 1 0 ≡ t.0)
unfolding due_row
row_at t =
    by (λ (r : List ℕ). (0 < get_or r 0 0) × (get_or r 1 0 ≡ t.0)) (beyond t.0) _ _
    (λ e. (omega arith, refl)) (λ e. (omega arith, refl))

-- THEOREM A: before what is due, or with nothing due, a tick writes no byte, whether it is good or refused
module _ (s : Splicer) where
  abbrev row : List ℕ
  row = due_row (due s.queue)

  pub move-quiet : (until room : ℕ) → Before row until → written_by (move_call until room s).answer ≡ []
  unfolding move_call written_by
  move-quiet until room h =
      by (λ (r : Called). written_by r.answer ≡ []) (no_room room) _ _ (λ e. refl)
      (λ e. by (λ (r : Called). written_by r.answer ≡ []) (ltb until s.clock) _ _ (λ f. refl)
      (λ f. ticked-quiet until s (row_before until (due s.queue) h)))

  pub tick-quiet : (seconds micros room : ℕ) → Before row (time_in seconds micros)
      → written_by (call (ticks seconds micros room) s).answer ≡ []
  unfolding call tick_call written_by
  tick-quiet seconds micros room h =
      by (λ (r : Called). written_by r.answer ≡ []) (no_room room) _ _ (λ e. refl)
      (λ e. by (λ (r : Called). written_by r.answer ≡ []) (bad_micros micros) _ _ (λ f. refl)
      (λ f. move-quiet (time_in seconds micros) room h))

  -- and what is due stays due
  pub tick-stays : (seconds micros room : ℕ) → Before row (time_in seconds micros)
      → due_row (due (call (ticks seconds micros room) s).splicer.queue) ≡ row
  unfolding call tick_call move_call
  tick-stays seconds micros room h =
      let P : Called → Type 0 = λ (r : Called). due_row (due r.splicer.queue) ≡ row in
      by P (no_room room) _ _ (λ e. refl)
      (λ e. by P (bad_micros micros) _ _ (λ f. refl)
      (λ f. by P (no_room room) _ _ (λ g. refl)
      (λ g. by P (ltb (time_in seconds micros) s.clock) _ _ (λ i. refl)
      (λ i. ap due_row (ticked-stays (time_in seconds micros) s (row_before (time_in seconds micros) (due s.queue) h))))))

  -- THEOREM B: at what is due or later, a good one writes at least one record
  move-wakes : (until room : ℕ) → NotBefore row until → number_of (move_call until room s).answer ≡ 0
      → 0 < length (records_of (move_call until room s).answer)
  unfolding move_call number_of
  move-wakes until room h =
      let P : Called → Type 0 = λ (r : Called). number_of r.answer ≡ 0 → 0 < length (records_of r.answer) in
      by P (no_room room) _ _ (λ e z. absurd (omega (arith, a-number NoRoom)))
      (λ e. by P (ltb until s.clock) _ _ (λ f z. absurd (omega (arith, a-number ClockBack)))
      (λ f z. let c = row-not-before until (due s.queue) h in ticked-writes until s c.t (comes until c)))

  tick-wakes : (seconds micros room : ℕ) → NotBefore row (time_in seconds micros)
      → number_of (call (ticks seconds micros room) s).answer ≡ 0
      → 0 < length (records_of (call (ticks seconds micros room) s).answer)
  unfolding call tick_call number_of
  tick-wakes seconds micros room h =
      let P : Called → Type 0 = λ (r : Called). number_of r.answer ≡ 0 → 0 < length (records_of r.answer) in
      by P (no_room room) _ _ (λ e z. absurd (omega (arith, a-number NoRoom)))
      (λ e. by P (bad_micros micros) _ _ (λ f z. absurd (omega (arith, a-number BadMicros)))
      (λ f. move-wakes (time_in seconds micros) room h))

  -- and it is good, with a buffer that is long enough: what is due is after the clock
  module _ (timed : OnTime s.clock s.queue) where
    pub due-after : (until : ℕ) → NotBefore row until → s.clock < until
    due-after until h =
        let c = row-not-before until (due s.queue) h in
        let e = comes until c in
        omega (arith, meets-after s.clock c.t.0 s.queue timed (due-meets until c.t s.queue e), c.by-then)

    pub tick-good : (seconds micros room : ℕ) → NotBefore row (time_in seconds micros) → micros ≤ 999999 → 4096 ≤ room
        → number_of (call (ticks seconds micros room) s).answer ≡ 0
    unfolding call tick_call move_call ticked number_of
    tick-good seconds micros room h m long =
        let l = due-after (time_in seconds micros) h in
        rw (le-ltb room 4096 long, le-ltb 999999 micros m, le-ltb (time_in seconds micros) s.clock (omega arith))

-- ## The first tick that is not before it

module _ (t : ℕ) where
  abbrev s₁ : ℕ
  s₁ = up_micros t / second

  abbrev u₁ : ℕ
  u₁ = up_micros t % second

  up-whole : time_in s₁ u₁ ≡ up_micros t * 9
  up-whole = omega arith

  up_first : (seconds micros : ℕ) → time_in seconds micros < time_in s₁ u₁ → time_in seconds micros < t
  up_first seconds micros h = omega (arith, up-whole)

-- the words name it
pub row_first : (w : Option Ninths) → get_or (due_row w) 0 0 ≡ 2 → FirstTick (due_row w)
unfolding due_row
row_first None e = absurd (omega arith)
row_first (Some t) e =
    by (λ (r : List ℕ). get_or r 0 0 ≡ 2 → FirstTick r) (beyond t.0) _ _ (λ f i. absurd (omega (arith, i)))
    (λ f i. let l = leb-false horizon (up_micros t.0 * 9) f in
    record {
      seconds = omega (arith, l);
      micros = omega arith;
      reaches = (omega arith, omega (arith, up-whole t.0));
      first = λ seconds micros h k. up_first t.0 seconds micros h;
    }) e

-- with 0 or 1 there is none
pub row-none : (w : Option Ninths) → get_or (due_row w) 0 0 ≤ 1 → (seconds micros : ℕ) → seconds < 4294967296 → micros ≤ 999999
    → Before (due_row w) (time_in seconds micros)
unfolding due_row
row-none None e seconds micros a b = λ k. absurd (omega (arith, k))
row-none (Some t) e seconds micros a b =
    by (λ (r : List ℕ). get_or r 0 0 ≤ 1 → Before r (time_in seconds micros)) (beyond t.0) _ _
    (λ f i k. let l = leb-true horizon (up_micros t.0 * 9) f in omega (arith, l)) (λ f i. absurd (omega (arith, i))) e

-- ## Of every splicer from fresh

module _ (h : List Event) (s : Splicer) (f : FromFresh h s) where
  abbrev now : List ℕ
  now = due_row (due s.queue)

  -- A
  pub quiet-before : (seconds micros room : ℕ) → Before now (time_in seconds micros)
      → written_by (call (ticks seconds micros room) s).answer ≡ []
  quiet-before = tick-quiet s

  -- B, in the bytes
  pub wakes-from : (seconds micros room : ℕ) → seconds < 4294967296 → NotBefore now (time_in seconds micros)
      → number_of (call (ticks seconds micros room) s).answer ≡ 0
      → 0 < length (records_in (written_by (call (ticks seconds micros room) s).answer))
  wakes-from seconds micros room w n z =
      rw (sound-found s (ticks seconds micros room) w (from-sound h s f)) (tick-wakes s seconds micros room n z)

  -- the same of the clock brought to an instant in ninths
  pub move-quiet-before : (until room : ℕ) → Before now until → written_by (call (moves until room) s).answer ≡ []
  unfolding call
  move-quiet-before = move-quiet s

  pub move-wakes-from : (until room : ℕ) → until < horizon → NotBefore now until → number_of (call (moves until room) s).answer ≡ 0
      → 0 < length (records_in (written_by (call (moves until room) s).answer))
  unfolding call
  move-wakes-from until room w n z = rw (sound-found s (moves until room) w (from-sound h s f)) (move-wakes s until room n z)

  pub good-from : (seconds micros room : ℕ) → NotBefore now (time_in seconds micros) → micros ≤ 999999 → 4096 ≤ room
      → number_of (call (ticks seconds micros room) s).answer ≡ 0
  good-from = tick-good s (from-sound h s f).holding.timed

  -- no tick at all does anything
  pub quiet-always : get_or now 0 0 ≤ 1 → (seconds micros room : ℕ) → seconds < 4294967296
      → written_by (call (ticks seconds micros room) s).answer ≡ []
  unfolding call tick_call written_by
  quiet-always e seconds micros room w = go (bad_micros micros) refl
    where
      go : (b : Bool) → bad_micros micros ≡ b → written_by (call (ticks seconds micros room) s).answer ≡ []
      go true g =
          by (λ (r : Called). written_by r.answer ≡ []) (no_room room) _ _ (λ i. refl)
          (λ i. by (λ (r : Called). written_by r.answer ≡ []) (bad_micros micros) _ _ (λ j. refl)
          (λ j. absurd (clash (bad_micros micros) g j)))
      go false g = tick-quiet s seconds micros room (row-none (due s.queue) e seconds micros w (ltb-false 999999 micros g))

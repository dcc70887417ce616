-- Two reads for drivers, of every sequence of the rolling card's calls for C: who is on air, and after how many ticks of the counter a
-- reading would do anything. w: whatever the read's contract allows; the Cited of door and of door_rolling hold it to their src/lib.rt.
-- Rests on demands' proofs/Readings and, of who is on air, on demands_engine's proofs/Due.
use mathlib.Core.Path.{◌≡◌, sym, ap, subst, ◌∙◌}
use mathlib.Core.List.{List, [], ◌∷◌}
use Prim.Native.Nat.{ℕ, ◌+◌, ◌-◌, ◌/◌, ◌%◌, ◌≤◌, ◌<◌}
use lib.ListN.{length, get_or}
use Rattle.rules.specs.Follows.ReadBack.{records_in}
use Rattle.rules.specs.Records.{AliveResponse}
use Rattle.rules.specs.HouseNumbers.{lending_maps}
use Rattle.rules.specs.State.{due}
use Rattle.rules.specs.Follows.Sound.{Sound}
use Rattle.rules.specs.Rolling.{at}
use Rattle.rules.proofs.Sound.{reached-sound}
use Rattle.demands.specs.Told.{number_of}
use Rattle.demands.specs.Airing.{clock_told}
use Rattle.demands.specs.Kept.{AsksAlive, Ready}
use Rattle.demands.specs.Due.{state_of, id_of, AirTold, DueTold, Before, NotBefore, step_from, FirstStep}
use Rattle.demands.proofs.Readings as told
use Rattle.engine.specs.Lent.{ReadsAir, ReadsDue}
use Rattle.rolling.specs.LentRolling.{ReadsStep}
use Rattle.rolling.proofs.Time as time
use Rattle.door.specs.Door.{a_message}
use Rattle.door_rolling.specs.RollDoor.{a_known, a_reading, RollSeen}
use Rattle.demands_engine.proofs.Course as core
use Rattle.demands_engine.proofs.Due as called
use Rattle.demands_rolling.specs.Rolled.{Memory, shown, left, Made, Trace, More, number, bytes_of, events}
use Rattle.demands_rolling.specs.Rolled as rolled
use Rattle.demands_rolling.proofs.Inside.{trace-inside, known_more}
use Rattle.demands_door.specs.Driven.{inside}
use Rattle.demands_rolling.proofs.Next.{as-ruled, bytes-are}

-- who is on air, from the calls and the answers' bytes alone
pub air-told : (name : List ℕ) (h : List Made) (m : Memory) (w : List ℕ) → ReadsAir m.core.words m.core.bytes w
    → Trace name h m → AirTold (events h) w
air-told name h m w reads t = called.air-told name (rolled.within h) m.core w reads (trace-inside name h m t)

-- an Alive_Request in its place is answered with the State and the SessionID that are read, and the clock in whole microseconds
pub alive-as-read : (name : List ℕ) (h : List Made) (m : Memory) (w : List ℕ) → ReadsAir m.core.words m.core.bytes w
    → (d : ℕ) (l pm im e : List ℕ) (r : RollSeen) → More name h m (a_known (a_message d l pm im e)) r
    → AsksAlive d l (lending_maps pm im (length e)) (shown m).splicer → Ready d (shown m).splicer
    → records_in (bytes_of r) ≡ AliveResponse d 100 (state_of w) (id_of w) (clock_told (events h) / 9) ∷ []
alive-as-read name h m w reads d l pm im e r c asks ready =
    rw (bytes-are name h m _ r c)
    (called.alive-as-read name (rolled.within h) m.core w reads d l pm im e (inside (rolled.seen_of r))
    (known_more name h m (a_message d l pm im e) r c) asks ready)

-- when something starts or ends next, in ninths
pub due-told : (name : List ℕ) (h : List Made) (m : Memory) (w : List ℕ) → ReadsDue m.core.words m.core.bytes w
    → Trace name h m → DueTold (events h) w
due-told name h m w reads t = called.due-told name (rolled.within h) m.core w reads (trace-inside name h m t)

module _ (name : List ℕ) (h : List Made) (m : Memory) (w : List ℕ)
    (reads : ReadsStep m.core.words m.core.bytes m.counter w) where
  sound : Trace name h m → Sound (shown m).splicer
  sound t = reached-sound (shown m).splicer (core.trace-lent name (rolled.within h) m.core (trace-inside name h m t)).reached

  -- a word of what was read
  same : (i : ℕ) → get_or w i 0 ≡ get_or (told.steps_of (shown m)) i 0
  same i = ap (λ (v : List ℕ). get_or v i 0) reads

  -- with a 1, so many ticks are no longer step than is good, and do not pass the time field's last second
  pub first_step : get_or w 0 0 ≡ 1 → FirstStep (shown m).splicer.clock w
  first_step e =
      subst (FirstStep (shown m).splicer.clock) (sym reads)
      (told.step-first (shown m).last (shown m).splicer.clock (due (shown m).splicer.queue) (sym (same 0) ∙ e))

  -- the next call is a reading
  module _ (x : ℕ) (e : List ℕ) (r : RollSeen) (c : More name h m (a_reading x e) r) where
    -- how many ticks it is after the last good one
    abbrev step : ℕ
    step = step_from (shown m).last x

    number_is : number r ≡ number_of (told.answer_to (shown m) x (length e))
    number_is = ap (λ (v : List ℕ). get_or v 0 0) (as-ruled name h m (a_reading x e) r c).reply

    -- A: fewer ticks, or with a 0 any number of them, and it writes no byte, good or refused
    pub quiet-before : Before w step → bytes_of r ≡ []
    quiet-before b =
        (as-ruled name h m (a_reading x e) r c).bytes
        ∙ told.reading-quiet (shown m) x (length e) (subst (λ (v : List ℕ). Before v step) reads b)

    -- B: so many ticks or more, and it writes at least one record, if it is good
    pub wakes-from : NotBefore w step → number r ≡ 0 → 0 < length (records_in (bytes_of r))
    wakes-from n z =
        rw (as-ruled name h m (a_reading x e) r c).bytes
        (told.reading-wakes (shown m) x (length e) (sound c.trace) (subst (λ (v : List ℕ). NotBefore v step) reads n)
        (sym number_is ∙ z))

    -- and after exactly so many it is good, if its buffer is long enough
    pub good-from : get_or w 0 0 ≡ 1 → step ≡ get_or w 1 0 → 4096 ≤ length e → number r ≡ 0
    good-from one n long =
        number_is ∙ told.reading-good (shown m) x (length e) (sym (same 0) ∙ one) (n ∙ same 1) long

    -- and a good one of fewer ticks leaves so many fewer: the driver need not read again
    pub left_after : get_or w 0 0 ≡ 1 → step < get_or w 1 0 → number r ≡ 0
        → ReadsStep r.words r.bytes r.counter (1 ∷ (get_or w 1 0 - step) ∷ [])
    left_after one few z =
        sym (ap told.steps_of (as-ruled name h m (a_reading x e) r c).state
        ∙ told.reading-leaves (shown m) x (length e) (sym (same 0) ∙ one) (subst (λ (v : List ℕ). step < get_or v 1 0) reads few)
        (sym number_is ∙ z)
        ∙ ap (λ (n : ℕ). 1 ∷ (n - step) ∷ []) (sym (same 1)))

-- a counter that had ticked t times at the last good reading, and has d times since: the step is d
pub counter-step : (t d : ℕ) → d < 4294967296 → step_from (at (t % 4294967296)) ((t + d) % 4294967296) ≡ d
unfolding step_from
counter-step t d h = time.true-step t d h

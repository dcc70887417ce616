-- Two reads for drivers, of every sequence of the door's calls, from the words that C sees: who is on air, and when a tick would do
-- anything. w: whatever the read's contract allows; door/proofs/Cited holds it to door/src/lib.rt. Rests on demands_engine's proofs/Due.
use mathlib.Core.Path.{◌≡◌, sym, ap, subst, ◌∙◌}
use mathlib.Core.List.{List, [], ◌∷◌}
use Prim.Native.Nat.{ℕ, ◌/◌, ◌≤◌, ◌<◌}
use lib.ListN.{length, get_or}
use Rattle.rules.specs.Records.{AliveResponse}
use Rattle.rules.specs.Follows.ReadBack.{records_in}
use Rattle.rules.specs.HouseNumbers.{lending_maps}
use Rattle.demands.specs.History.{Event}
use Rattle.demands.specs.Airing.{clock_told}
use Rattle.demands.specs.Kept.{AsksAlive, Ready}
use Rattle.demands.specs.Due.{state_of, id_of, AirTold, time_in, Before, NotBefore, FirstTick, DueTold}
use Rattle.engine.specs.Lent.{ReadsAir, ReadsDue}
use Rattle.door.specs.Door.{a_message, a_tick, Seen}
use Rattle.demands_engine.specs.Trace.{Memory, shown}
use Rattle.demands_engine.specs.Trace as engine
use Rattle.demands_engine.proofs.Due as called
use Rattle.demands_door.specs.Driven.{Made, Trace, More, number, bytes_of, events, inside, within}
use Rattle.demands_door.proofs.Inside.{trace-inside, trace-events, more-inside, number-inside, bytes_inside}

-- ## Who is on air

module _ (name : List ℕ) (h : List Made) (m : Memory) (w : List ℕ) (reads : ReadsAir m.words m.bytes w) where
  -- from the calls and the answers' bytes alone
  pub air-told : Trace name h m → AirTold (events h) w
  air-told t =
      subst (λ (e : List Event). AirTold e w) (sym (trace-events name h m t))
      (called.air-told name (within h) m w reads (trace-inside name h m t))

  -- an Alive_Request in its place is answered with the State and the SessionID that are read, and the clock in whole microseconds
  pub alive-as-read : (d : ℕ) (l pm im e : List ℕ) (r : Seen) → More name h m (a_message d l pm im e) r
      → AsksAlive d l (lending_maps pm im (length e)) (shown m) → Ready d (shown m)
      → records_in (bytes_of r) ≡ AliveResponse d 100 (state_of w) (id_of w) (clock_told (events h) / 9) ∷ []
  alive-as-read d l pm im e r c asks ready =
      let i = more-inside name h m (a_message d l pm im e) r c in
      ap records_in (bytes_inside c.allowed)
      ∙ called.alive-as-read name (within h) m w reads d l pm im e (inside r) i asks ready
      ∙ sym (ap (λ (e : List Event). AliveResponse d 100 (state_of w) (id_of w) (clock_told e / 9) ∷ []) (trace-events name h m c.trace))

-- ## When a tick would do anything

module _ (name : List ℕ) (h : List Made) (m : Memory) (w : List ℕ) (reads : ReadsDue m.words m.bytes w) where
  -- from the calls and the answers' bytes alone: of the accepted sessions that have had no end, the earliest start of those that have not
  -- started, or end of those that have
  pub due-told : Trace name h m → DueTold (events h) w
  due-told t =
      subst (λ (e : List Event). DueTold e w) (sym (trace-events name h m t))
      (called.due-told name (within h) m w reads (trace-inside name h m t))

  -- with a 2, the Seconds and MicroSeconds read are those of the first of all ticks that is not before what is due
  pub first-tick : get_or w 0 0 ≡ 2 → FirstTick w
  first-tick = called.first-tick name (within h) m w reads

  -- the next call is a tick
  module _ (seconds micros : ℕ) (e : List ℕ) (r : Seen) (c : More name h m (a_tick seconds micros e) r) where
    more : engine.More name (within h) m (engine.a_tick seconds micros e) (inside r)
    more = more-inside name h m (a_tick seconds micros e) r c

    -- A: before what is due, or with nothing due, it writes no byte, good or refused
    pub quiet-before : Before w (time_in seconds micros) → bytes_of r ≡ []
    quiet-before b = bytes_inside c.allowed ∙ called.quiet-before name (within h) m w reads seconds micros e (inside r) more b

    -- and a second read then allows the same words: the driver need not read again
    pub due-stays : Before w (time_in seconds micros) → ReadsDue r.words r.bytes w
    due-stays = called.due-stays name (within h) m w reads seconds micros e (inside r) more

    -- with a 0 or a 1 no tick at all writes a byte
    pub quiet-always : get_or w 0 0 ≤ 1 → bytes_of r ≡ []
    quiet-always k = bytes_inside c.allowed ∙ called.quiet-always name (within h) m w reads seconds micros e (inside r) more k

    -- B: at what is due or later, a good one writes at least one record
    pub wakes-from : NotBefore w (time_in seconds micros) → number r ≡ 0 → 0 < length (records_in (bytes_of r))
    wakes-from n z =
        rw (bytes_inside c.allowed)
        (called.wakes-from name (within h) m w reads seconds micros e (inside r) more n (sym (number-inside c.allowed) ∙ z))

    -- and it is good if its MicroSeconds are below a million and its buffer is long enough
    pub good-from : NotBefore w (time_in seconds micros) → micros ≤ 999999 → 4096 ≤ length e → number r ≡ 0
    good-from n u long =
        number-inside c.allowed ∙ called.good-from name (within h) m w reads seconds micros e (inside r) more n u long

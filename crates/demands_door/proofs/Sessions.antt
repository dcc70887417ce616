-- The read of the sessions, and two ticks in a row, of every sequence of the door's calls, from the words that C sees. n, after: whatever
-- the read's contract allows, lent the words `lent`; door/proofs/Cited holds it to door/src/lib.rt. Rests on demands_engine's proofs of the
-- same names.
use mathlib.Core.Path.{◌≡◌, sym, ap₂, subst, ◌∙◌}
use mathlib.Core.List.{List, ◌++◌}
use Prim.Native.Nat.{ℕ, ◌≤◌}
use lib.ListN.{length}
use Rattle.rules.specs.Units.{time_of, from_micros}
use Rattle.rules.specs.Calls.{tick_call}
use Rattle.demands.specs.History.{Event}
use Rattle.demands.specs.Sessions.{rows_read, SessionsTold, InOrder}
use Rattle.demands.proofs.Between.{tick-brings}
use Rattle.engine.specs.Lent.{ReadsSessions}
use Rattle.door.specs.Door.{a_tick, Seen, Allowed}
use Rattle.demands_engine.specs.Trace.{Memory}
use Rattle.demands_engine.proofs.Between.{stays-good, joined}
use Rattle.demands_engine.proofs.Sessions as called
use Rattle.demands_door.specs.Driven.{left, Made, Trace, More, number, bytes_of, events, inside, within}
use Rattle.demands_door.proofs.Inside.{trace-inside, trace-events, number-inside, bytes_inside, allowed-inside}

module _ (name : List ℕ) (h : List Made) (m : Memory) (lent after : List ℕ) (n : ℕ)
    (reads : ReadsSessions m.words m.bytes lent n after) (t : Trace name h m) where
  -- from the calls and the answers' bytes alone: exactly the accepted ones without an end, each with what was asked of it
  pub sessions-told : SessionsTold (events h) n (rows_read n lent after)
  sessions-told =
      subst (λ (e : List Event). SessionsTold e n (rows_read n lent after)) (sym (trace-events name h m t))
      (called.sessions-told name (within h) m lent after n reads (trace-inside name h m t))

  -- the started from the highest AccessType down, of which the first is on air, then those that wait in order of start
  pub sessions-in-order : InOrder (rows_read n lent after)
  sessions-in-order = called.sessions-in-order name (within h) m lent after n reads (trace-inside name h m t)

  -- 74 rows are enough
  pub sessions-at-most : n ≤ 74
  sessions-at-most = called.sessions-at-most name (within h) m lent after n reads (trace-inside name h m t)

-- a tick, good, and behind it another; alone: the second without the first
module _ (name : List ℕ) (h : List Made) (m : Memory) (seconds micros seconds' micros' : ℕ) (e o : List ℕ) (one two alone : Seen)
    (c : More name h m (a_tick seconds micros e) one)
    (d : Allowed one.words one.bytes (a_tick seconds' micros' o) two)
    (a : More name h m (a_tick seconds' micros' o) alone) (z : number one ≡ 0) where
  -- "a good tick put in before a later one changes neither the bytes written by the two together nor the splicer after them"
  pub ticks-between : number two ≡ 0
      → (number alone ≡ 0) × (bytes_of one ++ bytes_of two ≡ bytes_of alone) × (left two ≡ left alone)
  ticks-between y =
      let j = joined (from_micros (time_of seconds micros)).0 (from_micros (time_of seconds' micros')).0 (tick_call seconds micros)
      (tick_call seconds' micros') m e o (tick-brings seconds micros (length e)) (tick-brings seconds' micros' (length o)) (inside one)
      (inside two) (inside alone) (allowed-inside m (a_tick seconds micros e) one c.allowed)
      (allowed-inside (left one) (a_tick seconds' micros' o) two d)
      (allowed-inside m (a_tick seconds' micros' o) alone a.allowed) (sym (number-inside c.allowed) ∙ z)
      (sym (number-inside d) ∙ y) in (
        number-inside a.allowed ∙ j.0,
        ap₂ ◌++◌ (bytes_inside c.allowed) (bytes_inside d) ∙ j.1 ∙ sym (bytes_inside a.allowed),
        j.2,
      )

  -- and one that is good alone, and not earlier, is good behind it
  pub later-stays-good : number alone ≡ 0 → (from_micros (time_of seconds micros)).0 ≤ (from_micros (time_of seconds' micros')).0
      → number two ≡ 0
  later-stays-good y le =
      number-inside d
      ∙ stays-good (from_micros (time_of seconds micros)).0 (from_micros (time_of seconds' micros')).0 (tick_call seconds micros)
      (tick_call seconds' micros') m e o (tick-brings seconds micros (length e)) (tick-brings seconds' micros' (length o)) (inside one)
      (inside two) (inside alone) (allowed-inside m (a_tick seconds micros e) one c.allowed)
      (allowed-inside (left one) (a_tick seconds' micros' o) two d)
      (allowed-inside m (a_tick seconds' micros' o) alone a.allowed) (sym (number-inside c.allowed) ∙ z)
      (sym (number-inside a.allowed) ∙ y) le

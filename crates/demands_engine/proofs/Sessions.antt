-- The read of the sessions, and two ticks in a row, of every sequence of the engine's calls. n, after: whatever the read's contract allows,
-- lent the words `lent`; proofs/Cited holds it to engine/src/lib.rt. Rests on demands' proofs/Sessions and proofs/Between.
use mathlib.Core.Path.{◌≡◌}
use mathlib.Core.List.{List, ◌++◌}
use Prim.Native.Nat.{ℕ, ◌/◌, ◌≤◌}
use native.Mathlib.Omega.{arith}
use lib.ListN.{length}
use Rattle.rules.specs.Units.{time_of, from_micros}
use Rattle.rules.specs.Calls.{tick_call, move_call}
use Rattle.rules.specs.Listing.{row_width}
use Rattle.demands.specs.Sessions.{rows_read, SessionsTold, InOrder}
use Rattle.demands.proofs.Sessions as told
use Rattle.demands.proofs.Between.{tick-brings, move-brings}
use Rattle.engine.specs.Lent.{ReadsSessions}
use Rattle.engine.proofs.Listed.{held-few}
use Rattle.demands_engine.specs.Trace.{Memory, shown, a_tick, a_move, Result, Allowed, Made, Trace, More, number, bytes_of, events}
use Rattle.demands_engine.proofs.Course.{trace-lent, trace-told}
use Rattle.demands_engine.proofs.Between.{stays-good, joined}

module _ (name : List ℕ) (h : List Made) (m : Memory) (lent after : List ℕ) (n : ℕ)
    (reads : ReadsSessions m.words m.bytes lent n after) (t : Trace name h m) where
  -- from the calls and the answers' bytes alone: exactly the accepted ones without an end, each with what was asked of it
  pub sessions-told : SessionsTold (events h) n (rows_read n lent after)
  sessions-told =
      told.sessions-told (events h) (shown m) (trace-told name h m t) (length lent / row_width) lent after n reads.number reads.rows

  -- the started from the highest AccessType down, of which the first is on air, then those that wait in order of start
  pub sessions-in-order : InOrder (rows_read n lent after)
  sessions-in-order =
      told.sessions-in-order (events h) (shown m) (trace-told name h m t) (length lent / row_width) lent after n reads.number
      reads.rows

  -- 74 rows are enough
  pub sessions-at-most : n ≤ 74
  sessions-at-most =
      let f = held-few (trace-lent name h m t) in
      omega (arith, f.0, f.1, reads.number)

-- a tick, good, and behind it another; alone: the second without the first
module _ (name : List ℕ) (h : List Made) (m : Memory) (seconds micros seconds' micros' : ℕ) (e o : List ℕ) (one two alone : Result)
    (c : More name h m (a_tick seconds micros e) one)
    (d : Allowed one.memory (a_tick seconds' micros' o) two)
    (a : More name h m (a_tick seconds' micros' o) alone) (z : number one ≡ 0) where
  -- "a good tick put in before a later one changes neither the bytes written by the two together nor the splicer after them"
  pub ticks-between : number two ≡ 0
      → (number alone ≡ 0) × (bytes_of one ++ bytes_of two ≡ bytes_of alone) × (two.memory ≡ alone.memory)
  ticks-between =
      joined (from_micros (time_of seconds micros)).0 (from_micros (time_of seconds' micros')).0 (tick_call seconds micros)
      (tick_call seconds' micros') m e o (tick-brings seconds micros (length e)) (tick-brings seconds' micros' (length o)) one two alone
      c.allowed d a.allowed z

  -- and one that is good alone, and not earlier, is good behind it
  pub later-stays-good : number alone ≡ 0 → (from_micros (time_of seconds micros)).0 ≤ (from_micros (time_of seconds' micros')).0
      → number two ≡ 0
  later-stays-good =
      stays-good (from_micros (time_of seconds micros)).0 (from_micros (time_of seconds' micros')).0 (tick_call seconds micros)
      (tick_call seconds' micros') m e o (tick-brings seconds micros (length e)) (tick-brings seconds' micros' (length o)) one two alone
      c.allowed d a.allowed z

-- the same of the clock brought to instants in ninths
module _ (name : List ℕ) (h : List Made) (m : Memory) (mid until : ℕ) (e o : List ℕ) (one two alone : Result)
    (c : More name h m (a_move mid e) one)
    (d : Allowed one.memory (a_move until o) two)
    (a : More name h m (a_move until o) alone) (z : number one ≡ 0) where
  pub moves-between : number two ≡ 0
      → (number alone ≡ 0) × (bytes_of one ++ bytes_of two ≡ bytes_of alone) × (two.memory ≡ alone.memory)
  moves-between =
      joined mid until (move_call mid) (move_call until) m e o (move-brings mid (length e)) (move-brings until (length o)) one two alone
      c.allowed d a.allowed z

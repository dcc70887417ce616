-- Two reads for drivers, of every sequence of the engine's calls: who is on air, and when a tick would do anything. w: whatever the read's
-- contract allows. Rests on demands' proofs/Due and OnAir; proofs/Cited holds the reads to the contracts in engine/src/lib.rt.
use mathlib.Core.Path.{◌≡◌, sym, ap, subst, ◌∙◌}
use mathlib.Core.List.{List, [], ◌∷◌}
use Prim.Native.Nat.{ℕ, ◌/◌, ◌≤◌, ◌<◌}
use lib.ListN.{length, get_or}
use Rattle.rules.specs.Records.{AliveResponse}
use Rattle.rules.specs.Follows.ReadBack.{records_in}
use Rattle.rules.specs.State.{Splicer, due}
use Rattle.rules.specs.HouseNumbers.{lending_maps}
use Rattle.rules.specs.Calls.{due_row}
use Rattle.demands.specs.Told.{FromFresh}
use Rattle.demands.specs.Airing.{clock_told}
use Rattle.demands.specs.Kept.{AsksAlive, Ready}
use Rattle.demands.specs.Due.{state_of, id_of, AirTold, time_in, Before, NotBefore, FirstTick, DueTold}
use Rattle.demands.proofs.Due as told
use Rattle.demands.proofs.OnAir as heard
use Rattle.engine.specs.Lent.{ReadsAir, ReadsDue}
use Rattle.demands_engine.specs.Trace.{Memory, shown, a_message, a_tick, a_move, Result, Made, Trace, More, number, bytes_of, events}
use Rattle.demands_engine.proofs.Steps.{as-ruled, number_is}
use Rattle.demands_engine.proofs.Course.{trace-told}

-- ## Who is on air

module _ (name : List ℕ) (h : List Made) (m : Memory) (w : List ℕ) (reads : ReadsAir m.words m.bytes w) where
  -- from the calls and the answers' bytes alone
  pub air-told : Trace name h m → AirTold (events h) w
  air-told t = subst (AirTold (events h)) (sym reads) (heard.air-as-told (events h) (shown m) (trace-told name h m t))

  -- an Alive_Request in its place is answered with the State and the SessionID that are read, and the clock in whole microseconds
  pub alive-as-read : (d : ℕ) (l pm im e : List ℕ) (r : Result) → More name h m (a_message d l pm im e) r
      → AsksAlive d l (lending_maps pm im (length e)) (shown m) → Ready d (shown m)
      → records_in (bytes_of r) ≡ AliveResponse d 100 (state_of w) (id_of w) (clock_told (events h) / 9) ∷ []
  alive-as-read d l pm im e r c asks ready =
      ap records_in (as-ruled m (a_message d l pm im e) r c.allowed).bytes
      ∙ heard.alive-as-read (events h) (shown m) (trace-told name h m c.trace) d l (lending_maps pm im (length e)) asks ready
      ∙ sym (ap (λ (v : List ℕ). AliveResponse d 100 (state_of v) (id_of v) (clock_told (events h) / 9) ∷ []) reads)

-- ## When a tick would do anything

module _ (name : List ℕ) (h : List Made) (m : Memory) (w : List ℕ) (reads : ReadsDue m.words m.bytes w) where
  -- what is before it by the words that were read is so by the splicer's
  before : (until : ℕ) → Before w until → Before (due_row (due (shown m).queue)) until
  before until = subst (λ (v : List ℕ). Before v until) reads

  not-before : (until : ℕ) → NotBefore w until → NotBefore (due_row (due (shown m).queue)) until
  not-before until = subst (λ (v : List ℕ). NotBefore v until) reads

  -- from the calls and the answers' bytes alone: of the accepted sessions that have had no end, the earliest start of those that have not
  -- started, or end of those that have
  pub due-told : Trace name h m → DueTold (events h) w
  due-told t = subst (DueTold (events h)) (sym reads) (heard.due-as-told (events h) (shown m) (trace-told name h m t))

  -- with a 2, the Seconds and MicroSeconds read are those of the first of all ticks that is not before what is due
  pub first-tick : get_or w 0 0 ≡ 2 → FirstTick w
  first-tick e =
      subst FirstTick (sym reads) (told.row_first (due (shown m).queue) (ap (λ (v : List ℕ). get_or v 0 0) (sym reads) ∙ e))

  -- the next call is a tick
  module _ (seconds micros : ℕ) (e : List ℕ) (r : Result) (c : More name h m (a_tick seconds micros e) r) where
    from-fresh : FromFresh (events h) (shown m)
    from-fresh = trace-told name h m c.trace

    -- A: before what is due, or with nothing due, it writes no byte, good or refused
    pub quiet-before : Before w (time_in seconds micros) → bytes_of r ≡ []
    quiet-before b =
        (as-ruled m (a_tick seconds micros e) r c.allowed).bytes
        ∙ told.quiet-before (events h) (shown m) from-fresh seconds micros (length e) (before (time_in seconds micros) b)

    -- and a second read then allows the same words: the driver need not read again
    pub due-stays : Before w (time_in seconds micros) → ReadsDue r.memory.words r.memory.bytes w
    due-stays b =
        reads ∙ sym (told.tick-stays (shown m) seconds micros (length e) (before (time_in seconds micros) b))
        ∙ ap (λ (s : Splicer). due_row (due s.queue)) (sym (as-ruled m (a_tick seconds micros e) r c.allowed).state)

    -- with a 0 or a 1 no tick at all writes a byte
    pub quiet-always : get_or w 0 0 ≤ 1 → bytes_of r ≡ []
    quiet-always k =
        (as-ruled m (a_tick seconds micros e) r c.allowed).bytes
        ∙ told.quiet-always (events h) (shown m) from-fresh (subst (λ (v : List ℕ). get_or v 0 0 ≤ 1) reads k) seconds micros (length e)
        c.typed.0

    -- B: at what is due or later, a good one writes at least one record
    pub wakes-from : NotBefore w (time_in seconds micros) → number r ≡ 0 → 0 < length (records_in (bytes_of r))
    wakes-from n z =
        rw (as-ruled m (a_tick seconds micros e) r c.allowed).bytes
        (told.wakes-from (events h) (shown m) from-fresh seconds micros (length e) c.typed.0
        (not-before (time_in seconds micros) n) (sym (number_is m (a_tick seconds micros e) r c.allowed) ∙ z))

    -- and it is good if its MicroSeconds are below a million and its buffer is long enough
    pub good-from : NotBefore w (time_in seconds micros) → micros ≤ 999999 → 4096 ≤ length e → number r ≡ 0
    good-from n u long =
        number_is m (a_tick seconds micros e) r c.allowed
        ∙ told.good-from (events h) (shown m) from-fresh seconds micros (length e) (not-before (time_in seconds micros) n) u long

  -- the same of the clock brought to an instant in ninths
  module _ (until : ℕ) (e : List ℕ) (r : Result) (c : More name h m (a_move until e) r) where
    pub move-quiet-before : Before w until → bytes_of r ≡ []
    move-quiet-before b =
        (as-ruled m (a_move until e) r c.allowed).bytes
        ∙ told.move-quiet-before (events h) (shown m) (trace-told name h m c.trace) until (length e) (before until b)

    pub move-wakes-from : NotBefore w until → number r ≡ 0 → 0 < length (records_in (bytes_of r))
    move-wakes-from n z =
        rw (as-ruled m (a_move until e) r c.allowed).bytes
        (told.move-wakes-from (events h) (shown m) (trace-told name h m c.trace) until (length e) c.typed
        (not-before until n) (sym (number_is m (a_move until e) r c.allowed) ∙ z))

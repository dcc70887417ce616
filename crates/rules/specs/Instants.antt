-- 01, Instants, with 02, CR 4: starts and ends, and a tick as a recursion over instants.
use Rattle.std.specs.Prelude.{Bool, true, false, cond, ◌&&◌, List, [], ◌∷◌, ℕ, zero, suc, ◌+◌, ◌-◌, eqb, ltb, length, get_or}
use Rattle.rules.specs.declared.Session.{Session}
use Rattle.rules.specs.declared.Ending.TheVariants.{Complete, Failed}
use Rattle.rules.specs.Lists.{omit, place, remove_at}
use Rattle.rules.specs.State.{Queue, empty, starts_at, ends_at, due, not_after, to_come, with_waiting, with_started}
use Rattle.rules.specs.Records.{Record, SpliceComplete}
use Rattle.rules.specs.Ends.{Turn, quiet, and_then, writes, ending, one_end, endings, dismissed}
use Rattle.std.specs.declared.option.Option.{Option}
use Rattle.std.specs.declared.option.Option.TheVariants.{Some, None}
use Rattle.rules.specs.declared.Ninths.{Ninths}

-- a new session outranks an old one: the one place where it is decided whether an equal AccessType wins. 02: "With the flag at 1, an equal
-- AccessType now wins"; the flag is the new one's
abbrev pub outranks : Session → Session → Bool
outranks new old = ltb old.access (new.access + new.overrides)

-- "with nothing on air, or with OverridePlaying 1 and AccessType higher than the one on air", 02: or equal
-- "Start: with nothing on air"
unfoldable pub may_start : Session → List Session → Bool
may_start s [] = true
may_start s (air ∷ k) = eqb s.overrides 1 && outranks s air

-- "write SpliceComplete flag 0, result 100, PlayedDuration 0, and go on air"
abbrev pub began : Session → Record
began s = SpliceComplete s.conn 100 s.id 0 0

-- "Otherwise it fails: SpliceComplete flag 0, result 109, PlayedDuration 0, and its waiting followers end."
abbrev pub failed : Session → Queue → Turn
failed s q = and_then (ending (one_end Failed s) q) (dismissed 109 s.conn s.id)

-- the one on air, if any, has the AccessType of s
-- 02, CR 4: "and at a start the equal one on air ends at once"
unfoldable pub meets_equal : Session → List Session → Bool
meets_equal s [] = false
meets_equal s (air ∷ k) = eqb air.access s.access

-- 02: "at a start the equal one on air ends at once, SpliceComplete flag 1, result 125, and its waiting followers end with
-- Splice_Response 125 .. It isn't resumed"
unfoldable pub ousted : Session → Queue → Turn
ousted s q =
    let air = get_or q.started 0 empty in
    cond (meets_equal s q.started)
    (and_then (ending (one_end (Complete 125) air) (with_started (remove_at 0 q.started) q)) (dismissed 125 air.conn air.id))
    (quiet q)

-- s, which no longer waits, goes on air (an equal one on air ends, "all before the new start's record"; a lower one becomes covered), or
-- fails
-- "(which becomes covered)"
unfoldable pub launched : Session → Queue → Turn
launched s q =
    cond (may_start s q.started)
    (and_then (ousted s q) (λ u. writes (began s ∷ []) (with_started (s ∷ u.started) u)))
    (failed s q)

-- "the one possible start"
unfoldable pub start_at : ℕ → Queue → Turn
start_at t q =
    let i = place (starts_at t) q.waiting in
    cond (ltb i (length q.waiting)) (launched (get_or q.waiting i empty) (with_waiting (remove_at i q.waiting) q)) (quiet q)

-- "SpliceComplete flag 1; result 100 if it was on air just before the instant, 125 if covered." With them gone,
-- "the highest covered session not ending at that instant is on air again, without a message".
-- "End: SpliceComplete flag 1"
unfoldable pub end_at : ℕ → Queue → Turn
end_at t q =
    ending (endings (Complete 100) (Complete 125) (ends_at t) q.started) (with_started (omit (ends_at t) q.started) q)

-- "At one instant, ends come first, from the highest AccessType down, then the one possible start."
unfoldable pub instant : ℕ → Queue → Turn
instant t q = and_then (end_at t q) (start_at t)

-- the one on air has played d ninths more
-- "A covered session's end time doesn't move."
abbrev pub playing : ℕ → Session → Session
playing d s =
    record {
      conn = s.conn;
      id = s.id;
      prior = s.prior;
      start = s.start;
      end = s.end;
      access = s.access;
      overrides = s.overrides;
      mux = s.mux;
      event = s.event;
      played = record { 0 = s.played.0 + d };
    }

unfoldable pub on_air : ℕ → List Session → List Session
on_air d [] = []
on_air d (s ∷ k) = playing d s ∷ k

unfoldable pub elapse : ℕ → Queue → Queue
elapse d q = with_started (on_air d q.started) q

-- f of the next instant, or x where there is none
abbrev pub onwards : {A : Type 0} → (ℕ → A) → A → Option Ninths → A
onwards f x (Some t) = f t.0
onwards f x None = x

-- "A tick works through every start and end not later than its time, in order of time": from the time now to until, n instants at most
unfoldable pub run : ℕ → ℕ → ℕ → Queue → Turn
run zero now until q = quiet (elapse (until - now) q)
run (suc n) now until q =
    let on : ℕ → Turn = λ t. and_then (instant t (elapse (t - now) q)) (run n t until) in
    onwards on (quiet (elapse (until - now) q)) (not_after until (due q))

-- each instant leaves fewer starts and ends to come, so this is never cut short
unfoldable pub run_all : ℕ → ℕ → Queue → Turn
run_all now until q = run (to_come q) now until q

-- ## 02, CR 13: "a primary sum it keeps from now on"

-- of d ninths, those in which nothing is on air, if nothing starts or ends in them
abbrev pub silence : ℕ → List Session → ℕ
silence d [] = d
silence d (s ∷ k) = 0

-- of a tick from the time now to until: as `run` goes through it, where it calls `elapse`
unfoldable pub silent : ℕ → ℕ → ℕ → Queue → ℕ
silent zero now until q = silence (until - now) q.started
silent (suc n) now until q =
    let on : ℕ → ℕ = λ t. silence (t - now) q.started + silent n t until (instant t (elapse (t - now) q)).queue in
    onwards on (silence (until - now) q.started) (not_after until (due q))

unfoldable pub silent_all : ℕ → ℕ → Queue → ℕ
silent_all now until q = silent (to_come q) now until q

-- 02, CR 13: days from the bytes of requests to who owned the time, and the times of small lists, ninth by ninth. All worked by hand.
-- Assumes nothing.
use Rattle.std.specs.Prelude.{◌≡◌, refl, Bool, true, false, cond, List, [], ◌∷◌, ◌++◌, map, ℕ, ◌*◌}
use Rattle.rules.specs.Calls
use Rattle.rules.specs.Calls.{Call, opens, closes, moves}
use Rattle.demands.specs.History
use Rattle.demands.specs.Airing
use Rattle.demands.specs.Airing.{Airing}
use Rattle.cases.specs.Computing.{computing}
use Rattle.cases.specs.Rehearsed.{sent, from, init_of, asks, timed, linked, aborts, to, card, up, ready}

-- ## Days

-- number, start, whether it began and is over, when, whether its end told a PlayedDuration, and which. What never began has no such time: 0
record Line : Type 0 where
  id : ℕ
  start : ℕ
  begun : Bool
  over : Bool
  to : ℕ
  listed : Bool
  said : ℕ

-- seconds in ninths
s : ℕ → ℕ
s n = n * 9000000

-- one that was on air, to an end that told its PlayedDuration
shown : (id start to said : ℕ) → Line
shown x a b d = record { id = x; start = s a; begun = true; over = true; to = s b; listed = true; said = d }

-- the same with its times in ninths
exact : (id start to said : ℕ) → Line
exact x a b d = record { id = x; start = a; begun = true; over = true; to = b; listed = true; said = d }

-- one that was on air, and ended covered: its end told none
hidden : (id start to : ℕ) → Line
hidden x a b = record { id = x; start = s a; begun = true; over = true; to = s b; listed = false; said = 0 }

-- one that is on air or covered
going : (id start : ℕ) → Line
going x a = record { id = x; start = s a; begun = true; over = false; to = 0; listed = false; said = 0 }

-- one that ended before it began
off : (id start : ℕ) → Line
off x a = record { id = x; start = s a; begun = false; over = true; to = 0; listed = false; said = 0 }

waiting : (id start : ℕ) → Line
waiting x a = record { id = x; start = s a; begun = false; over = false; to = 0; listed = false; said = 0 }

-- what calls and answers tell of the accepted sessions, the newest first, and the primary sum that is kept
record Told : Type 0 where
  lines : List Line
  primary : ℕ

line : Airing → Line
line a =
    record {
      id = a.id;
      start = a.start;
      begun = a.begun;
      over = a.over;
      to = cond a.begun a.to 0;
      listed = a.listed;
      said = a.said;
    }

record Day : Type 0 where
  told : Told
  wants : Told

-- of calls from `ready`: clock 1,000 s, the four connections initialised
day : List Call → List Line → (primary : ℕ) → Day
day ks l p =
    record {
      told = record {
        lines = map line (Airing.airings (History.history (ready ++ ks) card.splicer) 0 []);
        primary = (Calls.after (ready ++ ks) card.splicer).primary;
      };
      wants = record { lines = l; primary = p };
    }

-- 3 from 1,003 s, for 30 s; over it 5 from 1,006 s, whose connection closes at 1,010 s; over it 6 from 1,015 s to 1,025 s
slot : List Call
slot =
    timed 0 3 1003 0 3 0 2700000 ∷ timed 1 5 1006 0 5 1 900000 ∷ to 1010 0 ∷ closes 1 4096 ∷ timed 2 6 1015 0 5 1 900000 ∷ to 1050 0 ∷ []

-- several instants in one tick: 1 from 1,003 s to 1,013 s, 2 over it from 1,005 s to 1,013 s, 4 linked behind 2, from 1,013 s to 1,014 s; 3
-- fails at
-- 1,006 s. Then an abort between two ticks, at 1,020 s, of 5, on air from 1,018 s
many : List Call
many =
    timed 0 1 1003 0 3 0 900000 ∷ timed 0 2 1005 0 5 1 720000 ∷ timed 0 3 1006 0 4 0 90000 ∷ linked 0 4 2 90000
    ∷ timed 0 5 1018 0 1 0 900000 ∷ to 1020 0 ∷ aborts 0 5 ∷ to 1030 0 ∷ []

-- 4 covers a 2 and has two followers; 7, equal to it, ends it at once at 1,010 s
equal : List Call
equal =
    timed 0 2 1003 0 2 0 2700000 ∷ timed 1 4 1006 0 4 1 1800000 ∷ linked 1 5 4 90000 ∷ linked 1 6 5 90000 ∷ timed 2 7 1010 0 4 1 900000
    ∷ to 1040 0 ∷ []

-- an abort of the covered 1, at 1,010 s; calls that are refused, and a tick to the present time
covered : List Call
covered =
    timed 0 1 1003 0 3 0 5400000 ∷ timed 1 2 1005 0 5 1 1800000 ∷ to 1010 0 ∷ aborts 0 1 ∷ to 1009 0 ∷ to 1030 0 ∷ to 1030 0 ∷ closes 1 4095
    ∷ []

-- what starts and is aborted at one clock has no time. Its number comes again; the clock stands at 1,012 s, and 2 waits
again : List Call
again =
    timed 0 1 1003 0 3 0 900000 ∷ to 1003 0 ∷ aborts 0 1 ∷ timed 0 1 1007 0 3 0 900000 ∷ timed 0 2 1100 0 3 0 900000 ∷ moves 9108000000 4096
    ∷ []

-- times that are no whole microseconds: 1 from 1,003 s for one tick, 100 ninths; 2 from 12 µs = 108 ninths behind it for 7 ticks; the clock
-- 5 ninths past 1,004 s; 3 from 1,010 s, aborted 1,001 ninths later; the clock 4 ninths past 1,011 s
ninths_only : List Call
ninths_only =
    timed 0 1 1003 0 3 0 1 ∷ timed 0 2 1003 12 3 0 7 ∷ moves 9036000005 4096 ∷ timed 0 3 1010 0 3 0 900000 ∷ moves 9090001001 4096
    ∷ aborts 0 3 ∷ moves 9099000004 4096 ∷ []

days : List Day
days =
    -- 1,003 s before and 17 s behind are the primary channel's; with 16, 4 and 10 s on air 1,050 s
    day slot (shown 6 1015 1025 900000 ∷ shown 5 1006 1010 360000 ∷ shown 3 1003 1033 1440000 ∷ []) (s 1020)
    -- 1,003 s, 1,014 s to 1,018 s and 1,020 s to 1,030 s; with 2, 8, 1 and 2 s on air 1,030 s
    ∷ day many (shown 5 1018 1020 180000 ∷ shown 4 1013 1014 90000 ∷ off 3 1006 ∷ shown 2 1005 1013 720000 ∷ shown 1 1003 1013 180000 ∷ [])
    (s 1017)
    -- 1,003 s and 1,033 s to 1,040 s; with 3 + 13, 4 and 10 s on air 1,040 s
    ∷ day equal (shown 7 1010 1020 900000 ∷ off 6 1027 ∷ off 5 1026 ∷ shown 4 1006 1010 360000 ∷ shown 2 1003 1033 1440000 ∷ []) (s 1010)
    -- 1,003 s and 1,025 s to 1,030 s; with 2 s of 1, which no end told, and 20 s of 2 1,030 s
    ∷ day covered (shown 2 1005 1025 1800000 ∷ hidden 1 1003 1010 ∷ []) (s 1008)
    -- with 100, 700 and 1,001 ninths on air 9,099,000,004
    ∷ day ninths_only (exact 3 9090000000 9090001001 10 ∷ exact 2 9027000108 9027000808 7 ∷ exact 1 9027000000 9027000100 1 ∷ []) 9098998203
    -- 1,007 s; with 0 and 5 s on air 1,012 s
    ∷ day again (waiting 2 1100 ∷ going 1 1007 ∷ shown 1 1003 1003 0 ∷ []) (s 1007)
    ∷ []

counted : map (λ d. d.told) days ≡ map (λ d. d.wants) days
unfolding sent from init_of asks timed linked aborts to card up ready s shown exact ninths_only hidden going off waiting line day slot many
    equal covered again days computing
counted = refl

-- ## Ninth by ninth

-- a session of an AccessType that has begun at `start` and, if it is over, was over at `to`
has : (access start : ℕ) → (over : Bool) → (to : ℕ) → Airing
has a t o e = record { conn = 0; id = 0; access = a; start = t; end = 99; begun = true; over = o; to = e; listed = o; said = 0 }

-- one that never began
never : (access start : ℕ) → Airing
never a t = record { conn = 0; id = 0; access = a; start = t; end = 99; begun = false; over = true; to = 99; listed = false; said = 0 }

-- the primary channel's ninths up to a clock, and each session's
times : ℕ → List Airing → List ℕ
times c l = Airing.primary_time c l ∷ map (Airing.air_time c l) l

record Small : Type 0 where
  times : List ℕ
  wants : List ℕ

small : ℕ → List Airing → (primary : ℕ) → (each : List ℕ) → Small
small c l p ts = record { times = times c l; wants = p ∷ ts }

smalls : List Small
smalls =
    small 5 [] 5 []
    -- from 2 to 5, half-open; and before it is over
    ∷ small 9 (has 3 2 true 5 ∷ []) 6 (3 ∷ [])
    ∷ small 9 (has 3 2 false 0 ∷ []) 2 (7 ∷ [])
    ∷ small 4 (has 3 2 true 5 ∷ []) 2 (2 ∷ [])
    -- over at its start: none
    ∷ small 9 (has 3 2 true 2 ∷ []) 9 (0 ∷ [])
    -- what never began has none
    ∷ small 9 (never 9 1 ∷ has 0 2 true 5 ∷ []) 6 (0 ∷ 3 ∷ [])
    -- the higher covers the lower, which is on air again
    ∷ small 12 (has 5 4 true 6 ∷ has 3 2 true 9 ∷ []) 5 (2 ∷ 5 ∷ [])
    ∷ small 12 (has 0 2 true 9 ∷ has 9 4 false 0 ∷ []) 2 (2 ∷ 8 ∷ [])
    -- one after another, no ninth counted twice and none left out
    ∷ small 12 (has 4 7 true 9 ∷ has 4 5 true 7 ∷ has 4 2 true 5 ∷ []) 5 (2 ∷ 2 ∷ 3 ∷ [])
    ∷ []

ninths : map (λ x. x.times) smalls ≡ map (λ x. x.wants) smalls
unfolding has never times small smalls computing
ninths = refl

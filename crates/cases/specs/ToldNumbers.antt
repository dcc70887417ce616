-- The order of house numbers and of the codes before e (demands' Told): calls and requests to which several apply, and the first of them;
-- what a refused call leaves. Worked by hand from 01 and 02. Assumes nothing.
use Rattle.std.specs.Prelude.{◌≡◌, refl, false, true, List, [], ◌∷◌, ◌++◌, map, ℕ, ◌+◌, ◌*◌, length, replicate}
use Rattle.std.proofs.Common.{ap}
use Prim.Native.String.{String}
use Rattle.rules.specs.declared.Link.TheVariants.{Closed, Opened, Initialised}
use Rattle.rules.specs.declared.Refusal.TheVariants.{NoConnection, NoRoom, ClockBack, Oversize, Short, AlreadyOpen, NotOpen, BadMicros}
use Rattle.rules.specs.declared.Refusal.TheVariants.{BadName, Counter, LongSection, BadSection}
use Rattle.rules.specs.declared.Request.{Request}
use Rattle.rules.specs.declared.Session.{Session}
use Rattle.rules.specs.declared.Start.{Start}
use Rattle.rules.specs.declared.Start.TheVariants.{Timed, Linked}
use Rattle.rules.specs.State.{Queue, Splicer}
use Rattle.rules.specs.Recent.{none_ended}
use Rattle.rules.specs.Records.{General}
use Rattle.rules.specs.HouseNumbers.{Answer, refused, good, Called, Loans, lending, lending_maps}
use Rattle.rules.specs.Calls.{Call, opens, closes, messages, ticks, moves, cues}
use Rattle.demands.specs.Told
use Rattle.demands.specs.Told.{Check, check, first_number, checks, number_of, Unchanged, earlier_code, Passes}
use Rattle.cases.specs.Scenario.{hex}
use Rattle.cases.specs.Computing.{computing}
use Rattle.cases.specs.Heard.{unlike, not-false}

-- what the definitions of demands' Told are computed with
unfoldable telling : ℕ
unfolding Told.first_number Told.earlier_code Told.checks Told.number_of computing
telling = 0

-- ## A splicer: connection 0 is initialised, 1 open, 2 and 3 closed; the clock is at 1,000 s

-- seconds in ninths
s : ℕ → ℕ
s n = n * 9000000

-- a session of connection 0, for ten seconds from some second on
session : (id second access : ℕ) → Session
session x t a =
    record {
      conn = 0;
      id = x;
      prior = 0xFFFFFFFF;
      start = record { 0 = s t };
      end = record { 0 = s t + 90000000 };
      access = a;
      overrides = 0;
      mux = 5;
      event = 0;
      played = record { 0 = 0 };
    }

-- 3 is on air; 5 waits for 1,002 s, 1 for 2,000 s, each with AccessType 3
queue : Queue
queue = record { waiting = session 5 1002 3 ∷ session 1 2000 3 ∷ []; started = session 3 995 3 ∷ []; lately = none_ended }

now : Splicer
now =
    record {
      name = hex "434831";
      clock = 9000000000;
      primary = 0;
      links = Initialised ∷ Opened ∷ Closed ∷ Closed ∷ [];
      hardware = [];
      queue = queue;
    }

-- ## House numbers

record Row : Type 0 where
  call : Call
  wants : ℕ

row : Call → ℕ → Row
row k n = record { call = k; wants = n }

-- sections of 1,024 bytes, and of 1,025
most : List ℕ
most = replicate 1024 0x47

long : List ℕ
long = replicate 1025 0x47

both : ℕ → Loans
both room = lending_maps long long room

says : ℕ → String → Loans → Call
says c b loans = messages c (hex b) loans

-- a section with the bytes of its section_length, and that many bytes behind it
cue : String → (behind micros room : ℕ) → Call
cue l n u room = cues (hex "FC" ++ (hex l ++ replicate n 0)) 0 0 u room

rows : List Row
rows =
    -- open 1, 6
    row (opens 4) 1
    ∷ row (opens 0) 6
    ∷ row (opens 1) 6
    ∷ row (opens 2) 0
    -- close 1, 2, 7
    ∷ row (closes 4 4095) 1
    ∷ row (closes 4 4096) 1
    ∷ row (closes 2 4095) 2
    ∷ row (closes 0 4095) 2
    ∷ row (closes 2 4096) 7
    ∷ row (closes 1 4096) 0
    ∷ row (closes 0 4096) 0
    -- message 1, 2, 7, 10 (CR 6), 5 (header), 4, 5 (body); 0xFF9 is 4,089
    ∷ row (says 4 "" (both 4095)) 1
    ∷ row (says 2 "" (both 4095)) 2
    ∷ row (says 2 "" (both 4096)) 7
    ∷ row (says 0 "" (both 4096)) 10
    ∷ row (says 0 "0005 0FF9 FFFF FFFF" (lending_maps long [] 4096)) 10
    ∷ row (says 0 "0005 0FF9 FFFF FFFF" (lending_maps [] long 4096)) 10
    ∷ row (says 0 "0005 0FF9 FFFF FF" (lending_maps most most 4096)) 5
    ∷ row (says 0 "0005 0FF9 FFFF FFFF" (lending 4096)) 4
    ∷ row (says 0 "0005 0FF8 FFFF FFFF" (lending 4096)) 5
    ∷ row (says 0 "0005 0008 FFFF FFFF 00000000 000000" (lending 4096)) 5
    ∷ row (says 0 "0005 0008 FFFF FFFF 00000000 00000000" (lending 4096)) 0
    ∷ row (says 1 "0000 0000 FFFF FFFF" (lending 4096)) 0
    -- tick 2, 8, 3, and in ninths 2, 3
    ∷ row (ticks 998 1000000 4095) 2
    ∷ row (ticks 998 1000000 4096) 8
    ∷ row (ticks 999 999999 4096) 3
    ∷ row (ticks 1000 0 4096) 0
    ∷ row (ticks 1001 1000000 4096) 8
    ∷ row (moves 8999999999 4095) 2
    ∷ row (moves 8999999999 4096) 3
    ∷ row (moves 9000000000 4096) 0
    -- CR 7: cue 2, 8, 11: "not 3 + section_length bytes long, under 20 or over 512". 0x010 is 16, 0x1FD 509; the clock plays no part
    ∷ row (cue "3011" 16 1000000 4095) 2
    ∷ row (cue "3011" 16 1000000 4096) 8
    ∷ row (cue "3011" 16 0 4096) 11
    ∷ row (cue "3011" 18 0 4096) 11
    ∷ row (cue "3011" 17 0 4096) 0
    ∷ row (cue "3010" 16 0 4096) 11
    ∷ row (cue "31FD" 509 0 4096) 0
    ∷ row (cue "31FE" 510 0 4096) 11
    ∷ []

first : map (λ r. first_number (checks r.call now)) rows ≡ map (λ r. r.wants) rows
unfolding s session queue now row most long both says cue rows telling
first = refl

-- the first that applies, not the last and not the lowest; 0 if none does
first_of : map first_number
    ((check 7 true ∷ check 2 true ∷ []) ∷ (check 7 false ∷ check 2 true ∷ []) ∷ (check 7 true ∷ check 2 false ∷ [])
    ∷ (check 7 false ∷ []) ∷ [] ∷ []) ≡
    7 ∷ 2 ∷ 7 ∷ 0 ∷ 0 ∷ []
unfolding telling
first_of = refl

-- the table of house numbers, 10 to 12 of 02; a good call has none
numbers : map (λ n. number_of (refused n))
    (NoConnection ∷ NoRoom ∷ ClockBack ∷ Oversize ∷ Short ∷ AlreadyOpen ∷ NotOpen ∷ BadMicros ∷ BadName
    ∷ LongSection ∷ BadSection ∷ Counter ∷ []) ≡
    1 ∷ 2 ∷ 3 ∷ 4 ∷ 5 ∷ 6 ∷ 7 ∷ 8 ∷ 9 ∷ 10 ∷ 11 ∷ 12 ∷ []
unfolding telling
numbers = refl

no_number : map number_of (good 0 [] ∷ good 8 (General 0 103 ∷ []) ∷ []) ≡ 0 ∷ 0 ∷ []
unfolding telling
no_number = refl

-- ## What a refused call leaves

gives : Splicer → Answer → Called
gives t a = record { splicer = t; answer = a; accepted = false; moved = 0 }

later : Splicer
later = record { name = hex "434831"; clock = 9000000001; primary = 0; links = now.links; hardware = []; queue = queue }

unchanged : Unchanged now (gives now (refused NoRoom))
unfolding gives telling
unchanged = record { splicer = refl; written = refl; consumed = refl; buffer = λ e. refl }

-- not: another clock, a record written, bytes consumed, a byte of the buffer
changed : (Unchanged now (gives later (refused NoRoom)) → ⊥) × (Unchanged now (gives now (good 0 (General 0 103 ∷ []))) → ⊥)
    × (Unchanged now (gives now (good 8 [])) → ⊥) × (Unchanged now (gives now (good 0 (General 0 103 ∷ []))) → ⊥)
unfolding queue now later gives telling
changed = (
  λ u. unlike 9000000001 9000000000 tt (ap (λ (t : Splicer). t.clock) u.splicer),
  λ u. unlike 10 0 tt (ap length u.written),
  λ u. unlike 8 0 tt u.consumed,
  λ u. unlike 10 0 tt (ap length (u.buffer [])),
)

-- ## Codes b to d

-- a request, for ten seconds, of a number, with a start, an AccessType and OverridePlaying
request : ℕ → Start → (access overrides : ℕ) → Request
request x t a o =
    record { id = x; start = t; duration = record { 0 = 900000 }; event = 0; access = a; overrides = o; mux = 5 }

-- a timed start, microseconds
at : ℕ → Start
at u = Timed (record { 0 = u })

record Code : Type 0 where
  conn : ℕ
  asked : Request
  wants : ℕ

code : ℕ → Request → ℕ → Code
code c r n = record { conn = c; asked = r; wants = n }

codes : List Code
codes =
    -- b before c and d: held, or 0xFFFFFFFF, or behind one that is not held by its connection
    code 0 (request 1 (at 1002000000) 3 0) 121
    ∷ code 0 (request 3 (at 2000000000) 3 0) 121
    ∷ code 0 (request 0xFFFFFFFF (at 1002000000) 3 0) 121
    ∷ code 0 (request 2 (Linked 4) 3 0) 121
    ∷ code 1 (request 2 (Linked 1) 3 0) 121
    -- c before d: 1,002 s and 1,002.999999 s are less than 3 s after the clock
    ∷ code 0 (request 2 (at 1002000000) 3 0) 112
    ∷ code 0 (request 2 (at 1002999999) 3 0) 112
    ∷ code 0 (request 2 (at 1003000000) 3 0) 100
    -- linked ones never: 3 ends at 1,005 s. Another connection may have the same number
    ∷ code 0 (request 2 (Linked 3) 3 0) 100
    ∷ code 1 (request 1 (at 1500000000) 3 0) 100
    -- d, of any connection: the same start and the same or a higher AccessType; CR 4: for equals only at flag 0
    ∷ code 1 (request 1 (at 2000000000) 3 0) 109
    ∷ code 1 (request 1 (at 2000000000) 2 1) 109
    ∷ code 1 (request 1 (at 2000000000) 3 1) 100
    ∷ code 1 (request 1 (at 2000000000) 4 0) 100
    -- a microsecond beside 1
    ∷ code 0 (request 2 (at 2000000001) 3 0) 100
    ∷ []

earlier : map (λ k. earlier_code k.conn k.asked now) codes ≡ map (λ k. k.wants) codes
unfolding s session queue now request at code codes telling
earlier = refl

-- and what passes b to d, and what each of them stops
passes : Passes 0 (request 2 (at 1003000000) 3 0) now × Passes 1 (request 1 (at 2000000000) 3 1) now
    × Passes 0 (request 2 (Linked 3) 3 0) now
unfolding s session queue now request at telling
passes = (record { b = refl; c' = refl; d = refl }, record { b = refl; c' = refl; d = refl }, record { b = refl; c' = refl; d = refl })

passes-not : (Passes 0 (request 1 (at 1500000000) 3 0) now → ⊥) × (Passes 0 (request 2 (at 1002999999) 3 0) now → ⊥)
    × (Passes 1 (request 1 (at 2000000000) 3 0) now → ⊥)
unfolding s session queue now request at telling
passes-not = (λ p. not-false true tt p.b, λ p. not-false true tt p.c', λ p. not-false true tt p.d)

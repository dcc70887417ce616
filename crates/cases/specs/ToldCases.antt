-- What the demands' statements count and compare (demands' Told), from histories written down by hand, the bytes of requests and answers:
-- a full queue, starts and ends, a closed connection's sessions, the multiplexer's value, whom a cue concerns. Assumes nothing.
use Rattle.std.specs.Prelude.{◌≡◌, refl, Bool, true, false, not, List, [], ◌∷◌, ◌++◌, map, ℕ, zero, suc, ◌≤◌, T, leb, length, take, get_or}
use Rattle.std.proofs.Common.{sym, ap, subst, ◌∙◌, le_of_eq, lit≤}
use Prim.Native.String.{String}
use Rattle.rules.specs.declared.Link.TheVariants.{Closed, Opened, Initialised}
use Rattle.rules.specs.declared.Cue.TheVariants.{At, Timeless, Silent, Bad}
use Rattle.rules.specs.declared.Session.{Session}
use Rattle.rules.specs.declared.Refusal.TheVariants.{NoRoom}
use Rattle.rules.specs.Lists.{bit, All}
use Rattle.rules.specs.Bytes.{bytes}
use Rattle.rules.specs.State.{Splicer}
use Rattle.rules.specs.Recent.{none_held}
use Rattle.rules.specs.Records.{Record, General, InitResponse, AliveResponse, SpliceResponse, SpliceComplete, AbortResponse, ConfigResponse}
use Rattle.rules.specs.Records.{ExtendedFound, ExtendedNone, CueRequest}
use Rattle.rules.specs.Follows.ReadBack.{records_in}
use Rattle.rules.specs.Calls.{Call, opens, closes, messages, ticks, cues}
use Rattle.rules.specs.HouseNumbers.{lending}
use Rattle.demands.specs.History.{Event, wrote, Entry, book, clock_after}
use Rattle.demands.specs.Told
use Rattle.demands.specs.Told.{answers, full_told, is_out, outs_of, started_told, unended, Ended, entries_of, Stands, counts_told}
use Rattle.demands.specs.Told.{air_mux_told}
use Rattle.demands.specs.Told.{MuxInRange, conn_of, concerned, Carries, granted_by}
use Rattle.cases.specs.Scenario.{hex}
use Rattle.cases.specs.Computing.{computing}
use Rattle.cases.specs.Heard.{heard, spoken, silent, denied, till, says, splice, unlike, unordered, not-true}

-- what the definitions of demands' Told are computed with
unfoldable telling : ℕ
unfolding Told.answers Told.full_told Told.is_out Told.started_replied Told.started_told Told.air_mux_told Told.concerned Told.Carries
    Told.granted_by heard spoken silent denied till says splice computing
telling = 0

-- ## Records

record Mark : Type 0 where
  told : Record
  wants : List ℕ

mark : Record → (answer out : ℕ) → Mark
mark r a o = record { told = r; wants = a ∷ o ∷ [] }

-- of number 7 of connection 1: whether it is the Splice_Response 114 to it, and whether it says that a spot was on air and has ended
marks : List Mark
marks =
    mark (SpliceResponse 1 114 7) 1 0
    ∷ mark (SpliceResponse 1 100 7) 0 0
    ∷ mark (SpliceResponse 1 116 7) 0 0
    ∷ mark (SpliceResponse 0 114 7) 0 0
    ∷ mark (SpliceResponse 1 114 8) 0 0
    ∷ mark (SpliceComplete 1 100 7 1 5) 0 1
    ∷ mark (SpliceComplete 1 116 7 1 5) 0 1
    ∷ mark (SpliceComplete 1 125 7 1 0) 0 1
    ∷ mark (SpliceComplete 1 100 7 0 0) 0 0
    ∷ mark (SpliceComplete 1 109 7 0 0) 0 0
    ∷ mark (SpliceComplete 1 114 7 0 0) 0 0
    ∷ mark (SpliceComplete 0 100 7 1 5) 0 0
    ∷ mark (SpliceComplete 1 100 8 1 5) 0 0
    ∷ mark (AbortResponse 1 114 7) 0 0
    ∷ mark (General 1 114) 0 0
    ∷ mark (ExtendedFound 1 7 0 116 5) 0 0
    ∷ []

marked : map (λ m. bit (answers 114 1 7 m.told) ∷ bit (is_out 1 7 m.told) ∷ []) marks ≡ map (λ m. m.wants) marks
unfolding mark marks telling
marked = refl

outs : outs_of 1 7 (map (λ m. m.told) marks) ≡ 3
unfolding mark marks telling
outs = refl

-- the connection that each is for
for : map conn_of
    (General 3 103 ∷ InitResponse 3 100 [] ∷ AliveResponse 3 100 2 7 0 ∷ SpliceResponse 3 100 7 ∷ SpliceComplete 3 100 7 1 5
    ∷ AbortResponse 3 100 7 ∷ CueRequest 3 1 2 [] ∷ ExtendedFound 3 7 1 2 5 ∷ ExtendedNone 3 7 ∷ ConfigResponse 3 100 [] [] [] ∷ []) ≡
    3 ∷ 3 ∷ 3 ∷ 3 ∷ 3 ∷ 3 ∷ 3 ∷ 3 ∷ 3 ∷ 3 ∷ []
for = refl

-- ## A full queue: "when the count is 20, or when it is at least 10 and the four counts, each taken as at least 10, add up to 64"

-- a Splice_Request for a number, a tick from 10 µs
asking : ℕ → List ℕ
asking x = hex "0007 0021 FFFF FFFF" ++ (bytes 4 x ++ hex "FFFFFFFF 00000000 0000000A 0001 00000001 00000000 00000000 010001")

-- connection c's numbers from n - 1 down are accepted
accepts : ℕ → ℕ → List Event
accepts c zero = []
accepts c (suc n) =
    record { call = messages c (asking n) (lending 4096); reply = wrote ((0x52 ∷ c ∷ []) ++ (hex "0008 0004 0064 FFFF" ++ bytes 4 n)) }
    ∷ accepts c n

waiting : (a b c d : ℕ) → List Event
waiting a b c d = accepts 0 a ++ (accepts 1 b ++ (accepts 2 c ++ accepts 3 d))

record Full : Type 0 where
  heard : List Event
  wants : List ℕ

-- the four counts, and 1 for each connection that is full
full : List Event → (counts fulls : List ℕ) → Full
full h n f = record { heard = h; wants = n ++ f }

four : (a b c d : ℕ) → List ℕ
four a b c d = a ∷ b ∷ c ∷ d ∷ []

fulls : List Full
fulls =
    -- P3 to P6: 9 + 20 + 20 + 14, as 10, are 64, and connection 3 has 14 of them
    full (waiting 9 20 20 14) (four 9 20 20 14) (four 0 1 1 1)
    ∷ full (waiting 10 20 20 14) (four 10 20 20 14) (four 1 1 1 1)
    ∷ full (waiting 19 0 0 0) (four 19 0 0 0) (four 0 0 0 0)
    ∷ full (waiting 20 0 0 0) (four 20 0 0 0) (four 1 0 0 0)
    -- 63, and the empty ones taken as 10
    ∷ full (waiting 10 20 20 13) (four 10 20 20 13) (four 0 1 1 0)
    ∷ full (waiting 0 14 20 20) (four 0 14 20 20) (four 0 1 1 1)
    -- what has started or ended does not wait: of 20 one starts; another is aborted
    ∷ full (waiting 20 0 0 0 ++ (heard (till 90) "5200 0009 000D 0064 FFFF 00000005 00 00000000 00000000" ∷ []))
    (four 19 0 0 0) (four 0 0 0 0)
    ∷ full (waiting 20 0 0 0 ++ (heard (says 0 "000E 0004 FFFF FFFF 00000005")
    "5200 000F 0004 0064 FFFF 00000005 5200 0008 0004 0074 FFFF 00000005" ∷ []))
    (four 19 0 0 0) (four 0 0 0 0)
    ∷ []

counted : map (λ f. counts_told f.heard ++ map (λ c. bit (full_told c f.heard)) (0 ∷ 1 ∷ 2 ∷ 3 ∷ [])) fulls
    ≡ map (λ f. f.wants) fulls
unfolding asking accepts waiting full four fulls telling
counted = refl

-- ## Starts and ends, call by call

-- a call with its answer, and then: whether 0's 1 and 1's 1 have started and not ended; how many accepted of 0's 1 have had no end
record Step : Type 0 where
  event : Event
  wants : List ℕ

step : Event → (first second owed : ℕ) → Step
step e a b n = record { event = e; wants = a ∷ b ∷ n ∷ [] }

day : List Step
day =
    -- 0's 1 from 90 to 490, AccessType 1, 1's 1 over it from 180 to 280; the own answer 121 to a second 1 of connection 0 opens nothing
    step (heard (splice 0 "00000001 FFFFFFFF 00000000 0000000A" "00000004 00000000" "01 00") "5200 0008 0004 0064 FFFF 00000001") 0 0 1
    ∷ step (heard (splice 1 "00000001 FFFFFFFF 00000000 00000014" "00000001 00000000" "03 01") "5201 0008 0004 0064 FFFF 00000001") 0 0 1
    ∷ step (heard (splice 0 "00000001 FFFFFFFF 00000000 00000014" "00000001 00000000" "03 01") "5200 0008 0004 0079 FFFF 00000001") 0 0 1
    ∷ step (heard (till 100) "5200 0009 000D 0064 FFFF 00000001 00 00000000 00000000") 1 0 1
    ∷ step (heard (till 200) "5201 0009 000D 0064 FFFF 00000001 00 00000000 00000000") 1 1 1
    ∷ step (heard (till 300) "5201 0009 000D 0064 FFFF 00000001 01 00000000 00000001") 1 0 1
    -- no card gives it to a number that is held: an own answer 109 is no end
    ∷ step (heard (splice 0 "00000001 FFFFFFFF 00000000 00000014" "00000001 00000000" "01 00") "5200 0008 0004 006D FFFF 00000001") 1 0 1
    ∷ step (denied (closes 0 4095) NoRoom) 1 0 1
    ∷ step (heard (till 500) "5200 0009 000D 0064 FFFF 00000001 01 00000000 00000003") 0 0 0
    -- again: it starts and ends in one call, then it fails at its start
    ∷ step (heard (splice 0 "00000001 FFFFFFFF 00000000 00000046" "00000001 00000000" "01 00") "5200 0008 0004 0064 FFFF 00000001") 0 0 1
    ∷ step (spoken (till 800)
    ("5200 0009 000D 0064 FFFF 00000001 00 00000000 00000000" ∷ "5200 0009 000D 0064 FFFF 00000001 01 00000000 00000001" ∷ [])) 0 0 0
    ∷ step (heard (splice 0 "00000001 FFFFFFFF 00000000 00000064" "00000001 00000000" "01 00") "5200 0008 0004 0064 FFFF 00000001") 0 0 1
    ∷ step (heard (till 950) "5200 0009 000D 006D FFFF 00000001 00 00000000 00000000") 0 0 0
    -- evicted by another's acceptance
    ∷ step (heard (splice 0 "00000001 FFFFFFFF 00000000 000000C8" "00000001 00000000" "01 00") "5200 0008 0004 0064 FFFF 00000001") 0 0 1
    ∷ step (spoken (splice 2 "00000009 FFFFFFFF 00000000 000000C8" "00000001 00000000" "05 00")
    ("5200 0008 0004 006D FFFF 00000001" ∷ "5202 0008 0004 0064 FFFF 00000009" ∷ [])) 0 0 0
    -- a start in an answer to a message counts too
    ∷ step (heard (splice 1 "00000001 FFFFFFFF 00000000 000000C8" "00000001 00000000" "05 00")
    "5201 0009 000D 0064 FFFF 00000001 00 00000000 00000000") 0 1 0
    ∷ []

events : List Step → List Event
events l = map (λ s. s.event) l

points : List Event → List Step → List (List Event)
points h [] = []
points h (s ∷ l) = let g = h ++ (s.event ∷ []) in g ∷ points g l

started : map (λ h. started_told 0 1 h 0 ∷ started_told 1 1 h 0 ∷ unended 0 1 (book h []) ∷ []) (points [] day) ≡ map (λ s. s.wants) day
unfolding step day points telling
started = refl

-- ## One end

-- an accepted session with an end time, OverridePlaying, some ends, and whether its connection has closed since
entry_as : (conn id end over ends : ℕ) → Bool → Entry
entry_as c x t o n b = record { conn = c; id = x; end = t; mux = 5; event = 0; prior = 0xFFFFFFFF; overrides = o; ends = n; closed = b }

entry : (conn id end ends : ℕ) → Bool → Entry
entry c x t n b = entry_as c x t 0 n b

-- one that has had no end, before its time and with its connection open; and one that has had its end
ahead : {now : ℕ} (e : Entry) → e.ends ≡ 0 → T (not (leb e.end now)) → e.closed ≡ false → Ended now e
ahead {now} e n t c =
    record {
      once = subst (λ k. k ≤ 1) (sym n) (lit≤ tt);
      by_time = λ h. absurd (unordered e.end now t h);
      by_close = λ h. absurd (not-true false tt (sym c ∙ h));
    }

past : {now : ℕ} (e : Entry) → e.ends ≡ 1 → Ended now e
past e n = record { once = le_of_eq n; by_time = λ t. n; by_close = λ c. n }

-- after the fourth call of the day, at 100, neither has come to its end; after the ninth, at 500, both have had it
one_end : All (Ended (clock_after (events (take 4 day)) 0)) (book (events (take 4 day)) [])
    × All (Ended (clock_after (events (take 9 day)) 0)) (book (events (take 9 day)) [])
unfolding step day events entry_as entry telling
one_end = (
  (ahead (entry_as 1 1 280 1 0 false) refl tt refl, (ahead (entry 0 1 490 0 false) refl tt refl, tt)),
  (past (entry_as 1 1 280 1 1 false) refl, (past (entry 0 1 490 1 false) refl, tt)),
)

-- not: a second end; none at its end time; none when its connection has closed. At its end time itself, and before it
ended-not : (Ended 500 (entry 0 1 490 2 false) → ⊥) × (Ended 490 (entry 0 1 490 0 false) → ⊥) × (Ended 100 (entry 0 1 490 0 true) → ⊥)
unfolding entry_as entry
ended-not = (λ e. unordered 2 1 tt e.once, λ e. unlike 0 1 tt (e.by_time (lit≤ tt)), λ e. unlike 0 1 tt (e.by_close refl))

ended-before : Ended 489 (entry 0 1 490 0 false)
unfolding entry_as entry
ended-before = ahead (entry 0 1 490 0 false) refl tt refl

-- ## A closed connection's sessions stand

-- 0's 1, 0's 2 and 1's 1, of which 0's end by its close: 1 on air, 2 waiting
closing : List Event
closing =
    heard (splice 0 "00000001 FFFFFFFF 00000000 0000000A" "00000004 00000000" "01 00") "5200 0008 0004 0064 FFFF 00000001"
    ∷ heard (splice 0 "00000002 FFFFFFFF 00000000 0000005A" "00000001 00000000" "01 00") "5200 0008 0004 0064 FFFF 00000002"
    ∷ heard (splice 1 "00000001 FFFFFFFF 00000000 00000070" "00000001 00000000" "01 00") "5201 0008 0004 0064 FFFF 00000001"
    ∷ heard (till 200) "5200 0009 000D 0064 FFFF 00000001 00 00000000 00000000"
    ∷ spoken (closes 0 4096) ("5200 0009 000D 0074 FFFF 00000001 01 00000000 00000001" ∷ "5200 0008 0004 0074 FFFF 00000002" ∷ []) ∷ []

-- opened again, number 1 is accepted again for 50 µs, and ends; 1's 1 ends
reusing : List Event
reusing =
    silent (opens 0)
    ∷ heard (splice 0 "00000001 FFFFFFFF 00000000 00000032" "00000001 00000000" "01 00") "5200 0008 0004 0064 FFFF 00000001"
    ∷ spoken (till 600)
    ("5200 0009 000D 0064 FFFF 00000001 00 00000000 00000000" ∷ "5200 0009 000D 0064 FFFF 00000001 01 00000000 00000001" ∷ [])
    ∷ heard (says 1 "000E 0004 FFFF FFFF 00000001") "5201 000F 0004 0064 FFFF 00000001 5201 0008 0004 0074 FFFF 00000001" ∷ []

-- 1's end, written once more behind the close
late : Event
late = heard (till 700) "5200 0009 000D 0064 FFFF 00000001 01 00000000 00000001"

own : map (λ l. map (λ (e : Entry). e.id) l)
    (entries_of 0 (book closing []) ∷ entries_of 1 (book closing []) ∷ entries_of 0 (book (closing ++ reusing) []) ∷ []) ≡
    (2 ∷ 1 ∷ []) ∷ (1 ∷ []) ∷ (1 ∷ 2 ∷ 1 ∷ []) ∷ []
unfolding closing reusing telling
own = refl

closed-stands : Stands 0 (book closing []) (book (closing ++ reusing) [])
unfolding closing reusing entry_as entry telling
closed-stands = record { newer = entry 0 1 550 1 false ∷ []; same = refl; ended = (refl, (refl, tt)) }

-- the ends of the oldest of a list
oldest : List Entry → ℕ
oldest [] = 0
oldest (e ∷ []) = e.ends
oldest (e ∷ f ∷ l) = oldest (f ∷ l)

behind : (l m : List Entry) (f : Entry) → oldest (l ++ (f ∷ m)) ≡ oldest (f ∷ m)
unfolding oldest
behind [] m f = refl
behind (e ∷ []) m f = refl
behind (e ∷ g ∷ l) m f = behind (g ∷ l) m f

-- an end that comes too late counts for one that had its end: the incident. And one that has none at the close
stands-not : (Stands 0 (book closing []) (book (closing ++ (late ∷ [])) []) → ⊥)
    × (Stands 1 (book closing []) (book closing []) → ⊥)
unfolding closing late oldest entry_as entry telling
stands-not = (
  λ s. unlike 2 1 tt (ap oldest s.same ∙ behind s.newer (entry 0 1 490 1 true ∷ []) (entry 0 2 910 1 true)),
  λ s. unlike 0 1 tt s.ended.0,
)

-- ## 02, CR 5: what the one on air asked of the multiplexer

-- of a Splice_Request what stands between its number and the value of a muxpriority_descriptor: tag 0x02, length 5, "SAPI"
rest : String
rest = "FFFFFFFF 00000000 0000000A 0001 00000001 00000000 00000000 010001 0205 53415049"

-- one that asks a value, 33 + 7 = 0x28 bytes, and is accepted
ranked : ℕ → (id value : String) → Event
ranked c x v =
    record {
      call = messages c (hex "0007 0028 FFFF FFFF" ++ (hex x ++ (hex rest ++ hex v))) (lending 4096);
      reply = wrote ((0x52 ∷ c ∷ []) ++ (hex "0008 0004 0064 FFFF" ++ hex x));
    }

-- that number x of connection c is held, with a value
session : (conn id mux : ℕ) → Session
session c x n =
    record {
      conn = c;
      id = x;
      prior = 0xFFFFFFFF;
      start = record { 0 = 90 };
      end = record { 0 = 190 };
      access = 1;
      overrides = 0;
      mux = n;
      event = 0;
      played = record { 0 = 0 };
    }

-- 0's 1 asked 9, and ended; again it asked 3; 1's 1 asked 10, and 1's 2 nothing
ranks : List Entry
ranks =
    book
    (ranked 0 "00000001" "09" ∷ heard (till 300) "5200 0009 000D 0064 FFFF 00000001 01 00000000 00000001" ∷ ranked 0 "00000001" "03"
    ∷ ranked 1 "00000001" "0A"
    ∷ heard (splice 1 "00000002 FFFFFFFF 00000000 0000000A" "00000001 00000000" "01 00") "5201 0008 0004 0064 FFFF 00000002" ∷ []) []

-- "5 with none"; that of the first, which is on air, by its connection and its number, the last accepted of them; 5 without a descriptor
mux-told : map (λ k. air_mux_told k ranks)
    ([] ∷ (session 0 1 6 ∷ []) ∷ (session 1 1 6 ∷ session 0 1 6 ∷ []) ∷ (session 1 2 6 ∷ session 1 1 6 ∷ []) ∷ []) ≡
    5 ∷ 3 ∷ 10 ∷ 5 ∷ []
unfolding rest ranked session ranks telling
mux-told = refl

-- "the value 1 to 10"
in-range : MuxInRange (session 0 1 1) × MuxInRange (session 0 1 10) × (MuxInRange (session 0 1 0) → ⊥) × (MuxInRange (session 0 1 11) → ⊥)
unfolding session
in-range = ((lit≤ tt, lit≤ tt), (lit≤ tt, lit≤ tt), λ m. unordered 1 0 tt m.0, λ m. unordered 11 10 tt m.1)

-- ## 02, CR 7: whom a section concerns

-- 0 and 3 are initialised, 1 is open, 2 is closed
now : Splicer
now =
    record {
      name = hex "434831";
      clock = 0;
      primary = 0;
      links = Initialised ∷ Opened ∷ Closed ∷ Initialised ∷ [];
      hardware = [];
      queue = none_held;
    }

-- "to every initialised connection, from 0 upward", "117 to the same connections"; of what "writes nothing" nobody
concerns : map (λ x. concerned x now) (At 90000 ∷ Timeless ∷ Bad ∷ Silent ∷ []) ≡ (0 ∷ 3 ∷ []) ∷ (0 ∷ 3 ∷ []) ∷ (0 ∷ 3 ∷ []) ∷ [] ∷ []
unfolding now telling
concerns = refl

-- "with the time and the whole section": mark 2, header 8, time 8, then its bytes. Of another record nothing is said
carries : Carries (hex "FC3011") (CueRequest 2 1000 5 (hex "FC3011")) × Carries (hex "FC3011") (General 2 117)
unfolding telling
carries = (refl, tt)

carries-not : (Carries (hex "FC3011") (CueRequest 2 1000 5 (hex "FC30")) → ⊥)
    × (Carries (hex "FC3011") (CueRequest 2 1000 5 (hex "FC3012")) → ⊥)
unfolding telling
carries-not = (λ e. unlike 2 3 tt (ap length e), λ e. unlike 0x12 0x11 tt (ap (λ l. get_or l 2 0) e))

-- ## 02, CR 11: "A request not accepted reports 0"

record Grant : Type 0 where
  call : Call
  bytes : String
  wants : ℕ

grant : Call → String → ℕ → Grant
grant k b n = record { call = k; bytes = b; wants = n }

asked : Call
asked = splice 0 "00000001 FFFFFFFF 00000000 0000000A" "00000004 00000000" "01 00"

grants : List Grant
grants =
    grant asked "5200 0008 0004 0064 FFFF 00000001" 1
    -- behind those that it evicted; 109 and 112; the 100 of another connection, of another number, or not its last record
    ∷ grant asked "5201 0008 0004 006D FFFF 00000002 5200 0008 0004 0064 FFFF 00000001" 1
    ∷ grant asked "5200 0008 0004 006D FFFF 00000001" 0
    ∷ grant asked "5200 0008 0004 0070 FFFF 00000001" 0
    ∷ grant asked "5201 0008 0004 0064 FFFF 00000001" 0
    ∷ grant asked "5200 0008 0004 0064 FFFF 00000002" 0
    ∷ grant asked "5200 0008 0004 0064 FFFF 00000001 5201 0008 0004 006D FFFF 00000002" 0
    ∷ grant asked "5200 000F 0004 0064 FFFF 00000001" 0
    ∷ grant asked "" 0
    -- other messages and other calls, whatever they write
    ∷ grant (says 0 "000E 0004 FFFF FFFF 00000001") "5200 0008 0004 0064 FFFF 00000001" 0
    ∷ grant (opens 0) "5200 0008 0004 0064 FFFF 00000001" 0
    ∷ grant (closes 0 4096) "5200 0008 0004 0064 FFFF 00000001" 0
    ∷ grant (ticks 1 0 4096) "5200 0008 0004 0064 FFFF 00000001" 0
    ∷ grant (till 90) "5200 0008 0004 0064 FFFF 00000001" 0
    ∷ grant (cues [] 0 0 0 4096) "5200 0008 0004 0064 FFFF 00000001" 0
    ∷ []

granted : map (λ g. bit (granted_by g.call (records_in (hex g.bytes)))) grants ≡ map (λ g. g.wants) grants
unfolding grant asked grants telling
granted = refl

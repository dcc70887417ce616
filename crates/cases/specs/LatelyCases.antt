-- 02, CR 8: what ended lately (demands' Lately), from histories written down by hand, the bytes of requests and of answers: which record is
-- an end, with which SpliceEventID and PlayedDuration, in which order; the sixteen; the answers to ExtendedData_Requests. Assumes nothing.
use Rattle.std.specs.Prelude.{◌≡◌, refl, List, [], ◌∷◌, ◌++◌, map, ℕ, zero, suc, take, get_or}
use Rattle.std.proofs.Common.{ap}
use Prim.Native.String.{String}
use Rattle.rules.specs.declared.Past.{Past}
use Rattle.rules.specs.declared.Refusal.TheVariants.{ClockBack, NoRoom}
use Rattle.rules.specs.Lists.{bit, count}
use Rattle.rules.specs.Bytes.{bytes}
use Rattle.rules.specs.Recent.{unused, most_kept}
use Rattle.rules.specs.Records.{Record, General, InitResponse, AliveResponse, SpliceResponse, SpliceComplete, AbortResponse, ConfigResponse}
use Rattle.rules.specs.Records.{ExtendedFound, ExtendedNone, CueRequest}
use Rattle.rules.specs.Follows.ReadBack.{records_in}
use Rattle.rules.specs.Calls.{opens, closes, messages}
use Rattle.rules.specs.HouseNumbers.{lending}
use Rattle.demands.specs.History.{Event, wrote, book}
use Rattle.demands.specs.Lately
use Rattle.demands.specs.Lately.{Told, is_an_end, ends_told, of_number, answer_told, ended_once, As, KeptAs}
use Rattle.cases.specs.Scenario.{hex}
use Rattle.cases.specs.Computing.{computing}
use Rattle.cases.specs.Heard.{heard, silent, denied, till, says, splice, unlike}

-- what the definitions of demands' Lately are computed with
unfoldable telling : ℕ
unfolding Lately.is_an_end Lately.told_in Lately.newer Lately.ended_replied Lately.ended_told Lately.answer_told heard silent denied till
    says
    splice computing
telling = 0

-- ## Which record is an end

record Mark : Type 0 where
  told : Record
  wants : ℕ

mark : Record → ℕ → Mark
mark r n = record { told = r; wants = n }

marks : List Mark
marks =
    -- "A session's end is its SpliceComplete with flag 1, or its SpliceComplete with flag 0 and 109, or a Splice_Response 109 .. or 116";
    -- CR 4: or 125
    mark (SpliceComplete 1 100 7 1 5) 1
    ∷ mark (SpliceComplete 1 116 7 1 5) 1
    ∷ mark (SpliceComplete 1 125 7 1 5) 1
    ∷ mark (SpliceComplete 1 109 7 0 0) 1
    ∷ mark (SpliceComplete 1 100 7 0 0) 0
    ∷ mark (SpliceResponse 1 109 7) 1
    ∷ mark (SpliceResponse 1 116 7) 1
    ∷ mark (SpliceResponse 1 125 7) 1
    ∷ mark (SpliceResponse 1 100 7) 0
    ∷ mark (SpliceResponse 1 112 7) 0
    ∷ mark (SpliceResponse 1 114 7) 0
    ∷ mark (SpliceResponse 1 121 7) 0
    ∷ mark (AbortResponse 1 100 7) 0
    ∷ mark (AbortResponse 1 116 7) 0
    ∷ mark (AliveResponse 1 100 2 7 0) 0
    ∷ mark (ExtendedFound 1 7 0 116 5) 0
    ∷ mark (ExtendedNone 1 7) 0
    ∷ mark (InitResponse 1 100 []) 0
    ∷ mark (ConfigResponse 1 100 [] [] []) 0
    ∷ mark (CueRequest 1 0 0 []) 0
    ∷ mark (General 1 103) 0
    ∷ []

marked : map (λ m. bit (is_an_end m.told)) marks ≡ map (λ m. m.wants) marks
unfolding mark marks telling
marked = refl

-- ## A day in ninths, call by call: a microsecond is 9, a tick 100. Starts as near as these no card accepts; they are told alike

ended : (conn id event result played : ℕ) → Told
ended c x e r p = record { conn = c; id = x; event = e; result = r; played = p }

record Step : Type 0 where
  event : Event
  ends : List Told

step : Event → List Told → Step
step e l = record { event = e; ends = l }

-- each call, and the ends that it tells, the newest first
day : List Step
day =
    -- connection 0's 1, SpliceEventID 0x11, AccessType 1, 4 ticks from 10 µs: 90 to 490
    step (heard (splice 0 "00000001 FFFFFFFF 00000000 0000000A" "00000004 00000011" "01 00") "5200 0008 0004 0064 FFFF 00000001") []
    -- connection 1's 1, 0x22, AccessType 3 with the flag, a tick from 20 µs: 180 to 280
    ∷ step (heard (splice 1 "00000001 FFFFFFFF 00000000 00000014" "00000001 00000022" "03 01") "5201 0008 0004 0064 FFFF 00000001") []
    -- 2 from 90 µs, and 3 behind it: 810 to 910 to 1,010
    ∷ step (heard (splice 0 "00000002 FFFFFFFF 00000000 0000005A" "00000001 00000033" "01 00") "5200 0008 0004 0064 FFFF 00000002") []
    ∷ step (heard (splice 0 "00000003 00000002 00000000 00000000" "00000001 00000044" "01 00") "5200 0008 0004 0064 FFFF 00000003") []
    -- a Splice_Request's own answer is no end: 109, then 121 for a number that is held
    ∷ step (heard (splice 1 "00000009 FFFFFFFF 00000000 0000005A" "00000001 00000055" "01 00") "5201 0008 0004 006D FFFF 00000009") []
    ∷ step (heard (splice 0 "00000001 FFFFFFFF 00000000 00000070" "00000001 00000066" "01 00") "5200 0008 0004 0079 FFFF 00000001") []
    -- 0's 1 starts
    ∷ step (heard (till 150) "5200 0009 000D 0064 FFFF 00000001 00 00000000 00000000") []
    -- 1's 1 starts over it, and ends: a tick
    ∷ step (heard (till 350)
    "5201 0009 000D 0064 FFFF 00000001 00 00000000 00000000 5201 0009 000D 0064 FFFF 00000001 01 00000000 00000001")
    (ended 1 1 0x22 100 1 ∷ [])
    -- 1's 5, 0x77, over it from 40 µs: 360
    ∷ step (heard (splice 1 "00000005 FFFFFFFF 00000000 00000028" "00000005 00000077" "04 01") "5201 0008 0004 0064 FFFF 00000005") []
    ∷ step (heard (till 400) "5201 0009 000D 0064 FFFF 00000005 00 00000000 00000000") []
    -- refused calls tell nothing
    ∷ step (denied (till 399) ClockBack) []
    ∷ step (denied (closes 1 4095) NoRoom) []
    -- 0's 1, covered, is aborted: Abort_Response, then Splice_Response 116, which shows no duration. It was on air from 90 to 180 and from
    -- 280 to 360, 170 ninths: a tick. Its SpliceEventID is that of the request that was accepted
    ∷ step (heard (says 0 "000E 0004 FFFF FFFF 00000001") "5200 000F 0004 0064 FFFF 00000001 5200 0008 0004 0074 FFFF 00000001")
    (ended 0 1 0x11 116 1 ∷ [])
    -- connection 2's 7 evicts 2 and then its follower 3; its own 100 is no end. Neither was ever on air
    ∷ step (heard (splice 2 "00000007 FFFFFFFF 00000000 0000005A" "00000005 00000088" "05 00")
    "5200 0008 0004 006D FFFF 00000002 5200 0008 0004 006D FFFF 00000003 5202 0008 0004 0064 FFFF 00000007")
    (ended 0 3 0x44 109 0 ∷ ended 0 2 0x33 109 0 ∷ [])
    -- connection 1 closes with 5 on air for 40 ninths
    ∷ step (heard (closes 1 4096) "5201 0009 000D 0074 FFFF 00000005 01 00000000 00000000") (ended 1 5 0x77 116 0 ∷ [])
    -- 0's 1 again, 0x99, a tick from 50 µs: 450 to 550
    ∷ step (heard (splice 0 "00000001 FFFFFFFF 00000000 00000032" "00000001 00000099" "01 00") "5200 0008 0004 0064 FFFF 00000001") []
    ∷ step (heard (till 600)
    "5200 0009 000D 0064 FFFF 00000001 00 00000000 00000000 5200 0009 000D 0064 FFFF 00000001 01 00000000 00000001")
    (ended 0 1 0x99 100 1 ∷ [])
    -- 2's 8 starts against 7, and fails: 7 is on air from 810, 8 from 95 µs, 855
    ∷ step (heard (splice 2 "00000008 FFFFFFFF 00000000 0000005F" "00000001 000000AA" "04 01") "5202 0008 0004 0064 FFFF 00000008") []
    ∷ step (heard (till 860)
    "5202 0009 000D 0064 FFFF 00000007 00 00000000 00000000 5202 0009 000D 006D FFFF 00000008 00 00000000 00000000")
    (ended 2 8 0xAA 109 0 ∷ [])
    -- 3's 6 starts over 7 at 120 µs, 1,080; connection 2 closes with 7 covered, which was on air for 270 ninths: two ticks
    ∷ step (heard (splice 3 "00000006 FFFFFFFF 00000000 00000078" "00000009 000000BB" "06 01") "5203 0008 0004 0064 FFFF 00000006") []
    ∷ step (heard (till 1100) "5203 0009 000D 0064 FFFF 00000006 00 00000000 00000000") []
    ∷ step (heard (closes 2 4096) "5202 0008 0004 0074 FFFF 00000007") (ended 2 7 0x88 116 2 ∷ [])
    -- what is asked for and told of them is no end; nor is an open
    ∷ step (heard (says 0 "0003 0008 FFFF FFFF 00000001 FFFFFFFF")
    "5200 0004 0014 0064 FFFF 00000001 01 0E 43415244 00000099 0064 00000001") []
    ∷ step (silent (opens 1)) []
    ∷ []

-- the events up to and with each call, and so the ends that each history tells
points : List Event → List Step → List (List Event)
points h [] = []
points h (s ∷ l) = let g = h ++ (s.event ∷ []) in g ∷ points g l

sums : List Told → List Step → List (List Told)
sums l [] = []
sums l (s ∷ t) = let m = s.ends ++ l in m ∷ sums m t

all : List Event
all = map (λ s. s.event) day

ends-told : map ends_told (points [] day) ≡ sums [] day
unfolding ended step day points sums telling
ends-told = refl

-- under each number as many are told as its accepted sessions have ended: two of 0's 1; 3's 6 is on air, and 9 was never accepted
numbers : List (List ℕ)
numbers =
    (0 ∷ 1 ∷ 2 ∷ []) ∷ (0 ∷ 2 ∷ 1 ∷ []) ∷ (1 ∷ 1 ∷ 1 ∷ []) ∷ (1 ∷ 5 ∷ 1 ∷ []) ∷ (2 ∷ 8 ∷ 1 ∷ [])
    ∷ (2 ∷ 7 ∷ 1 ∷ []) ∷ (3 ∷ 6 ∷ 0 ∷ []) ∷ (1 ∷ 9 ∷ 0 ∷ []) ∷ (0 ∷ 5 ∷ 0 ∷ []) ∷ []

ended-once : map (λ n. get_or n 0 0 ∷ get_or n 1 0 ∷ ended_once (get_or n 0 0) (get_or n 1 0) (book all []) ∷ []) numbers ≡ numbers
unfolding ended step day all numbers telling
ended-once = refl

of_number_lem : map (λ n. get_or n 0 0 ∷ get_or n 1 0 ∷ count (of_number (get_or n 0 0) (get_or n 1 0)) (ends_told all) ∷ []) numbers ≡
    numbers
unfolding ended step day all numbers telling
of_number_lem = refl

-- the book may count two ends of a session, which no card writes: it has not had its one end
twice : List Event
twice =
    heard (splice 0 "00000001 FFFFFFFF 00000000 0000000A" "00000001 00000011" "01 00") "5200 0008 0004 0064 FFFF 00000001"
    ∷ heard (till 200) "5200 0009 000D 0064 FFFF 00000001 01 00000000 00000001 5200 0008 0004 0074 FFFF 00000001" ∷ []

not-once : ended_once 0 1 (book twice []) ≡ 0
unfolding twice telling
not-once = refl

-- what a call tells is told of the book and of the time before it; no card shows the difference. 1 is on air from 90 to 200, more than a
-- tick. Then its number is accepted again, behind its end; or an end comes without a duration, and the clock goes on to 400
on_air : List Event
on_air =
    heard (splice 0 "00000001 FFFFFFFF 00000000 0000000A" "00000009 00000011" "01 00") "5200 0008 0004 0064 FFFF 00000001"
    ∷ heard (till 200) "5200 0009 000D 0064 FFFF 00000001 00 00000000 00000000" ∷ []

again : Event
again =
    heard (splice 0 "00000001 FFFFFFFF 00000000 00000028" "00000001 00000022" "01 00")
    "5200 0008 0004 0074 FFFF 00000001 5200 0008 0004 0064 FFFF 00000001"

onward : Event
onward = heard (till 400) "5200 0008 0004 0074 FFFF 00000001"

before : map (λ e. ends_told (on_air ++ (e ∷ []))) (again ∷ onward ∷ []) ≡ (ended 0 1 0x11 116 1 ∷ []) ∷ (ended 0 1 0x11 116 1 ∷ []) ∷ []
unfolding ended on_air again onward telling
before = refl

-- ## The answers: "the asking connection's latest ended session of that number"

record Reply : Type 0 where
  conn : ℕ
  id : ℕ
  wants : String

reply : ℕ → ℕ → String → Reply
reply c x b = record { conn = c; id = x; wants = b }

-- ExtendedData_Response: 4 + 16 = 0x14 bytes of data, or "121 with the SessionID alone"
replies : List Reply
replies =
    -- the latest of two; the same number of another connection
    reply 0 1 "5200 0004 0014 0064 FFFF 00000001 01 0E 43415244 00000099 0064 00000001"
    ∷ reply 1 1 "5201 0004 0014 0064 FFFF 00000001 01 0E 43415244 00000022 0064 00000001"
    ∷ reply 0 3 "5200 0004 0014 0064 FFFF 00000003 01 0E 43415244 00000044 006D 00000000"
    ∷ reply 1 5 "5201 0004 0014 0064 FFFF 00000005 01 0E 43415244 00000077 0074 00000000"
    ∷ reply 2 7 "5202 0004 0014 0064 FFFF 00000007 01 0E 43415244 00000088 0074 00000002"
    -- on air; another connection's; never accepted
    ∷ reply 3 6 "5203 0004 0004 0079 FFFF 00000006"
    ∷ reply 0 5 "5200 0004 0004 0079 FFFF 00000005"
    ∷ reply 1 9 "5201 0004 0004 0079 FFFF 00000009"
    ∷ []

answered : map (λ r. answer_told r.conn r.id (take most_kept (ends_told all)) ∷ []) replies
    ≡ map (λ r. records_in (hex r.wants)) replies
unfolding ended step day all reply replies telling
answered = refl

-- ## Sixteen

-- a Splice_Request for a number, a tick from 10 µs
asking : ℕ → List ℕ
asking x = hex "0007 0021 FFFF FFFF" ++ (bytes 4 x ++ hex "FFFFFFFF 00000000 0000000A 0001 00000001 00000000 00000000 010001")

-- the numbers from n - 1 down are accepted
accepts : ℕ → List Event
accepts zero = []
accepts (suc n) =
    record { call = messages 0 (asking n) (lending 4096); reply = wrote (hex "5200 0008 0004 0064 FFFF" ++ bytes 4 n) }
    ∷ accepts n

-- and end by one close, from n - 1 down
closing : ℕ → List ℕ
closing zero = []
closing (suc n) = hex "5200 0008 0004 0074 FFFF" ++ (bytes 4 n ++ closing n)

seventeen : List Event
seventeen = accepts 17 ++ (record { call = closes 0 4096; reply = wrote (closing 17) } ∷ [])

-- 16 ended first, and is dropped; 15 is the oldest that is kept, 0 the newest
sixteen : map (λ x. answer_told 0 x (take most_kept (ends_told seventeen))) (0 ∷ 15 ∷ 16 ∷ [])
    ≡ ExtendedFound 0 0 0 116 0 ∷ ExtendedFound 0 15 0 116 0 ∷ ExtendedNone 0 16 ∷ []
unfolding asking accepts closing seventeen telling
sixteen = refl

-- ## What is kept, as told

past : (conn id event result played : ℕ) → Past
past c x e r p = record { conn = c; id = x; event = e; result = r; played = p }

same : (t : Told) → As (past t.conn t.id t.event t.result t.played) t
unfolding past
same t = record { conn = refl; id = refl; event = refl; result = refl; played = refl }

one : Told
one = ended 0 1 0x11 116 1

two : Told
two = ended 1 2 0x22 100 3

three : Told
three = ended 3 3 0x33 109 0

-- where fewer are told, unused; where more are told, the oldest are not kept
kept-fewer : KeptAs (past 0 1 0x11 116 1 ∷ past 1 2 0x22 100 3 ∷ unused ∷ unused ∷ []) (one ∷ two ∷ [])
unfolding ended past one two
kept-fewer = (same one, (same two, (refl, (refl, tt))))

kept_more : KeptAs (past 0 1 0x11 116 1 ∷ past 1 2 0x22 100 3 ∷ []) (one ∷ two ∷ three ∷ [])
unfolding ended past one two
kept_more = (same one, (same two, tt))

-- not the other way round, nothing left out, and nothing that was not told
in_order : KeptAs (past 1 2 0x22 100 3 ∷ past 0 1 0x11 116 1 ∷ []) (one ∷ two ∷ []) → ⊥
unfolding ended past one two
in_order k = unlike 1 0 tt k.0.conn

none-missing : KeptAs (past 0 1 0x11 116 1 ∷ unused ∷ []) (one ∷ two ∷ []) → ⊥
unfolding ended past one two
none-missing k = unlike 0 1 tt k.1.0.conn

none_more : KeptAs (past 0 1 0x11 116 1 ∷ past 1 2 0x22 100 3 ∷ []) (one ∷ []) → ⊥
unfolding ended past one
none_more k = unlike 100 0 tt (ap (λ (e : Past). e.result) k.1.0)

-- each of the five is told
each-of-five : (As (past 1 1 0x11 116 1) one → ⊥) × (As (past 0 2 0x11 116 1) one → ⊥) × (As (past 0 1 0x12 116 1) one → ⊥)
    × (As (past 0 1 0x11 100 1) one → ⊥) × (As (past 0 1 0x11 116 2) one → ⊥)
unfolding ended past one
each-of-five = (
  λ a. unlike 1 0 tt a.conn,
  λ a. unlike 2 1 tt a.id,
  λ a. unlike 0x12 0x11 tt a.event,
  λ a. unlike 100 116 tt a.result,
  λ a. unlike 2 1 tt a.played,
)

-- Demand 3's definitions (demands' History) on histories worked by hand: what calls and answers tell of the waiting sessions, of the
-- accepted ones and their ends, and of the clock. Assumes nothing.
use Rattle.std.specs.Prelude.{◌≡◌, refl, true, List, [], ◌∷◌, ◌++◌, map, ℕ, ◌*◌, length}
use Rattle.rules.specs.Lists.{bit}
use Rattle.rules.specs.Records.{Record, General, InitResponse, AliveResponse, SpliceResponse, SpliceComplete, AbortResponse, ExtendedFound}
use Rattle.rules.specs.Records.{ExtendedNone}
use Rattle.rules.specs.Calls.{Call, opens, closes, moves}
use Rattle.demands.specs.History.{is_start, is_end, is_yes, own_answer, others_of, wrote, Event, Entry, history, waiting_count, book}
use Rattle.demands.specs.History.{clock_after}
use Rattle.cases.specs.Scenario.{hex}
use Rattle.cases.specs.Computing.{computing}
use Rattle.cases.specs.Rehearsed.{sent, from, init_of, asks, timed, linked, aborts, to, card, up, ready}

-- ## Starts, ends and acceptances, record by record

record Mark : Type 0 where
  told : Record
  wants : List ℕ

mark : Record → (start end yes : ℕ) → Mark
mark r s e y = record { told = r; wants = s ∷ e ∷ y ∷ [] }

-- what each tells of number 7 of connection 1: its start, its end, that it is accepted
marks : List Mark
marks =
    mark (SpliceComplete 1 100 7 0 0) 1 0 0
    ∷ mark (SpliceComplete 1 109 7 0 0) 0 1 0
    ∷ mark (SpliceComplete 1 100 7 1 5) 0 1 0
    ∷ mark (SpliceComplete 1 125 7 1 5) 0 1 0
    ∷ mark (SpliceComplete 1 116 7 1 5) 0 1 0
    ∷ mark (SpliceResponse 1 100 7) 0 0 1
    ∷ mark (SpliceResponse 1 109 7) 0 1 0
    ∷ mark (SpliceResponse 1 116 7) 0 1 0
    ∷ mark (SpliceResponse 1 125 7) 0 1 0
    ∷ mark (SpliceResponse 1 110 7) 0 0 0
    ∷ mark (SpliceResponse 1 112 7) 0 0 0
    ∷ mark (SpliceResponse 1 114 7) 0 0 0
    ∷ mark (SpliceResponse 1 121 7) 0 0 0
    -- another connection's, another number's, and other records
    ∷ mark (SpliceComplete 0 100 7 0 0) 0 0 0
    ∷ mark (SpliceComplete 1 100 8 1 0) 0 0 0
    ∷ mark (SpliceResponse 1 100 8) 0 0 0
    ∷ mark (AbortResponse 1 100 7) 0 0 0
    ∷ mark (ExtendedFound 1 7 0 116 90000) 0 0 0
    ∷ mark (ExtendedNone 1 7) 0 0 0
    ∷ mark (AliveResponse 1 100 2 7 0) 0 0 0
    ∷ mark (InitResponse 1 100 []) 0 0 0
    ∷ mark (General 1 103) 0 0 0
    ∷ []

marked : map (λ m. bit (is_start 1 7 m.told) ∷ bit (is_end 1 7 m.told) ∷ bit (is_yes 1 7 m.told) ∷ []) marks
    ≡ map (λ m. m.wants) marks
unfolding mark marks computing
marked = refl

-- ## A Splice_Request's own answer, the last record of its call, and the others

-- of three records, those that are not the own answer of a call
left : Call → List Record
left k = others_of k (SpliceResponse 0 109 1 ∷ SpliceResponse 0 109 2 ∷ SpliceResponse 1 100 3 ∷ [])

own : own_answer (is_yes 1 3) (SpliceResponse 0 109 1 ∷ SpliceResponse 1 100 3 ∷ []) ≡ true
unfolding computing
own = refl

others : map (λ k. length (left k)) (timed 1 3 1003 0 1 0 90000 ∷ aborts 0 1 ∷ opens 0 ∷ closes 0 4096 ∷ to 1003 0 ∷ moves 9027000000 4096
    ∷ []) ≡ 2 ∷ 3 ∷ 3 ∷ 3 ∷ 3 ∷ 3 ∷ []
unfolding left sent from asks timed aborts to computing
others = refl

first_two : left (timed 1 3 1003 0 1 0 90000) ≡ SpliceResponse 0 109 1 ∷ SpliceResponse 0 109 2 ∷ []
unfolding left sent from asks timed computing
first_two = refl

-- ## Histories

record Told : Type 0 where
  waiting : List ℕ
  accepted : List (List ℕ)
  clock : ℕ

-- an accepted session: connection, number, end in ninths, the ends written for it, and 1 if its connection has closed since
line : (conn id end ends closed : ℕ) → List ℕ
line c x t n b = c ∷ x ∷ t ∷ n ∷ b ∷ []

-- seconds in ninths
s : ℕ → ℕ
s n = n * 9000000

tells : List Event → Told
tells h =
    record {
      waiting = waiting_count 0 h ∷ waiting_count 1 h ∷ waiting_count 2 h ∷ waiting_count 3 h ∷ [];
      accepted = map (λ (e : Entry). line e.conn e.id e.end e.ends (bit e.closed)) (book h []);
      clock = clock_after h 0;
    }

record Row : Type 0 where
  events : List Event
  wants : Told

-- of calls from `ready`: clock 1,000 s, the four connections initialised. The accepted ones: the newest first
row : List Call → (waiting : List ℕ) → (accepted : List (List ℕ)) → (clock : ℕ) → Row
row ks w es t = record { events = history (ready ++ ks) card.splicer; wants = record { waiting = w; accepted = es; clock = t } }

four : (a b c d : ℕ) → List ℕ
four a b c d = a ∷ b ∷ c ∷ d ∷ []

-- 10 s from 1,003 s, and 10 s behind it
two : List Call
two = timed 0 1 1003 0 1 0 900000 ∷ linked 0 2 1 900000 ∷ []

-- 1 plays for a second; its number is asked for again, against a waiting one: 109, the request's own answer
again : List Call
again = timed 0 1 1003 0 3 0 90000 ∷ to 1004 0 ∷ timed 0 2 1010 0 3 0 90000 ∷ timed 0 1 1010 0 3 0 90000 ∷ []

-- 1 and its follower make room for connection 1's 1
evicting : List Call
evicting = two ++ (timed 1 1 1003 0 5 0 900000 ∷ [])

-- 5 meets a 4 on air, and fails; 6 follows it
failing : List Call
failing = timed 0 4 1003 0 4 0 2700000 ∷ timed 0 5 1006 0 4 0 900000 ∷ linked 0 6 5 900000 ∷ to 1006 0 ∷ []

-- 5 ends a 4 on air at once; 6 follows that one
ousting : List Call
ousting = timed 0 4 1003 0 4 0 2700000 ∷ linked 0 6 4 900000 ∷ timed 1 5 1006 0 4 1 900000 ∷ to 1006 0 ∷ []

-- 2 follows its own connection's 1
aborting : List Call
aborting = timed 0 1 1003 0 1 0 900000 ∷ timed 1 1 1100 0 1 0 900000 ∷ linked 0 2 1 900000 ∷ aborts 0 1 ∷ []

-- 7 is on air and 8 waits when their connection closes; connection 1 has a 7 too
closing : List Call
closing = timed 0 7 1003 0 3 0 2700000 ∷ timed 0 8 1050 0 3 0 900000 ∷ timed 1 7 1060 0 3 0 900000 ∷ to 1010 0 ∷ closes 0 4096 ∷ []

-- and number 7 comes again
reopening : List Call
reopening = closing ++ (opens 0 ∷ init_of 0 ∷ timed 0 7 1020 0 3 0 900000 ∷ [])

-- refused calls: already open, no connection 4, a clock that goes back, too little room
refusing : List Call
refusing = timed 0 1 1003 0 1 0 90000 ∷ opens 0 ∷ closes 4 4096 ∷ to 999 0 ∷ closes 0 4095 ∷ []

-- 121, 112 and 109
declining : List Call
declining = timed 0 1 1003 0 1 0 90000 ∷ timed 0 1 1005 0 1 0 90000 ∷ timed 0 2 1002 0 1 0 90000 ∷ timed 0 3 1003 0 1 0 90000 ∷ []

-- 2 follows the second 1
reusing : List Call
reusing = timed 0 1 1003 0 1 0 90000 ∷ to 1004 0 ∷ timed 0 1 1010 0 1 0 450000 ∷ linked 0 2 1 90000 ∷ []

-- one tick from 1,003 s and 1 µs: it ends at 9,027,000,009 + 100 ninths, a ninth behind 1,003 s and 12 µs
ninth : List Call
ninth = timed 0 1 1003 1 1 0 1 ∷ to 1003 12 ∷ []

-- ## Histories that no splicer gives: 1 of connection 0, a second long, is accepted; then

granted : Event
granted = record { call = timed 0 1 1003 0 1 0 90000; reply = wrote (hex "5200 0008 0004 0064 FFFF 00000001") }

-- a call writes some bytes
writing : Call → List ℕ → Event
writing k l = record { call = k; reply = wrote l }

-- two ends
twice : List Event
twice =
    granted ∷ writing (to 1004 0) (hex "5200 0009 000D 0064 FFFF 00000001 01 00000000 00015F90")
    ∷ writing (to 1005 0) (hex "5200 0008 0004 0074 FFFF 00000001") ∷ []

given : List Event → (waiting : List ℕ) → (accepted : List (List ℕ)) → (clock : ℕ) → Row
given h w es t = record { events = h; wants = record { waiting = w; accepted = es; clock = t } }

rows : List Row
rows =
    row two (four 2 0 0 0) (line 0 2 (s 1023) 0 0 ∷ line 0 1 (s 1013) 0 0 ∷ []) (s 1000)
    ∷ row (two ++ (to 1003 0 ∷ [])) (four 1 0 0 0) (line 0 2 (s 1023) 0 0 ∷ line 0 1 (s 1013) 0 0 ∷ []) (s 1003)
    ∷ row (two ++ (moves 9027000000 4096 ∷ [])) (four 1 0 0 0) (line 0 2 (s 1023) 0 0 ∷ line 0 1 (s 1013) 0 0 ∷ []) (s 1003)
    ∷ row (two ++ (to 1013 0 ∷ [])) (four 0 0 0 0) (line 0 2 (s 1023) 0 0 ∷ line 0 1 (s 1013) 1 0 ∷ []) (s 1013)
    -- "that isn't a Splice_Request's own answer"
    ∷ row again (four 1 0 0 0) (line 0 2 (s 1011) 0 0 ∷ line 0 1 (s 1004) 1 0 ∷ []) (s 1004)
    ∷ row evicting (four 0 1 0 0) (line 1 1 (s 1013) 0 0 ∷ line 0 2 (s 1023) 1 0 ∷ line 0 1 (s 1013) 1 0 ∷ []) (s 1000)
    ∷ row failing (four 0 0 0 0) (line 0 6 (s 1026) 1 0 ∷ line 0 5 (s 1016) 1 0 ∷ line 0 4 (s 1033) 0 0 ∷ []) (s 1006)
    ∷ row ousting (four 0 0 0 0) (line 1 5 (s 1016) 0 0 ∷ line 0 6 (s 1043) 1 0 ∷ line 0 4 (s 1033) 1 0 ∷ []) (s 1006)
    ∷ row aborting (four 0 1 0 0) (line 0 2 (s 1023) 1 0 ∷ line 1 1 (s 1110) 0 0 ∷ line 0 1 (s 1013) 1 0 ∷ []) (s 1000)
    ∷ row closing (four 0 1 0 0) (line 1 7 (s 1070) 0 0 ∷ line 0 8 (s 1060) 1 1 ∷ line 0 7 (s 1033) 1 1 ∷ []) (s 1010)
    -- "It counts for the session that its connection last accepted under that SessionID"
    ∷ row reopening (four 1 1 0 0) (line 0 7 (s 1030) 0 0 ∷ line 1 7 (s 1070) 0 0 ∷ line 0 8 (s 1060) 1 1 ∷ line 0 7 (s 1033) 1 1 ∷ [])
    (s 1010)
    ∷ row (reopening ++ (to 1040 0 ∷ [])) (four 0 1 0 0) (line 0 7 (s 1030) 1 0 ∷ line 1 7 (s 1070) 0 0 ∷ line 0 8 (s 1060) 1 1
    ∷ line 0 7 (s 1033) 1 1 ∷ []) (s 1040)
    ∷ row refusing (four 1 0 0 0) (line 0 1 (s 1004) 0 0 ∷ []) (s 1000)
    ∷ row declining (four 1 0 0 0) (line 0 1 (s 1004) 0 0 ∷ []) (s 1000)
    ∷ row reusing (four 2 0 0 0) (line 0 2 (s 1016) 0 0 ∷ line 0 1 (s 1015) 0 0 ∷ line 0 1 (s 1004) 1 0 ∷ []) (s 1004)
    ∷ row ninth (four 0 0 0 0) (line 0 1 9027000109 0 0 ∷ []) 9027000108
    ∷ row (ninth ++ (moves 9027000109 4096 ∷ [])) (four 0 0 0 0) (line 0 1 9027000109 1 0 ∷ []) 9027000109
    -- "ended already or not"
    ∷ given twice (four 0 0 0 0) (line 0 1 (s 1004) 2 0 ∷ []) (s 1005)
    -- "accepted since it was opened": its own connection, not another
    ∷ given (granted ∷ writing (opens 0) [] ∷ []) (four 0 0 0 0) (line 0 1 (s 1004) 0 0 ∷ []) 0
    ∷ given (granted ∷ writing (opens 1) [] ∷ []) (four 1 0 0 0) (line 0 1 (s 1004) 0 0 ∷ []) 0
    ∷ []

told : map (λ r. tells r.events) rows ≡ map (λ r. r.wants) rows
unfolding sent from init_of asks timed linked aborts to card up ready line s tells row four two again evicting failing ousting aborting
    closing reopening refusing declining reusing ninth granted writing twice given rows computing
told = refl

-- Worked cases of 01, of 02's CR 4 and of the demands beside P1 to P14, from the bytes of requests to the records in the answers' bytes.
-- Assumes nothing.
use Rattle.std.specs.Prelude.{◌≡◌, refl, List, [], ◌∷◌, ◌++◌, map, ℕ, zero, suc, ◌+◌, length, replicate}
use Rattle.rules.specs.declared.Session.{Session}
use Rattle.rules.specs.Bytes.{bytes}
use Rattle.rules.specs.State.{Splicer}
use Rattle.rules.specs.Records.{Record, InitResponse, SpliceResponse, SpliceComplete, AbortResponse}
use Rattle.rules.specs.Follows.ReadBack.{records_in}
use Rattle.rules.specs.Follows.Sequences
use Rattle.rules.specs.HouseNumbers
use Rattle.rules.specs.Calls.{Call, opens, closes}
use Rattle.rules.specs.Card
use Rattle.demands.specs.History
use Rattle.demands.specs.History.{Event, Entry}
use Rattle.cases.specs.Computing.{computing}
use Rattle.cases.specs.Rehearsed.{sent, from, init_of, asks, timed, linked, aborts, to, card, plays, up, ready, load, queued}

-- ## What a case looks at

-- the splicer "CH1" after `ready`: clock 1,000 s, the four connections initialised
known : Splicer
known = (plays ready card).splicer

joined : List (List Record) → List Record
joined [] = []
joined (x ∷ l) = x ++ joined l

-- the records in the answers of some calls from there
played : List Call → List Record
played ks = joined (map (λ a. records_in (HouseNumbers.written_by a)) (Sequences.answers ks known))

-- how many records the last of them writes
last_writes : List Call → List ℕ
last_writes ks = length (records_in (HouseNumbers.written_by (plays (ready ++ ks) card).answer)) ∷ []

-- the numbers of the started sessions then: on air, then covered
started : List Call → List ℕ
started ks = map (λ (s : Session). s.id) (plays ks (plays ready card)).splicer.queue.started

-- the calls from fresh, with their answers
events : List Call → List Event
events ks = History.history (ready ++ ks) card.splicer

-- the ends of each session accepted, from the answers
ended : List Call → List ℕ
ended ks = map (λ (e : Entry). e.ends) (History.book (events ks) [])

data Seen : Type 0 where
  said : List Record → Seen
  counted : List ℕ → Seen

record Case : Type 0 where
  seen : Seen
  wants : Seen

says : List Call → List Record → Case
says ks rs = record { seen = said (played ks); wants = said rs }

counting : List ℕ → List ℕ → Case
counting l m = record { seen = counted l; wants = counted m }

-- the records that the last of them writes
last_says : List Call → List Record → Case
last_says ks rs = record { seen = said (records_in (HouseNumbers.written_by (plays (ready ++ ks) card).answer)); wants = said rs }

-- ## The cases

-- "Three linked sessions, the first aborted: all three end."
three : List Call
three = timed 0 1 1003 0 1 0 90000 ∷ linked 0 2 1 90000 ∷ linked 0 3 2 90000 ∷ aborts 0 1 ∷ []

-- 64 waiting, worked through by one tick
through : List Call
through = queued 10 20 20 14 ++ (to 3000 0 ∷ [])

-- the incident of the minutes: a connection closes with its spot on air, and the number comes again
incident : List Call
incident =
    timed 0 7 1003 0 3 0 2700000 ∷ to 1010 0 ∷ closes 0 4096 ∷ opens 0 ∷ init_of 0 ∷ timed 0 7 1020 0 3 0 900000 ∷ to 1040 0 ∷ []

-- ## 01, "Shortcuts that look right and aren't"

-- "Comparing all 32 bytes of a name."
behind_zero : List Call
behind_zero = from 0 0x0001 (bytes 2 2 ++ (Card.card_name ++ ((0 ∷ replicate 28 0x58) ++ (replicate 32 0 ++ bytes 2 0)))) ∷ []

-- "Turning microseconds into ticks before adding.": 9,027,000,009 ninths are no whole number of ticks. One tick later is past 1,003 s
-- and 12 µs; added in ticks it would not be
one_tick : List Call
one_tick = timed 0 1 1003 1 1 0 1 ∷ to 1003 12 ∷ []

-- "Ending only the direct follower on abort.": the first is on air
only_direct : List Call
only_direct = timed 0 1 1003 0 1 0 900000 ∷ linked 0 2 1 90000 ∷ linked 0 3 2 90000 ∷ to 1004 0 ∷ aborts 0 1 ∷ to 1030 0 ∷ []

-- "Starting before ending at one instant.": at 1,004 s a 5 ends and a 1 starts, with no override
hand_over : List Call
hand_over = timed 0 1 1003 0 5 0 90000 ∷ timed 0 2 1004 0 1 0 90000 ∷ to 1004 0 ∷ []

-- "Keeping a place by slot number after its session ended.": 5 covers 3 and ends with its connection; 6 takes its place
slot : List Call
slot =
    timed 0 3 1003 0 3 0 2700000 ∷ timed 1 5 1006 0 5 1 900000 ∷ to 1010 0 ∷ closes 1 4096 ∷ timed 2 6 1015 0 5 1 900000 ∷ to 1050 0 ∷ []

-- check e, "Counted before f.": with 20 waiting a request that would evict one of them is refused all the same
full_before : List Call
full_before = queued 20 0 0 0 ++ (timed 0 99 2005 0 2 0 90000 ∷ [])

-- ## 02, CR 4

-- e, "Counted before f", of equals: with 20 waiting, one that would evict this connection's own; with the sum 64, one that would evict
-- connection 1's. Those of `queued` have AccessType 1
equal_full : List Call
equal_full = queued 20 0 0 0 ++ (timed 0 99 2005 0 1 1 90000 ∷ [])

equal_sum : List Call
equal_sum = queued 10 20 20 14 ++ (timed 0 99 2105 0 1 1 90000 ∷ [])

-- one of connection 0 with 9 waiting has its reserved place: it evicts connection 1's
equal_reserved : List Call
equal_reserved = queued 9 20 20 14 ++ (timed 0 99 2105 0 1 1 90000 ∷ [])

-- "f evicts the waiting equal as it does a lower one": another connection's, with its followers
evict_equal : List Call
evict_equal = timed 1 1 1003 0 3 0 90000 ∷ linked 1 2 1 90000 ∷ linked 1 3 2 90000 ∷ timed 0 9 1003 0 3 1 90000 ∷ []

-- "109 at check d, for equals, only at flag 0": the new one's flag, whatever the waiting one's
waiting_flag : List Call
waiting_flag = timed 1 1 1003 0 3 1 90000 ∷ timed 0 9 1003 0 3 0 90000 ∷ []

-- "at a start the equal one on air ends at once": 4 covers a 2 and has followers; 7 ends it; the end of 7 resumes the 2 and not 4
over_covered : List Call
over_covered =
    timed 0 2 1003 0 2 0 2700000 ∷ timed 1 4 1006 0 4 1 1800000 ∷ linked 1 5 4 90000 ∷ linked 1 6 5 90000 ∷ timed 2 7 1010 0 4 1 900000
    ∷ to 1040 0 ∷ []

-- three equal ones by one tick, each ending the one before
in_a_row : List Call
in_a_row = timed 0 1 1003 0 9 0 900000 ∷ timed 0 2 1004 0 9 1 900000 ∷ timed 1 3 1005 0 9 1 900000 ∷ to 1100 0 ∷ []

-- the equal one ends by itself at the instant of the start
at_its_end : List Call
at_its_end = timed 0 1 1003 0 4 0 270000 ∷ timed 1 2 1006 0 4 1 90000 ∷ to 1006 0 ∷ []

-- an equal one that was covered for a while, with a follower: its time on air is both stretches
covered_before : List Call
covered_before = timed 1 1 1010 0 3 0 8100000 ∷ linked 1 2 1 90000 ∷ timed 0 5 1020 0 5 1 900000 ∷ timed 2 9 1040 0 3 1 900000 ∷ to 1040 0
    ∷ []

-- resumed by a higher one's end, and ended by an equal one's start at the same instant
resumed_and_ended : List Call
resumed_and_ended = timed 0 1 1003 0 3 0 2700000 ∷ timed 1 2 1004 0 5 1 180000 ∷ timed 2 3 1006 0 3 1 90000 ∷ to 1006 0 ∷ []

-- with the flag at 0 an equal one fails at its start, whatever the flag of the one on air
no_flag : List Call
no_flag = timed 0 1 1003 0 4 1 2700000 ∷ timed 1 2 1006 0 4 0 90000 ∷ to 1006 0 ∷ []

-- AccessTypes from a to 9, one started every second, each over the one before
climb : (n a : ℕ) → List Call
climb zero a = []
climb (suc n) a = timed 0 a (1003 + a) 0 a 1 90000000 ∷ climb n (suc a)

-- ten have started, and a second 9 ends the first
ten : List Call
ten = climb 10 0 ++ (timed 1 99 1020 0 9 1 90000000 ∷ to 1019 0 ∷ to 1020 0 ∷ [])

-- a Splice_Request's 100, a start with 100, an end by SpliceComplete
accepts : (conn id : ℕ) → Record
accepts c x = SpliceResponse c 100 x

begins : (conn id : ℕ) → Record
begins c x = SpliceComplete c 100 x 0 0

stops : (conn result id played : ℕ) → Record
stops c r x d = SpliceComplete c r x 1 d

cases : List Case
cases =
    says three (accepts 0 1 ∷ accepts 0 2 ∷ accepts 0 3 ∷ AbortResponse 0 100 1 ∷ SpliceResponse 0 116 1 ∷ SpliceResponse 0 116 2
    ∷ SpliceResponse 0 116 3 ∷ [])
    ∷ counting (last_writes through) (128 ∷ [])
    ∷ counting (ended through) (replicate 64 1)
    ∷ says incident (accepts 0 7 ∷ begins 0 7 ∷ stops 0 116 7 630000 ∷ InitResponse 0 100 Card.card_name ∷ accepts 0 7 ∷ begins 0 7
    ∷ stops 0 100 7 900000 ∷ [])
    ∷ counting (ended incident) (1 ∷ 1 ∷ [])
    ∷ says behind_zero (InitResponse 0 100 Card.card_name ∷ [])
    ∷ says one_tick (accepts 0 1 ∷ begins 0 1 ∷ [])
    ∷ says (one_tick ++ (to 1003 13 ∷ [])) (accepts 0 1 ∷ begins 0 1 ∷ stops 0 100 1 1 ∷ [])
    ∷ says only_direct (accepts 0 1 ∷ accepts 0 2 ∷ accepts 0 3 ∷ begins 0 1 ∷ AbortResponse 0 100 1 ∷ stops 0 116 1 90000
    ∷ SpliceResponse 0 116 2 ∷ SpliceResponse 0 116 3 ∷ [])
    ∷ says hand_over (accepts 0 1 ∷ accepts 0 2 ∷ begins 0 1 ∷ stops 0 100 1 90000 ∷ begins 0 2 ∷ [])
    ∷ says slot (accepts 0 3 ∷ accepts 1 5 ∷ begins 0 3 ∷ begins 1 5 ∷ stops 1 116 5 360000 ∷ accepts 2 6 ∷ begins 2 6
    ∷ stops 2 100 6 900000 ∷ stops 0 100 3 1440000 ∷ [])
    ∷ counting (ended slot) (1 ∷ 1 ∷ 1 ∷ [])
    ∷ counting (ended full_before) (replicate 20 0)
    ∷ last_says equal_full (SpliceResponse 0 114 99 ∷ [])
    ∷ last_says equal_sum (SpliceResponse 0 114 99 ∷ [])
    ∷ last_says equal_reserved (SpliceResponse 1 109 5 ∷ accepts 0 99 ∷ [])
    ∷ says evict_equal (accepts 1 1 ∷ accepts 1 2 ∷ accepts 1 3 ∷ SpliceResponse 1 109 1 ∷ SpliceResponse 1 109 2 ∷ SpliceResponse 1 109 3
    ∷ accepts 0 9 ∷ [])
    ∷ says waiting_flag (accepts 1 1 ∷ SpliceResponse 0 109 9 ∷ [])
    ∷ says over_covered (accepts 0 2 ∷ accepts 1 4 ∷ accepts 1 5 ∷ accepts 1 6 ∷ accepts 2 7 ∷ begins 0 2 ∷ begins 1 4 ∷ stops 1 125 4
    360000
    ∷ SpliceResponse 1 125 5 ∷ SpliceResponse 1 125 6 ∷ begins 2 7 ∷ stops 2 100 7 900000 ∷ stops 0 100 2 1440000 ∷ [])
    ∷ counting (ended over_covered) (replicate 5 1)
    ∷ says in_a_row (accepts 0 1 ∷ accepts 0 2 ∷ accepts 1 3 ∷ begins 0 1 ∷ stops 0 125 1 90000 ∷ begins 0 2 ∷ stops 0 125 2 90000
    ∷ begins 1 3 ∷ stops 1 100 3 900000 ∷ [])
    ∷ says at_its_end (accepts 0 1 ∷ accepts 1 2 ∷ begins 0 1 ∷ stops 0 100 1 270000 ∷ begins 1 2 ∷ [])
    ∷ says resumed_and_ended (accepts 0 1 ∷ accepts 1 2 ∷ accepts 2 3 ∷ begins 0 1 ∷ begins 1 2 ∷ stops 1 100 2 180000 ∷ stops 0 125 1 90000
    ∷ begins 2 3 ∷ [])
    ∷ says covered_before (accepts 1 1 ∷ accepts 1 2 ∷ accepts 0 5 ∷ accepts 2 9 ∷ begins 1 1 ∷ begins 0 5 ∷ stops 0 100 5 900000
    ∷ stops 1 125 1 1800000 ∷ SpliceResponse 1 125 2 ∷ begins 2 9 ∷ [])
    ∷ says no_flag (accepts 0 1 ∷ accepts 1 2 ∷ begins 0 1 ∷ SpliceComplete 1 109 2 0 0 ∷ [])
    ∷ counting (started ten) (99 ∷ 8 ∷ 7 ∷ 6 ∷ 5 ∷ 4 ∷ 3 ∷ 2 ∷ 1 ∷ 0 ∷ [])
    ∷ counting (last_writes ten) (2 ∷ [])
    ∷ []

worked : map (λ c. c.seen) cases ≡ map (λ c. c.wants) cases
unfolding last_says equal_full equal_sum equal_reserved full_before evict_equal waiting_flag over_covered in_a_row at_its_end covered_before
    resumed_and_ended no_flag climb ten started sent from init_of asks timed aborts to card plays up ready load queued linked known joined
    played says counting accepts begins stops last_writes cases events ended three through incident behind_zero one_tick only_direct
    hand_over
    slot computing
worked = refl

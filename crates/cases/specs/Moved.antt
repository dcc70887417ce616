-- 02, CR 11: "how many places an acceptance shifts", from the bytes of requests to the number that the call reports. Worked by hand from
-- the
-- starts of those that wait. Assumes nothing.
use Rattle.std.specs.Prelude.{◌≡◌, refl, List, [], ◌∷◌, ◌++◌, map, ℕ}
use Rattle.rules.specs.State.{Splicer}
use Rattle.rules.specs.Records.{Record, General, AliveResponse, SpliceResponse, SpliceComplete, AbortResponse}
use Rattle.rules.specs.Follows.ReadBack.{records_in}
use Rattle.rules.specs.Calls.{Call, opens, closes, call}
use Rattle.rules.specs.HouseNumbers.{Called, written_by}
use Rattle.cases.specs.Computing.{computing}
use Rattle.cases.specs.Rehearsed.{sent, from, init_of, asks, timed, linked, aborts, to, card, plays, up, ready, load, queued}

-- a call, the records in its answer, and the number that it reports
record Row : Type 0 where
  calls : Call
  wants : List Record
  shifts : ℕ

row : Call → List Record → ℕ → Row
row k rs n = record { calls = k; wants = rs; shifts = n }

accepts : (conn id : ℕ) → Record
accepts c x = SpliceResponse c 100 x

-- behind `ready`: clock 1,000 s, the four connections initialised. Behind a row: the starts of those that wait, in seconds
rows : List Row
rows =
    -- the first of an empty queue, until 1,025 s; two behind all others. 1010 1030 1040
    row (timed 0 1 1010 0 1 0 1350000) (accepts 0 1 ∷ []) 0
    ∷ row (timed 0 2 1030 0 1 0 90000) (accepts 0 2 ∷ []) 0
    ∷ row (timed 1 3 1040 0 1 0 90000) (accepts 1 3 ∷ []) 0
    -- before two that start later, behind one that starts earlier and ends later. 1010 1020 1030 1040
    ∷ row (timed 2 4 1020 0 1 0 90000) (accepts 2 4 ∷ []) 2
    -- in front of all. 1005 1010 1020 1030 1040
    ∷ row (timed 3 5 1005 0 1 0 2700000) (accepts 3 5 ∷ []) 4
    -- a linked one: from the end of 1. 1005 1010 1020 1025 1030 1040
    ∷ row (linked 0 6 1 90000) (accepts 0 6 ∷ []) 2
    -- "A request not accepted reports 0.": 109 at the start of 4; 112 before all; 121, connection 2 does not hold 1
    ∷ row (timed 3 7 1020 0 1 0 90000) (SpliceResponse 3 109 7 ∷ []) 0
    ∷ row (timed 3 7 1002 0 1 0 90000) (SpliceResponse 3 112 7 ∷ []) 0
    ∷ row (linked 2 7 1 90000) (SpliceResponse 2 121 7 ∷ []) 0
    -- 123, Duration 0
    ∷ row (timed 3 7 1006 0 1 0 0) (General 3 123 ∷ []) 0
    -- "after any eviction": 1 goes, which starts just then, and its follower 6, which starts later. 1005 1010 1020 1030 1040
    ∷ row (timed 3 8 1010 0 2 0 90000) (SpliceResponse 0 109 1 ∷ SpliceResponse 0 109 6 ∷ accepts 3 8 ∷ []) 3
    -- an eviction of the last: nobody is left behind it. 1005 1010 1020 1030 1040
    ∷ row (timed 0 9 1040 0 2 0 90000) (SpliceResponse 1 109 3 ∷ accepts 0 9 ∷ []) 0
    -- no acceptance: an abort, a tick with a start, an Alive_Request, a close, a refused open. 1010 1040
    ∷ row (aborts 0 2) (AbortResponse 0 100 2 ∷ SpliceResponse 0 116 2 ∷ []) 0
    ∷ row (to 1005 0) (SpliceComplete 3 100 5 0 0 ∷ []) 0
    ∷ row (from 2 0x0005 (0 ∷ 0 ∷ 0 ∷ 0 ∷ 0 ∷ 0 ∷ 0 ∷ 0 ∷ [])) (AliveResponse 2 100 2 5 1005000000 ∷ []) 0
    ∷ row (closes 2 4096) (SpliceResponse 2 116 4 ∷ []) 0
    ∷ row (opens 0) [] 0
    -- with 5 on air until 1,035 s: one that has started counts no more than one that starts earlier. 1010 1020 1040
    ∷ row (timed 1 3 1020 0 1 0 90000) (accepts 1 3 ∷ []) 1
    ∷ []

-- what comes of each call
each : List Call → Splicer → List Called
each [] s = []
each (k ∷ ks) s = call k s ∷ each ks (call k s).splicer

results : List Called
results = each (map (λ r. r.calls) rows) (plays ready card).splicer

answered : map (λ c. records_in (written_by c.answer)) results ≡ map (λ r. r.wants) rows
unfolding sent from init_of asks timed linked aborts to card plays up ready row accepts rows each results computing
answered = refl

shifted : map (λ c. c.moved) results ≡ map (λ r. r.shifts) rows
unfolding sent from init_of asks timed linked aborts to card plays up ready row accepts rows each results computing
shifted = refl

-- ## "is at most 63": 20, 20, 13 and 10 wait, a second apart, from 2,000 s, 2,100 s, 2,200 s and 2,300 s on

crowd : Splicer
crowd = (plays (ready ++ queued 20 20 13 10) card).splicer

-- connection 3 asks: before all; behind the first twenty; before the last ten, and before the last nine; behind all; and at 2,000 s with a
-- higher AccessType, so that the one there is evicted. Connection 0, which is full, gets 114
asked : List Call
asked =
    timed 3 99 1003 0 1 0 90000
    ∷ timed 3 99 2050 0 1 0 90000
    ∷ timed 3 99 2299 0 1 0 90000
    ∷ timed 3 99 2300 500000 1 0 90000
    ∷ timed 3 99 2310 0 1 0 90000
    ∷ timed 3 99 2000 0 2 0 90000
    ∷ timed 0 99 1003 0 1 0 90000
    ∷ []

most : map (λ k. (call k crowd).moved) asked ≡ 63 ∷ 43 ∷ 10 ∷ 9 ∷ 0 ∷ 62 ∷ 0 ∷ []
unfolding sent from init_of asks timed to card plays up ready load queued crowd asked computing
most = refl

-- 02, CR 5: the value that is read of the one on air, from the bytes of requests with descriptors. Worked by hand. Assumes nothing.
use Rattle.std.specs.Prelude.{◌≡◌, refl, List, [], ◌∷◌, ◌++◌, map, ℕ, replicate, take, drop}
use Rattle.rules.specs.Bytes.{bytes}
use Rattle.rules.specs.State.{Splicer}
use Rattle.rules.specs.Request
use Rattle.rules.specs.Records.{Record, General, SpliceResponse, SpliceComplete, AbortResponse}
use Rattle.rules.specs.Follows.ReadBack.{records_in}
use Rattle.rules.specs.Answers.{air_mux}
use Rattle.rules.specs.Calls.{Call, closes, call}
use Rattle.rules.specs.HouseNumbers.{Called, written_by}
use Rattle.cases.specs.Computing.{computing}
use Rattle.cases.specs.Rehearsed.{sent, from, init_of, asks, timed, linked, aborts, to, card, plays, up, ready}

-- a call, the records in its answer, and the value that is read after it
record Row : Type 0 where
  calls : Call
  wants : List Record
  reads : ℕ

row : Call → List Record → ℕ → Row
row k rs n = record { calls = k; wants = rs; reads = n }

-- a muxpriority descriptor: tag 0x02, length 5, "SAPI", the value
mux : ℕ → List ℕ
mux v = 0x02 ∷ 5 ∷ 0x53 ∷ 0x41 ∷ 0x50 ∷ 0x49 ∷ v ∷ []

-- tag 0x02 under "CUEI" with the value 11, tag 0x03 under "SAPI" with the value 0, tag 0x02 under "IPAS" of length 4
foreign : List ℕ
foreign =
    0x02 ∷ 5 ∷ 0x43 ∷ 0x55 ∷ 0x45 ∷ 0x49 ∷ 11 ∷ 0x03 ∷ 5 ∷ 0x53 ∷ 0x41 ∷ 0x50 ∷ 0x49 ∷ 0 ∷ 0x02 ∷ 4 ∷ 0x49 ∷ 0x50 ∷ 0x41 ∷ 0x53 ∷ []

-- a timed request with OverridePlaying 1 and descriptors
with : (conn id seconds access duration : ℕ) → List ℕ → Call
with c x s a d l = from c 0x0007 (asks x Request.nobody s 0 a 1 d ++ l)

-- one linked to the number prior
behind : (conn id prior duration : ℕ) → List ℕ → Call
behind c x p d l = from c 0x0007 (asks x p 0 0 1 0 d ++ l)

-- 02, CR 1: a timed request with ServiceID 0xFFFF, PcrPID 0x31 and one structure: Length 21, PID 0x32, StreamType 0x1B, all else unknown
naming : (conn id seconds access duration : ℕ) → List ℕ → Call
naming c x s a d l =
    from c 0x0007
    (take 16 (asks x Request.nobody s 0 a 1 d)
    ++ (bytes 2 0xFFFF ++ (bytes 2 0x31 ++ (bytes 4 1 ++ (21 ∷ bytes 2 0x32
    ++ (bytes 2 0x1B ++ (replicate 16 0xFF ++ (drop 18 (asks x Request.nobody s 0 a 1 d) ++ l))))))))

accepts : (conn id : ℕ) → Record
accepts c x = SpliceResponse c 100 x

-- behind `ready`: clock 1,000 s, the four connections initialised
rows : List Row
rows =
    -- bad: values 0 and 11, lengths 4 and 6, a bad one before a good one, and behind one
    row (with 0 1 1010 1 90000 (mux 0)) (General 0 123 ∷ []) 5
    ∷ row (with 0 1 1010 1 90000 (mux 11)) (General 0 123 ∷ []) 5
    ∷ row (with 0 1 1010 1 90000 (0x02 ∷ 4 ∷ 0x53 ∷ 0x41 ∷ 0x50 ∷ 0x49 ∷ [])) (General 0 123 ∷ []) 5
    ∷ row (with 0 1 1010 1 90000 (0x02 ∷ 6 ∷ 0x53 ∷ 0x41 ∷ 0x50 ∷ 0x49 ∷ 7 ∷ 7 ∷ [])) (General 0 123 ∷ []) 5
    ∷ row (with 0 1 1010 1 90000 (mux 11 ++ mux 7)) (General 0 123 ∷ []) 5
    ∷ row (with 0 1 1010 1 90000 (mux 7 ++ mux 0)) (General 0 123 ∷ []) 5
    -- the value's highest bit is read; a longer one is bad too: length 13
    ∷ row (with 0 1 1010 1 90000 (mux 0x85)) (General 0 123 ∷ []) 5
    ∷ row (with 0 1 1010 1 90000 (0x02 ∷ 13 ∷ 0x53 ∷ 0x41 ∷ 0x50 ∷ 0x49 ∷ replicate 9 7)) (General 0 123 ∷ []) 5
    -- it is read before the checks: no number of a session, and too late
    ∷ row (with 0 0xFFFFFFFF 1001 1 90000 (mux 11)) (General 0 123 ∷ []) 5
    -- and so of one that is linked, and behind separate PIDs: a bad one before a good one, behind one, and one that is cut in its value
    ∷ row (behind 0 1 2 90000 (mux 11)) (General 0 123 ∷ []) 5
    ∷ row (naming 0 1 1010 1 90000 (mux 11 ++ mux 7)) (General 0 123 ∷ []) 5
    ∷ row (naming 0 1 1010 1 90000 (mux 7 ++ mux 0)) (General 0 123 ∷ []) 5
    ∷ row (naming 0 1 1010 1 90000 (take 6 (mux 7))) (General 0 123 ∷ []) 5
    -- "the last one wins": 9, then 2; 10 before foreign ones; foreign ones alone, so 5. Accepted is not on air
    ∷ row (with 0 1 1010 1 2700000 (mux 9 ++ mux 2)) (accepts 0 1 ∷ []) 5
    ∷ row (with 1 2 1015 3 2700000 (mux 10 ++ foreign)) (accepts 1 2 ∷ []) 5
    ∷ row (with 0 3 1020 5 450000 foreign) (accepts 0 3 ∷ []) 5
    ∷ row (with 2 4 1023 5 180000 (mux 1)) (accepts 2 4 ∷ []) 5
    -- each start, the last one over an equal
    ∷ row (to 1010 0) (SpliceComplete 0 100 1 0 0 ∷ []) 2
    ∷ row (to 1015 0) (SpliceComplete 1 100 2 0 0 ∷ []) 10
    ∷ row (to 1020 0) (SpliceComplete 0 100 3 0 0 ∷ []) 5
    ∷ row (to 1023 0) (SpliceComplete 0 125 3 1 270000 ∷ SpliceComplete 2 100 4 0 0 ∷ []) 1
    -- it ends, and 2 is on air again; 2 is aborted, and 1 is; its connection closes, and nothing is
    ∷ row (to 1025 0) (SpliceComplete 2 100 4 1 180000 ∷ []) 10
    ∷ row (aborts 1 2) (AbortResponse 1 100 2 ∷ SpliceComplete 1 116 2 1 450000 ∷ []) 2
    ∷ row (closes 0 4096) (SpliceComplete 0 116 1 1 450000 ∷ []) 5
    -- behind separate PIDs, the last one too; then one linked to it
    ∷ row (naming 3 5 1040 2 90000 (mux 9 ++ mux 4)) (accepts 3 5 ∷ []) 5
    ∷ row (behind 3 6 5 90000 (mux 8)) (accepts 3 6 ∷ []) 5
    ∷ row (to 1040 0) (SpliceComplete 3 100 5 0 0 ∷ []) 4
    ∷ row (to 1041 0) (SpliceComplete 3 100 5 1 90000 ∷ SpliceComplete 3 100 6 0 0 ∷ []) 8
    ∷ row (to 1042 0) (SpliceComplete 3 100 6 1 90000 ∷ []) 5
    -- 5 is a value: 9 and then 5; 10 and then 6, the last and not the highest; 7, and then tag 0x82 with 3
    ∷ row (with 3 7 1050 1 90000 (mux 9 ++ mux 5)) (accepts 3 7 ∷ []) 5
    ∷ row (with 3 8 1051 1 90000 (mux 10 ++ mux 6)) (accepts 3 8 ∷ []) 5
    ∷ row (with 3 9 1052 1 90000 (mux 7 ++ (0x82 ∷ 5 ∷ 0x53 ∷ 0x41 ∷ 0x50 ∷ 0x49 ∷ 3 ∷ []))) (accepts 3 9 ∷ []) 5
    ∷ row (to 1050 0) (SpliceComplete 3 100 7 0 0 ∷ []) 5
    ∷ row (to 1051 0) (SpliceComplete 3 100 7 1 90000 ∷ SpliceComplete 3 100 8 0 0 ∷ []) 6
    ∷ row (to 1052 0) (SpliceComplete 3 100 8 1 90000 ∷ SpliceComplete 3 100 9 0 0 ∷ []) 7
    ∷ row (to 1053 0) (SpliceComplete 3 100 9 1 90000 ∷ []) 5
    ∷ []

-- what comes of each call
each : List Call → Splicer → List Called
each [] s = []
each (k ∷ ks) s = call k s ∷ each ks (call k s).splicer

results : List Called
results = each (map (λ r. r.calls) rows) (plays ready card).splicer

answered : map (λ c. records_in (written_by c.answer)) results ≡ map (λ r. r.wants) rows
unfolding sent from init_of asks timed linked aborts to card plays up ready row mux foreign with behind naming accepts rows each results
    computing
answered = refl

read : map (λ c. air_mux c.splicer.queue.started) results ≡ map (λ r. r.reads) rows
unfolding sent from init_of asks timed linked aborts to card plays up ready row mux foreign with behind naming accepts rows each results
    computing
read = refl

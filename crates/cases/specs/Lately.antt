-- 02, CR 8: what is kept of each kind of end, from the bytes of requests. Worked by hand. Assumes nothing.
use Rattle.std.specs.Prelude.{◌≡◌, refl, List, [], ◌∷◌, ◌++◌, map, ℕ, length, take, drop}
use Rattle.rules.specs.declared.Past.{Past}
use Rattle.rules.specs.Bytes.{bytes}
use Rattle.rules.specs.State.{Splicer}
use Rattle.rules.specs.Recent.{unused, recent}
use Rattle.rules.specs.Request
use Rattle.rules.specs.Records.{Record, SpliceResponse, SpliceComplete, AbortResponse}
use Rattle.rules.specs.Follows.ReadBack.{records_in}
use Rattle.rules.specs.Calls.{Call, opens, closes, call}
use Rattle.rules.specs.HouseNumbers.{Called, written_by}
use Rattle.cases.specs.Computing.{computing}
use Rattle.cases.specs.Rehearsed.{sent, from, init_of, asks, timed, linked, aborts, to, card, plays, up, ready}

-- a call, the records in its answer, and what stands first in the list after it
record Row : Type 0 where
  calls : Call
  wants : List Record
  keeps : List Past

row : Call → List Record → List Past → Row
row k rs l = record { calls = k; wants = rs; keeps = l }

kept : (conn id event result played : ℕ) → Past
kept c x e r p = record { conn = c; id = x; event = e; result = r; played = p }

-- a request's data with another SpliceEventID, at 22
noted : ℕ → List ℕ → List ℕ
noted e d = take 22 d ++ (bytes 4 e ++ drop 26 d)

-- a timed request
with : (conn id event seconds access override duration : ℕ) → Call
with c x e s a o d = from c 0x0007 (noted e (asks x Request.nobody s 0 a o d))

-- one linked to the number prior
behind : (conn id event prior duration : ℕ) → Call
behind c x e p d = from c 0x0007 (noted e (asks x p 0 0 1 0 d))

accepts : (conn id : ℕ) → Record
accepts c x = SpliceResponse c 100 x

-- the sixteen at the end: the first that ended is dropped
sixteen : List Past
sixteen =
    kept 2 25 0xFFFFFFFF 116 0
    ∷ kept 2 24 0xE4 116 0
    ∷ kept 2 23 0xE3 116 0
    ∷ kept 2 22 0xE2 116 0
    ∷ kept 2 21 0xE1 116 0
    ∷ kept 2 11 0xBB 125 90000
    ∷ kept 3 12 0xCC 100 90000
    ∷ kept 1 10 0xAA 116 0
    ∷ kept 1 9 0x99 116 90000
    ∷ kept 3 6 0x66 125 360000
    ∷ kept 0 8 0x88 109 0
    ∷ kept 0 7 0x77 109 0
    ∷ kept 2 5 0x55 109 0
    ∷ kept 2 4 0x44 109 0
    ∷ kept 2 3 0x33 109 0
    ∷ kept 1 2 0x22 100 360000
    ∷ []

-- behind `ready`: clock 1,000 s, the four connections initialised
rows : List Row
rows =
    -- accepted, refused (121) and started: nothing is kept
    row (with 0 1 0x11 1010 1 1 900000) (accepts 0 1 ∷ []) (unused ∷ [])
    ∷ row (with 1 2 0x22 1012 3 1 360000) (accepts 1 2 ∷ []) (unused ∷ [])
    ∷ row (with 0 1 0x12 1020 1 1 900000) (SpliceResponse 0 121 1 ∷ []) (unused ∷ [])
    ∷ row (to 1010 0) (SpliceComplete 0 100 1 0 0 ∷ []) (unused ∷ [])
    ∷ row (to 1012 0) (SpliceComplete 1 100 2 0 0 ∷ []) (unused ∷ [])
    -- covered and aborted: its record shows no duration, and its two seconds are kept
    ∷ row (aborts 0 1) (AbortResponse 0 100 1 ∷ SpliceResponse 0 116 1 ∷ []) (kept 0 1 0x11 116 180000 ∷ unused ∷ [])
    -- the one on air ends
    ∷ row (to 1016 0) (SpliceComplete 1 100 2 1 360000 ∷ []) (kept 1 2 0x22 100 360000 ∷ kept 0 1 0x11 116 180000 ∷ unused ∷ [])
    -- evicted, and then its followers
    ∷ row (with 2 3 0x33 1030 1 0 90000) (accepts 2 3 ∷ []) []
    ∷ row (behind 2 4 0x44 3 90000) (accepts 2 4 ∷ []) []
    ∷ row (behind 2 5 0x55 4 90000) (accepts 2 5 ∷ []) []
    ∷ row (with 3 6 0x66 1030 5 0 900000) (SpliceResponse 2 109 3 ∷ SpliceResponse 2 109 4 ∷ SpliceResponse 2 109 5 ∷ accepts 3 6 ∷ [])
    (kept 2 5 0x55 109 0 ∷ kept 2 4 0x44 109 0 ∷ kept 2 3 0x33 109 0 ∷ kept 1 2 0x22 100 360000 ∷ [])
    -- a start that fails, and its follower
    ∷ row (with 0 7 0x77 1032 1 0 90000) (accepts 0 7 ∷ []) []
    ∷ row (behind 0 8 0x88 7 90000) (accepts 0 8 ∷ []) []
    ∷ row (to 1030 0) (SpliceComplete 3 100 6 0 0 ∷ []) (kept 2 5 0x55 109 0 ∷ [])
    ∷ row (with 1 9 0x99 1034 5 1 180000) (accepts 1 9 ∷ []) []
    ∷ row (with 1 10 0xAA 1050 1 0 90000) (accepts 1 10 ∷ []) []
    ∷ row (to 1032 0) (SpliceComplete 0 109 7 0 0 ∷ SpliceResponse 0 109 8 ∷ [])
    (kept 0 8 0x88 109 0 ∷ kept 0 7 0x77 109 0 ∷ kept 2 5 0x55 109 0 ∷ [])
    -- an equal one's start ends the one on air
    ∷ row (to 1034 0) (SpliceComplete 3 125 6 1 360000 ∷ SpliceComplete 1 100 9 0 0 ∷ [])
    (kept 3 6 0x66 125 360000 ∷ kept 0 8 0x88 109 0 ∷ [])
    -- its connection closes: the one on air, then the one that waits; opened again, what it had is still there
    ∷ row (to 1035 0) [] []
    ∷ row (closes 1 4096) (SpliceComplete 1 116 9 1 90000 ∷ SpliceResponse 1 116 10 ∷ [])
    (kept 1 10 0xAA 116 0 ∷ kept 1 9 0x99 116 90000 ∷ kept 3 6 0x66 125 360000 ∷ [])
    ∷ row (opens 1) [] (kept 1 10 0xAA 116 0 ∷ kept 1 9 0x99 116 90000 ∷ [])
    -- two ends at one instant, the highest first; the other had been covered
    ∷ row (with 2 11 0xBB 1060 1 1 180000) (accepts 2 11 ∷ []) []
    ∷ row (with 3 12 0xCC 1061 2 1 90000) (accepts 3 12 ∷ []) []
    ∷ row (to 1062 0) (SpliceComplete 2 100 11 0 0 ∷ SpliceComplete 3 100 12 0 0 ∷ SpliceComplete 3 100 12 1 90000
    ∷ SpliceComplete 2 125 11 1 90000 ∷ [])
    (kept 2 11 0xBB 125 90000 ∷ kept 3 12 0xCC 100 90000 ∷ kept 1 10 0xAA 116 0 ∷ [])
    -- five that wait, at a close, by start: seventeen in all
    ∷ row (with 2 21 0xE1 1100 1 0 90000) (accepts 2 21 ∷ []) []
    ∷ row (with 2 22 0xE2 1101 1 0 90000) (accepts 2 22 ∷ []) []
    ∷ row (with 2 23 0xE3 1102 1 0 90000) (accepts 2 23 ∷ []) []
    ∷ row (with 2 24 0xE4 1103 1 0 90000) (accepts 2 24 ∷ []) []
    ∷ row (with 2 25 0xFFFFFFFF 1104 1 0 90000) (accepts 2 25 ∷ []) []
    ∷ row (closes 2 4096)
    (SpliceResponse 2 116 21 ∷ SpliceResponse 2 116 22 ∷ SpliceResponse 2 116 23 ∷ SpliceResponse 2 116 24 ∷ SpliceResponse 2 116 25 ∷ [])
    sixteen
    ∷ []

-- what comes of each call
each : List Call → Splicer → List Called
each [] s = []
each (k ∷ ks) s = call k s ∷ each ks (call k s).splicer

results : List Called
results = each (map (λ r. r.calls) rows) (plays ready card).splicer

first : List Row → List Called → List (List Past)
first [] cs = []
first (r ∷ rs) [] = []
first (r ∷ rs) (c ∷ cs) = take (length r.keeps) (recent c.splicer.queue.lately) ∷ first rs cs

answered : map (λ c. records_in (written_by c.answer)) results ≡ map (λ r. r.wants) rows
unfolding sent from init_of asks timed linked aborts to card plays up ready row kept noted with behind accepts sixteen rows each results
    computing
answered = refl

remembers : first rows results ≡ map (λ r. r.keeps) rows
unfolding sent from init_of asks timed linked aborts to card plays up ready row kept noted with behind accepts sixteen rows each results
    first computing
remembers = refl

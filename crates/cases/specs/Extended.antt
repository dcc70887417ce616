-- 02, CR 8: ExtendedData_Request and the driver's list, from the bytes of requests. Worked by hand from 02 and 000, Tables 7-12, 7-13 and
-- 8-8.
-- Assumes nothing.
use Rattle.std.specs.Prelude.{◌≡◌, refl, List, [], ◌∷◌, ◌++◌, map, ℕ, take, drop}
use Rattle.rules.specs.declared.Past.{Past}
use Rattle.rules.specs.Lists.{keep}
use Rattle.rules.specs.Bytes.{bytes}
use Rattle.rules.specs.State.{Splicer}
use Rattle.rules.specs.Recent.{is_kept, recent}
use Rattle.rules.specs.Request
use Rattle.rules.specs.Records.{Record, General, InitResponse, SpliceResponse, SpliceComplete, AbortResponse, ExtendedFound, ExtendedNone}
use Rattle.rules.specs.Follows.ReadBack.{records_in}
use Rattle.rules.specs.Calls.{Call, opens, closes, call}
use Rattle.rules.specs.HouseNumbers.{Called, written_by}
use Rattle.rules.specs.Card
use Rattle.cases.specs.Computing.{computing}
use Rattle.cases.specs.Rehearsed.{sent, from, init_of, asks, timed, linked, aborts, to, card, plays, up, ready}

-- a call, the records in its answer, and what it ends, in the order of the records: connection, SessionID, SpliceEventID, result,
-- PlayedDuration
record Row : Type 0 where
  calls : Call
  wants : List Record
  ends : List (List ℕ)

row : Call → List Record → List (List ℕ) → Row
row k rs l = record { calls = k; wants = rs; ends = l }

ended : (conn id event result played : ℕ) → List ℕ
ended c x e r p = c ∷ x ∷ e ∷ r ∷ p ∷ []

-- an ExtendedData_Request: SessionID 4, ExtendedDataType 4
extended : (conn id : ℕ) → Call
extended c x = from c 0x0003 (bytes 4 x ++ bytes 4 0xFFFFFFFF)

-- a Splice_Request with a SpliceEventID: it stands at offset 22 of the data
with : (event : ℕ) → List ℕ → List ℕ
with e d = take 22 d ++ (bytes 4 e ++ drop 26 d)

timed_as : (event conn id seconds access duration : ℕ) → Call
timed_as e c x s a d = from c 0x0007 (with e (asks x Request.nobody s 0 a 1 d))

linked_as : (event conn id prior duration : ℕ) → Call
linked_as e c x p d = from c 0x0007 (with e (asks x p 0 0 1 0 d))

accepts : (conn id : ℕ) → Record
accepts c x = SpliceResponse c 100 x

-- behind `ready`: clock 1,000 s, the four connections initialised. 1 s is 90,000 ticks
rows : List Row
rows =
    -- none is kept: 121 and the SessionID alone, of any number
    row (extended 0 1) (ExtendedNone 0 1 ∷ []) []
    ∷ row (extended 0 0xFFFFFFFF) (ExtendedNone 0 0xFFFFFFFF ∷ []) []
    -- sizes 7, 9 and 0; types 0, 0x80000000 and 0xFFFFFFFE: 123. A message 0x0004: 120
    ∷ row (from 0 0x0003 (bytes 4 1 ++ bytes 3 0xFFFFFF)) (General 0 123 ∷ []) []
    ∷ row (from 0 0x0003 (bytes 4 1 ++ bytes 5 0xFFFFFFFFFF)) (General 0 123 ∷ []) []
    ∷ row (from 0 0x0003 []) (General 0 123 ∷ []) []
    ∷ row (from 0 0x0003 (bytes 4 1 ++ bytes 4 0)) (General 0 123 ∷ []) []
    ∷ row (from 0 0x0003 (bytes 4 1 ++ bytes 4 0x80000000)) (General 0 123 ∷ []) []
    ∷ row (from 0 0x0003 (bytes 4 1 ++ bytes 4 0xFFFFFFFE)) (General 0 123 ∷ []) []
    ∷ row (from 0 0x0004 (bytes 4 1 ++ bytes 4 0xFFFFFFFF)) (General 0 120 ∷ []) []
    -- the number 1 of two connections, 1,010 to 1,013 s and over it 1,011 to 1,012 s; one that is refused; one behind the first
    ∷ row (timed_as 0x01020304 0 1 1010 1 270000) (accepts 0 1 ∷ []) []
    ∷ row (timed_as 77 1 1 1011 5 90000) (accepts 1 1 ∷ []) []
    ∷ row (timed_as 9 0 1 1020 1 90000) (SpliceResponse 0 121 1 ∷ []) []
    ∷ row (linked_as 5 0 2 1 90000) (accepts 0 2 ∷ []) []
    -- a start is no end, and while it lives it is not found
    ∷ row (to 1011 0) (SpliceComplete 0 100 1 0 0 ∷ SpliceComplete 1 100 1 0 0 ∷ []) []
    ∷ row (extended 0 1) (ExtendedNone 0 1 ∷ []) []
    -- the asking connection's alone
    ∷ row (to 1012 0) (SpliceComplete 1 100 1 1 90000 ∷ []) (ended 1 1 77 100 90000 ∷ [])
    ∷ row (extended 0 1) (ExtendedNone 0 1 ∷ []) []
    ∷ row (extended 1 1) (ExtendedFound 1 1 77 100 90000 ∷ []) []
    ∷ row (extended 2 1) (ExtendedNone 2 1 ∷ []) []
    -- two ends in one call; the first was covered for a second
    ∷ row (to 1014 0) (SpliceComplete 0 100 1 1 180000 ∷ SpliceComplete 0 100 2 0 0 ∷ SpliceComplete 0 100 2 1 90000 ∷ [])
    (ended 0 1 0x01020304 100 180000 ∷ ended 0 2 5 100 90000 ∷ [])
    ∷ row (extended 0 1) (ExtendedFound 0 1 0x01020304 100 180000 ∷ []) []
    -- the number held again: its older end; aborted before its start, it is the latest
    ∷ row (timed_as 6 0 1 1020 1 90000) (accepts 0 1 ∷ []) []
    ∷ row (extended 0 1) (ExtendedFound 0 1 0x01020304 100 180000 ∷ []) []
    ∷ row (aborts 0 1) (AbortResponse 0 100 1 ∷ SpliceResponse 0 116 1 ∷ []) (ended 0 1 6 116 0 ∷ [])
    ∷ row (extended 0 1) (ExtendedFound 0 1 6 116 0 ∷ []) []
    -- aborted while covered: the record has no duration, what is kept has the second on air
    ∷ row (timed_as 88 1 5 1020 2 900000) (accepts 1 5 ∷ []) []
    ∷ row (timed_as 89 2 5 1021 7 180000) (accepts 2 5 ∷ []) []
    ∷ row (to 1022 0) (SpliceComplete 1 100 5 0 0 ∷ SpliceComplete 2 100 5 0 0 ∷ []) []
    ∷ row (aborts 1 5) (AbortResponse 1 100 5 ∷ SpliceResponse 1 116 5 ∷ []) (ended 1 5 88 116 90000 ∷ [])
    ∷ row (extended 1 5) (ExtendedFound 1 5 88 116 90000 ∷ []) []
    ∷ row (to 1023 0) (SpliceComplete 2 100 5 1 180000 ∷ []) (ended 2 5 89 100 180000 ∷ [])
    -- a failed start, and its follower
    ∷ row (timed_as 1 3 1 1030 4 900000) (accepts 3 1 ∷ []) []
    ∷ row (timed_as 2 3 2 1031 3 90000) (accepts 3 2 ∷ []) []
    ∷ row (linked_as 3 3 3 2 90000) (accepts 3 3 ∷ []) []
    ∷ row (to 1031 0) (SpliceComplete 3 100 1 0 0 ∷ SpliceComplete 3 109 2 0 0 ∷ SpliceResponse 3 109 3 ∷ [])
    (ended 3 2 2 109 0 ∷ ended 3 3 3 109 0 ∷ [])
    -- an eviction, and its follower: not the request's own answer
    ∷ row (timed_as 11 0 11 1050 1 90000) (accepts 0 11 ∷ []) []
    ∷ row (linked_as 12 0 12 11 90000) (accepts 0 12 ∷ []) []
    ∷ row (timed_as 13 1 13 1050 2 90000) (SpliceResponse 0 109 11 ∷ SpliceResponse 0 109 12 ∷ accepts 1 13 ∷ [])
    (ended 0 11 11 109 0 ∷ ended 0 12 12 109 0 ∷ [])
    -- an end by an equal one's start
    ∷ row (timed_as 14 2 14 1035 4 90000) (accepts 2 14 ∷ []) []
    ∷ row (to 1035 0) (SpliceComplete 3 125 1 1 450000 ∷ SpliceComplete 2 100 14 0 0 ∷ []) (ended 3 1 1 125 450000 ∷ [])
    ∷ row (extended 3 1) (ExtendedFound 3 1 1 125 450000 ∷ []) []
    ∷ row (to 1036 0) (SpliceComplete 2 100 14 1 90000 ∷ []) (ended 2 14 14 100 90000 ∷ [])
    -- "A reopened connection number still sees its older entries", once it is initialised
    ∷ row (closes 1 4096) (SpliceResponse 1 116 13 ∷ []) (ended 1 13 13 116 0 ∷ [])
    ∷ row (opens 1) [] []
    ∷ row (extended 1 5) (General 1 103 ∷ []) []
    ∷ row (init_of 1) (InitResponse 1 100 Card.card_name ∷ []) []
    ∷ row (extended 1 5) (ExtendedFound 1 5 88 116 90000 ∷ []) []
    -- three more by one close make sixteen, and the oldest is still found; with a seventeenth it is not
    ∷ row (timed_as 21 3 21 1060 1 90000) (accepts 3 21 ∷ []) []
    ∷ row (timed_as 22 3 22 1061 1 90000) (accepts 3 22 ∷ []) []
    ∷ row (timed_as 23 3 23 1062 1 90000) (accepts 3 23 ∷ []) []
    ∷ row (closes 3 4096) (SpliceResponse 3 116 21 ∷ SpliceResponse 3 116 22 ∷ SpliceResponse 3 116 23 ∷ [])
    (ended 3 21 21 116 0 ∷ ended 3 22 22 116 0 ∷ ended 3 23 23 116 0 ∷ [])
    ∷ row (extended 1 1) (ExtendedFound 1 1 77 100 90000 ∷ []) []
    ∷ row (timed_as 24 2 24 1070 1 90000) (accepts 2 24 ∷ []) []
    ∷ row (aborts 2 24) (AbortResponse 2 100 24 ∷ SpliceResponse 2 116 24 ∷ []) (ended 2 24 24 116 0 ∷ [])
    ∷ row (extended 1 1) (ExtendedNone 1 1 ∷ []) []
    ∷ row (extended 0 1) (ExtendedFound 0 1 6 116 0 ∷ []) []
    ∷ []

-- what comes of each call
each : List Call → Splicer → List Called
each [] s = []
each (k ∷ ks) s = call k s ∷ each ks (call k s).splicer

results : List Called
results = each (map (λ r. r.calls) rows) (plays ready card).splicer

-- an entry's numbers
numbers : Past → List ℕ
numbers e = e.conn ∷ e.id ∷ e.event ∷ e.result ∷ e.played ∷ []

-- "the last 16 ended sessions .. oldest dropped first", "from the newest down": the list after each row
told : List (List ℕ) → List (List ℕ) → List (List ℕ)
told l [] = l
told l (e ∷ es) = told (take 16 (e ∷ l)) es

list : List (List ℕ) → List Row → List (List (List ℕ))
list l [] = []
list l (r ∷ rs) = told l r.ends ∷ list (told l r.ends) rs

answered : map (λ c. records_in (written_by c.answer)) results ≡ map (λ r. r.wants) rows
unfolding sent from init_of asks timed linked aborts to card plays up ready row ended extended with timed_as linked_as accepts rows each
    results computing
answered = refl

kept : map (λ c. map numbers (keep is_kept (recent c.splicer.queue.lately))) results ≡ list [] rows
unfolding sent from init_of asks timed linked aborts to card plays up ready row ended extended with timed_as linked_as accepts rows each
    results numbers told list computing
kept = refl

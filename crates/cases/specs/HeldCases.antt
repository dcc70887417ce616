-- The read of the sessions, after each of some calls with the bytes of requests. Worked by hand from 01: start, end and time on air in
-- seconds, connection, SessionID, SpliceEventID, PriorSession, AccessType, OverridePlaying, MuxPriorityValue and state. Assumes nothing.
use Rattle.std.specs.Prelude.{◌≡◌, refl, List, [], ◌∷◌, ◌++◌, map, ℕ, ◌-◌, ◌*◌, min, length, take, drop, replicate}
use Rattle.rules.specs.Bytes.{written}
use Rattle.rules.specs.State.{Splicer, Queue}
use Rattle.rules.specs.Listing.{held_number, held_rows}
use Rattle.rules.specs.Calls.{Call, closes, call}
use Rattle.rules.specs.HouseNumbers.{Called}
use Rattle.demands.specs.Sessions as read
use Rattle.demands.specs.Sessions.{HeldRow, rows_in}
use Rattle.cases.specs.Computing.{computing}
use Rattle.cases.specs.Rehearsed.{sent, from, init_of, asks, timed, linked, aborts, to, card, plays, up, ready}

-- a call, and the rows after it
record Row : Type 0 where
  calls : Call
  wants : List (List ℕ)

row : Call → List (List ℕ) → Row
row k l = record { calls = k; wants = l }

-- on air 1, covered 2, waiting 3
held : (start end played conn id prior access over mux state : ℕ) → List ℕ
held t e d c x p a o n s = t * 9000000 ∷ e * 9000000 ∷ d * 9000000 ∷ c ∷ x ∷ 0xFFFFFFFF ∷ p ∷ a ∷ o ∷ n ∷ s ∷ []

-- a muxpriority_descriptor behind a request
muxed : (conn id seconds access over duration mux : ℕ) → Call
muxed c x s a o d n =
    from c 0x0007 (asks x 0xFFFFFFFF s 0 a o d ++ (0x02 ∷ 0x05 ∷ 0x53 ∷ 0x41 ∷ 0x50 ∷ 0x49 ∷ n ∷ []))

-- those that are shown more than once
first : (played state : ℕ) → List ℕ
first d s = held 1003 1063 d 0 9 0xFFFFFFFF 1 0 5 s

second : (played state : ℕ) → List ℕ
second d s = held 1005 1010 d 3 9 0xFFFFFFFF 7 1 10 s

behind : (played state : ℕ) → List ℕ
behind d s = held 1063 1093 d 0 6 9 1 0 5 s

late : List ℕ
late = held 1200 1210 0 3 4 0xFFFFFFFF 2 0 5 3

higher : List ℕ
higher = held 1200 1201 0 1 1 0xFFFFFFFF 5 0 5 3

-- behind `ready`: clock 1,000 s, the four connections initialised. 1 s is 90,000 ticks
rows : List Row
rows =
    row (timed 0 9 1003 0 1 0 5400000) (first 0 3 ∷ [])
    -- the same SessionID of another connection; those that wait are in order of start, not of number or of acceptance
    ∷ row (timed 3 4 1200 0 2 0 900000) (first 0 3 ∷ late ∷ [])
    ∷ row (muxed 3 9 1005 7 1 450000 10) (first 0 3 ∷ second 0 3 ∷ late ∷ [])
    ∷ row (linked 0 6 9 2700000) (first 0 3 ∷ second 0 3 ∷ behind 0 3 ∷ late ∷ [])
    -- refused: 121
    ∷ row (timed 0 9 1300 0 1 0 90000) (first 0 3 ∷ second 0 3 ∷ behind 0 3 ∷ late ∷ [])
    ∷ row (to 1004 0) (first 1 1 ∷ second 0 3 ∷ behind 0 3 ∷ late ∷ [])
    -- the higher one is on air, the other covered
    ∷ row (to 1007 0) (second 2 1 ∷ first 2 2 ∷ behind 0 3 ∷ late ∷ [])
    -- on air again
    ∷ row (to 1011 0) (first 3 1 ∷ behind 0 3 ∷ late ∷ [])
    -- an equal start of a higher AccessType evicts
    ∷ row (timed 1 1 1200 0 5 0 90000) (first 3 1 ∷ behind 0 3 ∷ higher ∷ [])
    -- a started one keeps the PriorSession that was asked, though its number is free
    ∷ row (to 1064 0) (behind 1 1 ∷ higher ∷ [])
    ∷ row (aborts 0 6) (higher ∷ [])
    ∷ row (closes 1 4096) []
    ∷ []

-- what comes of each call
each : List Call → Splicer → List Called
each [] s = []
each (k ∷ ks) s = call k s ∷ each ks (call k s).splicer

results : List Called
results = each (map (λ r. r.calls) rows) (plays ready card).splicer

numbers : HeldRow → List ℕ
numbers r =
    r.start ∷ r.end ∷ r.played ∷ r.conn ∷ r.id ∷ r.event ∷ r.prior ∷ r.access ∷ r.overrides ∷ r.mux ∷ r.state ∷ []

-- n rows are lent, each of 7 words that hold 9
read_of : ℕ → Queue → List (List ℕ)
read_of n q = map numbers (rows_in (min (held_number q) n) (written (replicate (n * 7) 9) 0 (held_rows n q)))

-- with rows enough
listed : map (λ c. read_of 5 c.splicer.queue) results ≡ map (λ r. r.wants) rows
unfolding sent from init_of asks timed linked aborts to card plays up ready row held muxed first second behind late higher rows each
    results numbers read_of read.rows_in computing
listed = refl

-- how many there are, whatever was lent
counted : map (λ c. held_number c.splicer.queue) results ≡ map (λ r. length r.wants) rows
unfolding sent from init_of asks timed linked aborts to card plays up ready row held muxed first second behind late higher rows each
    results computing
counted = refl

-- two rows are lent: the first two
short : map (λ c. read_of 2 c.splicer.queue) results ≡ map (λ r. take 2 r.wants) rows
unfolding sent from init_of asks timed linked aborts to card plays up ready row held muxed first second behind late higher rows each
    results numbers read_of read.rows_in computing
short = refl

-- 40 words are lent, five rows and five words more: what is not filled stays
rest : map (λ c. drop (held_number c.splicer.queue * 7) (written (replicate 40 9) 0 (held_rows 5 c.splicer.queue))) results
    ≡ map (λ r. replicate (40 - length r.wants * 7) 9) rows
unfolding sent from init_of asks timed linked aborts to card plays up ready row held muxed first second behind late higher rows each
    results computing
rest = refl

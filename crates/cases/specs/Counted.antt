-- 02, CR 9: the card with a rolling counter, from instants, readings and the bytes of requests to numbers and records. Worked by hand: the
-- clock
-- is 1,000 s where the counter reads 4294967295, a tick is 100 ninths. Assumes nothing.
use Rattle.std.specs.Prelude.{◌≡◌, refl, List, [], ◌∷◌, map, ℕ}
use Rattle.rules.specs.Bytes.{padded}
use Rattle.rules.specs.Records.{Record, AliveResponse, SpliceResponse, SpliceComplete, AbortResponse}
use Rattle.rules.specs.Follows.ReadBack.{records_in}
use Rattle.rules.specs.HouseNumbers.{Answer, refused, good, house_number, written_by}
use Rattle.rules.specs.Calls.{opens}
use Rattle.rules.specs.Card
use Rattle.rules.specs.Rolling.{Rolling, Rolled, step_of, instant_course, step_course, reading_course, rolls, instant_call}
use Rattle.rules.specs.Follows.Sequences.{rolling_of}
use Rattle.rules.specs.Rolling.{reading_call, RollingCall, known, instants, readings, roll}
use Rattle.rules.specs.Follows.Sequences.{rolling_fresh}
use Rattle.cases.specs.Computing.{computing}
use Rattle.cases.specs.Rehearsed.{sent, from, init_of, asks, timed, aborts}

-- a call, its number or 0, and the records in its answer
record Row : Type 0 where
  calls : RollingCall
  number : ℕ
  wants : List Record

refuses : RollingCall → ℕ → Row
refuses k n = record { calls = k; number = n; wants = [] }

writes : RollingCall → List Record → Row
writes k rs = record { calls = k; number = 0; wants = rs }

gives : (seconds micros reading : ℕ) → RollingCall
gives s u x = instants s u x 4096

reads : ℕ → RollingCall
reads x = readings x 4096

-- an Alive_Request of connection 0, and its answer: State, SessionID and the time in microseconds
alive : RollingCall
alive = known (from 0 0x0005 (0 ∷ 0 ∷ 0 ∷ 0 ∷ 0 ∷ 0 ∷ 0 ∷ 0 ∷ []))

is : (state id time : ℕ) → List Record
is a x t = AliveResponse 0 100 a x t ∷ []

rows : List Row
rows =
    -- "a reading before the instant is given"; a session from 995 s for 10 s is accepted at clock 0
    refuses (reads 7) 12
    -- "after 2", also with no instant given
    ∷ refuses (readings 7 4095) 2
    ∷ writes (known (timed 0 1 995 0 1 0 900000)) (SpliceResponse 0 100 1 ∷ [])
    -- "on this card after 2: 8 for the given instant"
    ∷ refuses (instants 1000 1000000 5 4095) 2
    ∷ refuses (gives 1000 1000000 5) 8
    -- a refused instant gives none
    ∷ refuses (reads 5) 12
    -- the instant: what is due on the way is done
    ∷ writes (gives 1000 0 4294967295) (SpliceComplete 0 100 1 0 0 ∷ [])
    -- "a second instant", 8 before 12
    ∷ refuses (gives 1000 0 4294967295) 12
    ∷ refuses (gives 1000 1000000 4294967295) 8
    ∷ refuses (instants 1000 0 4294967295 4095) 2
    -- nor is the reading of any of these the next base
    ∷ refuses (gives 1000 0 7) 12
    -- step 0; a tick back; 2 before 12
    ∷ writes (reads 4294967295) []
    ∷ refuses (reads 4294967294) 12
    ∷ refuses (readings 4294967294 4095) 2
    -- "taken through the rollover": 1, 2 and 11 ticks past 1,000 s are 100, 200 and 1,100 ninths. The time is rounded down
    ∷ writes (reads 0) []
    ∷ writes alive (is 2 1 1000000011)
    ∷ writes (reads 1) []
    ∷ writes alive (is 2 1 1000000022)
    ∷ writes (reads 10) []
    ∷ writes alive (is 2 1 1000000122)
    -- 1,005 s, the end of 1, is 450,000 ticks past 1,000 s: a tick before it, and at it
    ∷ writes (reads 449998) []
    ∷ writes (reads 449999) (SpliceComplete 0 100 1 1 900000 ∷ [])
    -- from 1,010 s 100 us, 9 ticks past 1,010 s; aborted 10 ticks past 1,010 s, which is no whole microsecond: 1 tick on air
    ∷ writes (known (timed 0 2 1010 100 1 0 900000)) (SpliceResponse 0 100 2 ∷ [])
    ∷ writes (reads 900009) (SpliceComplete 0 100 2 0 0 ∷ [])
    ∷ writes (known (aborts 0 2)) (AbortResponse 0 100 2 ∷ SpliceComplete 0 116 2 1 1 ∷ [])
    -- check c in ninths: the clock is 1,000 ninths past 1,010 s, 111 us are 999, 112 are 1,008
    ∷ writes (known (timed 0 3 1013 111 1 0 90000)) (SpliceResponse 0 112 3 ∷ [])
    ∷ writes (known (timed 0 3 1013 112 1 0 90000)) (SpliceResponse 0 100 3 ∷ [])
    -- "a step over 8,100,000 ticks", which is not the next base; exactly 8,100,000
    ∷ refuses (reads 9000010) 12
    ∷ writes (reads 9000009) (SpliceComplete 0 100 3 0 0 ∷ SpliceComplete 0 100 3 1 90000 ∷ [])
    ∷ []

-- the limit of a step through the rollover: from 4294967295, 8,100,000 ticks lead to 8,099,999, and are 90 s. Then a step of as many on
-- from there, and readings of 0 and of the one before, which are far behind
limit_rows : List Row
limit_rows =
    writes (gives 1000 0 4294967295) []
    ∷ refuses (reads 8100000) 12
    ∷ writes (reads 8099999) []
    ∷ writes alive (is 1 0xFFFFFFFF 1090000000)
    ∷ refuses (reads 16200000) 12
    ∷ writes (reads 16199999) []
    ∷ refuses (reads 0) 12
    ∷ refuses (reads 8099999) 12
    ∷ writes alive (is 1 0xFFFFFFFF 1180000000)
    ∷ []

-- the time field's last second, which the instant gives: any fraction of it is good
last_rows : List Row
last_rows =
    writes (gives 4294967295 0 0) []
    -- it is given, though its reading is 0
    ∷ refuses (gives 4294967295 0 0) 12
    ∷ refuses (reads 90000) 12
    ∷ writes (reads 89999) []
    ∷ writes alive (is 1 0xFFFFFFFF 4294967295999988)
    ∷ refuses (reads 90000) 12
    ∷ []

-- what comes of each call
each : List RollingCall → Rolling → List Rolled
each [] r = []
each (k ∷ ks) r = roll k r ∷ each ks (rolling_of (roll k r))

plays : List RollingCall → Rolling → Rolling
plays [] r = r
plays (k ∷ ks) r = plays ks (rolling_of (roll k r))

-- "CH1", with connection 0 initialised, at clock 0
ready : Rolling
ready = plays (known (opens 0) ∷ known (init_of 0) ∷ []) (rolling_of (rolling_fresh (padded Card.card_name)))

results : List Row → List Rolled
results l = each (map (λ r. r.calls) l) ready

told : Answer → ℕ
told (refused n) = house_number n
told (good consumed rs) = 0

numbers : List Row → List ℕ
numbers l = map (λ c. told c.called.answer) (results l)

records : List Row → List (List Record)
records l = map (λ c. records_in (written_by c.called.answer)) (results l)

numbered : numbers rows ≡ map (λ r. r.number) rows
unfolding sent from init_of asks timed aborts step_of instant_course step_course reading_course rolls instant_call reading_call
    rolling_fresh roll
    refuses writes gives reads alive is rows each plays ready results told numbers computing
numbered = refl

answered : records rows ≡ map (λ r. r.wants) rows
unfolding sent from init_of asks timed aborts step_of instant_course step_course reading_course rolls instant_call reading_call
    rolling_fresh roll
    refuses writes gives reads alive is rows each plays ready results records computing
answered = refl

last_numbered : numbers last_rows ≡ map (λ r. r.number) last_rows
unfolding sent from init_of asks step_of instant_course step_course reading_course rolls instant_call reading_call rolling_fresh roll
    refuses writes
    gives reads alive is last_rows each plays ready results told numbers computing
last_numbered = refl

last_answered : records last_rows ≡ map (λ r. r.wants) last_rows
unfolding sent from init_of asks step_of instant_course step_course reading_course rolls instant_call reading_call rolling_fresh roll
    refuses writes
    gives reads alive is last_rows each plays ready results records computing
last_answered = refl

limit_numbered : numbers limit_rows ≡ map (λ r. r.number) limit_rows
unfolding sent from init_of asks step_of instant_course step_course reading_course rolls instant_call reading_call rolling_fresh roll
    refuses writes
    gives reads alive is limit_rows each plays ready results told numbers computing
limit_numbered = refl

limit_answered : records limit_rows ≡ map (λ r. r.wants) limit_rows
unfolding sent from init_of asks step_of instant_course step_course reading_course rolls instant_call reading_call rolling_fresh roll
    refuses writes
    gives reads alive is limit_rows each plays ready results records computing
limit_answered = refl

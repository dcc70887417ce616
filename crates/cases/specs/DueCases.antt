-- The reads for drivers, from the bytes of requests to the words that are read after each call: who is on air, when a tick would do
-- anything, and after how many ticks of the rolling counter a reading would. Worked by hand. Assumes nothing.
use Rattle.std.specs.Prelude.{◌≡◌, refl, List, [], ◌∷◌, map, ℕ}
use Rattle.rules.specs.State.{Splicer, due}
use Rattle.rules.specs.Records.{Record, SpliceResponse, SpliceComplete, AbortResponse, InitResponse}
use Rattle.rules.specs.Follows.ReadBack.{records_in}
use Rattle.rules.specs.Bytes.{padded}
use Rattle.rules.specs.Answers.{air_row}
use Rattle.rules.specs.Calls.{Call, call, due_row, opens}
use Rattle.rules.specs.HouseNumbers.{Called, written_by}
use Rattle.rules.specs.Rolling.{at, Rolling, Rolled, step_of, instant_course, step_course, reading_course, rolls}
use Rattle.rules.specs.Follows.Sequences.{rolling_of, rolling_fresh}
use Rattle.rules.specs.Rolling.{instant_call, reading_call, RollingCall, known, instants, readings, roll, step_row}
use Rattle.rules.specs.Card.{card_name}
use Rattle.cases.specs.Computing.{computing}
use Rattle.cases.specs.Rehearsed.{sent, from, init_of, asks, timed, linked, aborts, to, card, plays, up, ready}

-- a call, the records in its answer, and what is read after it
record Row : Type 0 where
  calls : Call
  wants : List Record
  air : List ℕ
  due : List ℕ
  step : List ℕ

row : Call → List Record → (air due step : List ℕ) → Row
row k rs a d n = record { calls = k; wants = rs; air = a; due = d; step = n }

nobody : List ℕ
nobody = 0 ∷ 0 ∷ 0 ∷ 0 ∷ 0 ∷ 0 ∷ 0 ∷ 0 ∷ 0 ∷ []

-- connection, number, start, end, time on air, AccessType; every request here has a SpliceEventID of all ones, and asks no mux priority
shows : (conn id start end played access : ℕ) → List ℕ
shows c x t e d a = 1 ∷ c ∷ x ∷ t ∷ e ∷ d ∷ 4294967295 ∷ a ∷ 5 ∷ []

nothing : List ℕ
nothing = 0 ∷ 0 ∷ 0 ∷ 0 ∷ []

-- the instant, and the tick's time
tick_at : (instant seconds micros : ℕ) → List ℕ
tick_at t s u = 2 ∷ t ∷ s ∷ u ∷ []

beyond : ℕ → List ℕ
beyond t = 1 ∷ t ∷ 0 ∷ 0 ∷ []

steps : ℕ → List ℕ
steps n = 1 ∷ n ∷ []

longest : List ℕ
longest = 0 ∷ 8100000 ∷ []

-- behind `ready`: clock 1,000 s, which is 9,000,000,000 ninths, the four connections initialised
rows : List Row
rows =
    row (to 1000 0) [] nobody nothing longest
    -- from 1,010 s on, for one tick of 90 kHz: 100 ninths, so its end is between two microseconds. 10 s are 900,000 ticks
    ∷ row (timed 0 1 1010 0 1 0 1) (SpliceResponse 0 100 1 ∷ []) nobody (tick_at 9090000000 1010 0) (steps 900000)
    -- a microsecond before it: 9 ninths are less than a tick, rounded up
    ∷ row (to 1009 999999) [] nobody (tick_at 9090000000 1010 0) (steps 1)
    ∷ row (to 1010 0) (SpliceComplete 0 100 1 0 0 ∷ []) (shows 0 1 9090000000 9090000100 0 1) (tick_at 9090000100 1010 12) (steps 1)
    -- 11 microseconds are 99 ninths
    ∷ row (to 1010 11) [] (shows 0 1 9090000000 9090000100 99 1) (tick_at 9090000100 1010 12) (steps 1)
    ∷ row (to 1010 12) (SpliceComplete 0 100 1 1 1 ∷ []) nobody nothing longest
    -- 108 ninths of the second are gone: 899,998.92 ticks are left, rounded up
    ∷ row (timed 0 10 1020 0 1 0 2700000) (SpliceResponse 0 100 10 ∷ []) nobody (tick_at 9180000000 1020 0) (steps 899999)
    -- an equal start with a higher AccessType: the instant stays
    ∷ row (timed 1 11 1020 0 2 1 900000) (SpliceResponse 0 109 10 ∷ SpliceResponse 1 100 11 ∷ []) nobody
    (tick_at 9180000000 1020 0) (steps 899999)
    -- one before it
    ∷ row (timed 0 12 1018 0 1 0 1800000) (SpliceResponse 0 100 12 ∷ []) nobody (tick_at 9162000000 1018 0) (steps 719999)
    ∷ row (to 1018 0) (SpliceComplete 0 100 12 0 0 ∷ []) (shows 0 12 9162000000 9342000000 0 1) (tick_at 9180000000 1020 0)
    (steps 180000)
    -- it is covered, and is on air again with no record: 2 s of its time were on air
    ∷ row (to 1020 0) (SpliceComplete 1 100 11 0 0 ∷ []) (shows 1 11 9180000000 9270000000 0 2) (tick_at 9270000000 1030 0)
    (steps 900000)
    ∷ row (to 1030 0) (SpliceComplete 1 100 11 1 900000 ∷ []) (shows 0 12 9162000000 9342000000 18000000 1)
    (tick_at 9342000000 1038 0) (steps 720000)
    ∷ row (aborts 0 12) (AbortResponse 0 100 12 ∷ SpliceComplete 0 116 12 1 180000 ∷ []) nobody nothing longest
    -- a microsecond over the longest step of 90 s, and just that
    ∷ row (timed 1 2 1120 1 2 1 90000) (SpliceResponse 1 100 2 ∷ []) nobody (tick_at 10080000009 1120 1) longest
    ∷ row (timed 0 13 1120 0 1 0 90000) (SpliceResponse 0 100 13 ∷ []) nobody (tick_at 10080000000 1120 0) (steps 8100000)
    ∷ row (to 4294967290 0)
    (SpliceComplete 0 100 13 0 0 ∷ SpliceComplete 1 100 2 0 0 ∷ SpliceComplete 0 125 13 1 0 ∷ SpliceComplete 1 100 2 1 90000 ∷ [])
    nobody nothing longest
    -- it starts with the time field's last second, and ends where no tick comes
    ∷ row (timed 0 3 4294967295 0 1 0 180000) (SpliceResponse 0 100 3 ∷ []) nobody (tick_at 38654705655000000 4294967295 0) (steps 450000)
    ∷ row (to 4294967295 0) (SpliceComplete 0 100 3 0 0 ∷ []) (shows 0 3 38654705655000000 38654705673000000 0 1)
    (beyond 38654705673000000) longest
    ∷ row (to 4294967295 999999) [] (shows 0 3 38654705655000000 38654705673000000 8999991 1) (beyond 38654705673000000) longest
    ∷ []

-- what comes of each call
each : List Call → Splicer → List Called
each [] s = []
each (k ∷ ks) s = call k s ∷ each ks (call k s).splicer

results : List Called
results = each (map (λ r. r.calls) rows) (plays ready card).splicer

-- what the table computes with
unfoldable working : ℕ
unfolding sent from init_of asks timed linked aborts to card plays up ready computing row nobody nothing shows tick_at beyond steps
    longest rows each results
working = 0

answered : map (λ c. records_in (written_by c.answer)) results ≡ map (λ r. r.wants) rows
unfolding working
answered = refl

read-air : map (λ c. air_row c.splicer.queue.started) results ≡ map (λ r. r.air) rows
unfolding working air_row
read-air = refl

read-due : map (λ c. due_row (due c.splicer.queue)) results ≡ map (λ r. r.due) rows
unfolding working due_row
read-due = refl

-- of a card whose instant was given
read_step : map (λ c. step_row (at 0) c.splicer.clock (due c.splicer.queue)) results ≡ map (λ r. r.step) rows
unfolding working step_row
read_step = refl

-- ## The rolling card's own calls

-- a call, the records in its answer, and what is read after it
record Turn : Type 0 where
  calls : RollingCall
  wants : List Record
  step : List ℕ

turn : RollingCall → List Record → List ℕ → Turn
turn k rs n = record { calls = k; wants = rs; step = n }

turns : List Turn
turns =
    turn (known (opens 0)) [] longest
    ∷ turn (known (init_of 0)) (InitResponse 0 100 card_name ∷ []) longest
    -- it will start at 3 s, but before the instant is given every reading is refused
    ∷ turn (known (timed 0 1 3 0 1 0 90000)) (SpliceResponse 0 100 1 ∷ []) longest
    ∷ turn (readings 270000 4096) [] longest
    -- 1 s, and 6 ticks before the counter rolls over
    ∷ turn (instants 1 0 4294967290 4096) [] (steps 180000)
    ∷ turn (readings 89994 4096) [] (steps 90000)
    ∷ turn (readings 179993 4096) [] (steps 1)
    -- it starts, and ends a second later
    ∷ turn (readings 179994 4096) (SpliceComplete 0 100 1 0 0 ∷ []) (steps 90000)
    ∷ turn (readings 269994 4096) (SpliceComplete 0 100 1 1 90000 ∷ []) longest
    ∷ []

after : List RollingCall → Rolling → List Rolled
after [] r = []
after (k ∷ ks) r = roll k r ∷ after ks (rolling_of (roll k r))

rolled : List Rolled
rolled = after (map (λ t. t.calls) turns) (rolling_of (rolling_fresh (padded card_name)))

unfoldable rolling : ℕ
unfolding sent from init_of asks timed computing turn turns after rolled steps longest rolling_fresh step_of instant_course step_course
    reading_course rolls instant_call reading_call roll
rolling = 0

rolled-answered : map (λ c. records_in (written_by c.called.answer)) rolled ≡ map (λ t. t.wants) turns
unfolding rolling
rolled-answered = refl

rolled-step : map (λ c. step_row c.last c.called.splicer.clock (due c.called.splicer.queue)) rolled ≡ map (λ t. t.step) turns
unfolding rolling step_row
rolled-step = refl

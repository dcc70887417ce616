-- True time: the clock is the instant and the ticks since, however often the counter has rolled over; what is in time, and a course so.
-- By induction on what is done; rests on proofs/Ruled's timeless-clock.
use Rattle.std.proofs.Common.{◌≡◌, ℕ, ◌+◌, ◌*◌, ◌%◌, ◌<◌, ◌≤◌, Bool, true, false, ltb, List, [], ◌∷◌, sym, refl, ap, ◌∙◌, arith, ltb-false}
use Rattle.std.proofs.Common.{le-ltb}
use borrow.Author.Tests.{lt-leb}
use Rattle.rules.specs.Lists.{All}
use Rattle.rules.specs.Units.{time_of, from_micros}
use Rattle.rules.specs.HouseNumbers.{house_number, lending}
use Rattle.rules.specs.Calls.{ticked, Call, opens, closes, messages, cues}
use Rattle.rules.specs.Units.{horizon}
use Rattle.rules.specs.Rolling.{none, at, Rolling, rollover, step_of, brings, instant_course, step_course, reading_course}
use Rattle.rules.specs.Follows.Sequences.{rolling_of}
use Rattle.rules.specs.Rolling.{rolls, instant_call, reading_call, known, instants, readings, roll}
use Rattle.rules.specs.Follows.Sequences.{rolling_fresh, Timeless}
use Rattle.rules.specs.Follows.Sequences.{rolled_after}
use Rattle.rules.proofs.Timeless.{NoTime, timeless-has-none, none-is-timeless}
use Rattle.demands.specs.Told.{number_of}
use Rattle.engine.proofs.Held.{Same}
use Rattle.rolling.specs.Ruled.{Act, asked, read, InTime, calls_at}
use Rattle.rolling.specs.Ruled as ruled
use Rattle.rolling.proofs.Ruled.{timeless-clock}

-- ## What is in time

-- every call that brings the clock to no time is in time, and no other
pub asked-in-time : (k : Call) → Same (InTime (asked k)) (NoTime k)
asked-in-time k = (timeless-has-none k, none-is-timeless k)

-- readings of a counter that has ticked t and t + d times have the step d
pub true-step : (t d : ℕ) → d < 4294967296 → step_of (t % 4294967296) ((t + d) % 4294967296) ≡ d
unfolding step_of
true-step t d h = omega arith

-- the counter had ticked t times at the last good call, and the clock was brought to u
pub record Shows (t u : ℕ) (r : Rolling) : Type 0 where
  pub last : r.last ≡ at (t % rollover)
  pub clock : r.splicer.clock ≡ u

-- a good instant shows its time, and the reading that came with it
pub instant-shows : (seconds micros t room : ℕ) (r : Rolling) → r.last ≡ none → micros ≤ 999999 → 4096 ≤ room
    → Shows t (from_micros (time_of seconds micros)).0 (rolling_of (roll (instants seconds micros (t % rollover) room) r))
unfolding roll instant_call instant_course rolls ticked
instant-shows seconds micros t room r e h i = rw (le-ltb room 4096 i, le-ltb 999999 micros h, e) (record { last = refl; clock = refl })

-- one reading, d ticks later
module _ (t u d room : ℕ) (r : Rolling) (s : Shows t u r) (few : d ≤ 8100000) (roomy : 4096 ≤ room) (early : u + 100 * d < horizon) where
  abbrev x : ℕ
  x = (t + d) % rollover

  moved-true : r.splicer.clock + d * 100 ≡ u + 100 * d
  moved-true = omega (arith, s.clock)

  read_is : reading_call x room r ≡ rolls (brings (u + 100 * d)) x r
  unfolding reading_call reading_course step_course
  read_is =
      rw (
        le-ltb room 4096 roomy,
        s.last,
        true-step t d (omega arith),
        le-ltb 8100000 d few,
        moved-true,
        lt-leb horizon (u + 100 * d) early,
      )

  pub read-shows : Shows (t + d) (u + 100 * d) (rolling_of (roll (readings x room) r))
  unfolding roll rolls ticked
  read-shows = record { last = ap (λ y. y.last) read_is; clock = ap (λ y. y.called.splicer.clock) read_is }

  -- it is not refused
  pub read-good : number_of (roll (readings x room) r).called.answer ≡ 0
  unfolding roll rolls ticked number_of
  read-good = ap (λ y. number_of y.called.answer) read_is

-- a reading is in time where it is good, and only there: d is below the rollover, and the time field holds the instant
module _ (t u d room : ℕ) (r : Rolling) (s : Shows t u r) (low : d < rollover) (early : u + 100 * d < horizon) where
  abbrev given : ℕ
  given = number_of (roll (readings ((t + d) % rollover) room) r).called.answer

  short : ltb room 4096 ≡ true → given ≡ 2
  unfolding roll reading_call reading_course rolls number_of house_number
  short e = rw e

  over : ltb room 4096 ≡ false → ltb 8100000 d ≡ true → given ≡ 12
  unfolding roll reading_call reading_course step_course rolls number_of house_number
  over e f = rw (e, s.last, true-step t d low, f)

  pub read-in-time : Same (InTime (read d room)) (given ≡ 0)
  read-in-time = ((λ h. read-good t u d room r s h.0 h.1 early), go (ltb room 4096) refl (ltb 8100000 d) refl)
    where
      go : (a : Bool) → ltb room 4096 ≡ a → (b : Bool) → ltb 8100000 d ≡ b → given ≡ 0 → InTime (read d room)
      go true e b f g = let z = sym (short e) ∙ g in absurd (omega (arith, z))
      go false e true f g = let z = sym (over e f) ∙ g in absurd (omega (arith, z))
      go false e false f g = (ltb-false 8100000 d f, ltb-false room 4096 e)

asked-shows : (t u : ℕ) (k : Call) (r : Rolling) → Timeless k → Shows t u r → Shows t u (rolling_of (roll (known k) r))
unfolding roll
asked-shows t u k r h s = record { last = s.last; clock = timeless-clock r.splicer k h ∙ s.clock }

-- all that is done
pub acts-show : (acts : List Act) (t u : ℕ) (r : Rolling) → All InTime acts → u + 100 * ruled.ticked acts < horizon → Shows t u r
    → Shows (t + ruled.ticked acts) (u + 100 * ruled.ticked acts) (rolled_after (calls_at t acts) r)
unfolding rolled_after
acts-show [] t u r h e s = rw (none_more t, none_more u) s
  where
    none_more : (n : ℕ) → n + 0 ≡ n
    none_more n = omega arith
acts-show (asked k ∷ acts) t u r h e s = acts-show acts t u _ h.1 e (asked-shows t u k r h.0 s)
acts-show (read d room ∷ acts) t u r h e s =
    let n = ruled.ticked acts in
    let a : (t + d) + n ≡ t + (d + n) = omega arith in
    let b : (u + 100 * d) + 100 * n ≡ u + 100 * (d + n) = omega arith in
    rw (← a, ← b) (acts-show acts (t + d) (u + 100 * d) _ h.1 (omega arith)
    (read-shows t u d room r s h.0.0 h.0.1 (omega arith)))

-- ## A course that is in time, from fresh on: over the rollover, with the longest step, and with each call that needs no clock

module _ (room : ℕ) where
  abbrev pub course : List Act
  course =
      asked (opens 0) ∷ read 8100000 room ∷ asked (messages 0 [] (lending room)) ∷ read 0 room ∷ asked (cues [] 0 0 0 room) ∷ read 1 room
      ∷ asked (closes 0 room) ∷ []

  pub course-in-time : 4096 ≤ room → All InTime course
  course-in-time h =
      let steps : (d : ℕ) → d ≤ 8100000 → InTime (read d room) = λ d few. (few, h) in
      (tt, (steps 8100000 (omega arith), (tt, (steps 0 (omega arith), (tt, (steps 1 (omega arith), (tt, tt)))))))

  -- the counter stands at its last reading when the instant is given
  pub course-shown : 4096 ≤ room → (name : List ℕ)
      → Shows (4294967295 + ruled.ticked course) ((from_micros (time_of 0 0)).0 + 100 * ruled.ticked course)
      (rolled_after (instants 0 0 4294967295 room ∷ calls_at 4294967295 course) (rolling_of (rolling_fresh name)))
  unfolding rolled_after rolling_fresh
  course-shown h name =
      acts-show course 4294967295 _ _ (course-in-time h) (omega arith)
      (instant-shows 0 0 4294967295 room (rolling_of (rolling_fresh name)) refl (omega arith) h)

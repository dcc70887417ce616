-- When a reading of the rolling counter does anything: nothing before the step that is read, at least one record from it on. Rests on
-- proofs/Writes and proofs/Due.
use mathlib.Core.Path.{◌≡◌, refl, ap, ◌∙◌}
use mathlib.Core.Bool.{false}
use mathlib.Core.List.{List, [], ◌∷◌}
use Prim.Native.Nat.{ℕ, ◌+◌, ◌-◌, ◌*◌, ◌≤◌, ◌<◌}
use native.Mathlib.Omega.{arith}
use lib.Dec.{leb, ltb}
use lib.ListN.{length, get_or}
use borrow.Author.Tests.{ltb-true, ltb-false, leb-true, leb-false, le-ltb, lt-leb}
use Rattle.rules.specs.declared.Refusal.TheVariants.{NoRoom, Counter}
use Rattle.rules.specs.Units.{up_ticks}
use Rattle.rules.specs.State.{due, not_after}
use Rattle.rules.specs.Follows.ReadBack.{records_in}
use Rattle.rules.specs.HouseNumbers.{Answer, written_by, no_room}
use Rattle.rules.specs.Calls.{ticked}
use Rattle.rules.specs.Rolling.{Last, none, at, Rolling, step_of, over_step, moved_on, past_field, Course, brings, step_course}
use Rattle.rules.specs.Rolling.{reading_course}
use Rattle.rules.specs.Rolling.{rolls, reading_call, readings, roll, Rolled, within, longest_step, step_row}
use Rattle.rules.specs.Follows.Sequences.{rolling_of}
use Rattle.rules.specs.Follows.Sound.{Sound}
use Rattle.rules.specs.Units.{horizon}
use Rattle.rules.proofs.Tests.{by}
use Rattle.rules.proofs.Tick.{not_after-none}
use Rattle.demands.specs.Told.{number_of}
use Rattle.demands.specs.Due.{Before, NotBefore, step_from, FirstStep}
use Rattle.demands.proofs.Refusals.{a-number}
use Rattle.demands.proofs.Writes.{ticked-quiet, ticked-writes, ticked-found, ticked-stays, clock-ticked}
use Rattle.demands.proofs.Due.{Comes, comes}
use Rattle.std.specs.Prelude.{None, Option, Some}
use Rattle.rules.specs.declared.Ninths.{Ninths}

-- ## Readings of the rolling counter

-- a step of d ticks from the clock that is not refused, by the words of `step_row` of a card whose instant was given
module _ (last clock d : ℕ) where
  step-before : (w : Option Ninths) → d ≤ longest_step → clock + d * 100 < horizon → Before (step_row (at last) clock w) d
      → not_after (clock + d * 100) w ≡ None
  unfolding step_row
  step-before None short field h = refl
  step-before (Some t) short field h =
      let n = up_ticks (t.0 - clock) in
      let P : List ℕ → Type 0 = λ r. Before r d → clock + d * 100 < t.0 in
      not_after-none (clock + d * 100) t
      (by P (ltb longest_step n) _ _ (λ e i. let l = ltb-true longest_step n e in omega arith)
      (λ e. by P (past_field (clock + n * 100)) _ _ (λ g i. let l = leb-true horizon (clock + n * 100) g in omega arith)
      (λ g i. let l = i (omega arith) in omega arith)) h)

  step-not-before : (w : Option Ninths) → NotBefore (step_row (at last) clock w) d → Comes (clock + d * 100) w
  unfolding step_row
  step-not-before None h = absurd (omega (arith, h.0))
  step-not-before (Some t) h =
      let n = up_ticks (t.0 - clock) in
      let P : List ℕ → Type 0 = λ r. NotBefore r d → t.0 ≤ clock + d * 100 in
      record {
        t = t;
        is = refl;
        by-then =
            by P (ltb longest_step n) _ _ (λ e i. absurd (omega (arith, i.0)))
            (λ e. by P (past_field (clock + n * 100)) _ _ (λ g i. absurd (omega (arith, i.0))) (λ g i. omega (arith, i.1))) h;
      }

-- what the words name is no longer step than is good, and does not pass the time field's last second
pub step-first : (k : Last) (clock : ℕ) (w : Option Ninths) → get_or (step_row k clock w) 0 0 ≡ 1 → FirstStep clock (step_row k clock w)
unfolding step_row
step-first none clock w e = absurd (omega arith)
step-first (at last) clock None e = absurd (omega arith)
step-first (at last) clock (Some t) e =
    let n = up_ticks (t.0 - clock) in
    let P : List ℕ → Type 0 = λ r. get_or r 0 0 ≡ 1 → FirstStep clock r in
    by P (ltb longest_step n) _ _ (λ f i. absurd (omega (arith, i)))
    (λ f. by P (past_field (clock + n * 100)) _ _ (λ g i. absurd (omega (arith, i)))
    (λ g i. record { short = ltb-false longest_step n f; field = leb-false horizon (clock + n * 100) g })) e

-- before the instant is given they name none
step_given : (clock : ℕ) (w : Option Ninths) → 0 < get_or (step_row none clock w) 0 0 → ⊥
unfolding step_row
step_given clock w e = omega (arith, e)

-- a good reading of d ticks, fewer than they name, leaves so many fewer
fewer-left : (last x clock d : ℕ) (w : Option Ninths) → get_or (step_row (at last) clock w) 0 0 ≡ 1
    → d < get_or (step_row (at last) clock w) 1 0
    → (not_after (clock + d * 100) w ≡ None)
    × (step_row (at x) (clock + d * 100) w ≡ 1 ∷ (get_or (step_row (at last) clock w) 1 0 - d) ∷ [])
unfolding step_row
fewer-left last x clock d None e h = absurd (omega (arith, e))
fewer-left last x clock d (Some t) e h =
    let n = up_ticks (t.0 - clock) in
    let k = up_ticks (t.0 - (clock + d * 100)) in
    let P : List ℕ → Type 0 = λ r. get_or r 0 0 ≡ 1 → d < get_or r 1 0
    → (not_after (clock + d * 100) (Some t) ≡ None) × (within (clock + d * 100) k ≡ 1 ∷ (get_or r 1 0 - d) ∷ []) in
    by P (ltb longest_step n) _ _ (λ f i j. absurd (omega (arith, i)))
    (λ f. by P (past_field (clock + n * 100)) _ _ (λ g i j. absurd (omega (arith, i)))
    (λ g i j.
    let a = ltb-false longest_step n f in
    let b = leb-false horizon (clock + n * 100) g in
    let c : k ≡ n - d = omega arith in (
      not_after-none (clock + d * 100) t (omega arith),
      rw (le-ltb longest_step k (omega arith), lt-leb horizon (clock + d * 100 + k * 100) (omega arith))
          (ap (λ (y : ℕ). 1 ∷ y ∷ []) c),
    ))) e h

-- the words that are read of a rolling splicer
abbrev pub steps_of : Rolling → List ℕ
steps_of r = step_row r.last r.splicer.clock (due r.splicer.queue)

-- a reading
module _ (r : Rolling) where
  abbrev clock : ℕ
  clock = r.splicer.clock

  abbrev next : Option Ninths
  next = due r.splicer.queue

  abbrev pub rolled_by : (reading room : ℕ) → Rolled
  rolled_by reading room = roll (readings reading room) r

  abbrev pub answer_to : (reading room : ℕ) → Answer
  answer_to reading room = (rolled_by reading room).called.answer

  module _ (reading room : ℕ) where
    abbrev comes_to : Course → Rolled
    comes_to c = rolls c reading r

    abbrev course_of : Last → Course
    course_of k = reading_course clock reading room k

    -- A: before it, or with none, a reading writes no byte, whether it is good or refused; one before the instant is refused
    pub reading-quiet : Before (steps_of r) (step_from r.last reading) → written_by (answer_to reading room) ≡ []
    unfolding roll reading_call reading_course step_course rolls written_by step_from
    reading-quiet h = go r.last h
      where
        P : Course → Type 0
        P c = written_by (comes_to c).called.answer ≡ []

        go : (k : Last) → Before (step_row k clock next) (step_from k reading) → P (course_of k)
        go none b = by P (no_room room) _ _ (λ e. refl) (λ e. refl)
        go (at last) b =
            let d = step_of last reading in
            by P (no_room room) _ _ (λ e. refl)
            (λ e. by P (over_step last reading) _ _ (λ f. refl)
            (λ f. by P (past_field (moved_on clock last reading)) _ _ (λ g. refl)
            (λ g. ticked-quiet _ r.splicer
            (step-before last clock d next (ltb-false longest_step d f) (leb-false horizon (clock + d * 100) g) b))))

    -- B: at it or later, a good one writes at least one record
    pub reading-wakes : Sound r.splicer → NotBefore (steps_of r) (step_from r.last reading) → number_of (answer_to reading room) ≡ 0
        → 0 < length (records_in (written_by (answer_to reading room)))
    unfolding roll reading_call reading_course step_course rolls number_of step_from
    reading-wakes sound h = go r.last h
      where
        P : Course → Type 0
        P c = number_of (comes_to c).called.answer ≡ 0 → 0 < length (records_in (written_by (comes_to c).called.answer))

        go : (k : Last) → NotBefore (step_row k clock next) (step_from k reading) → P (course_of k)
        go none b = absurd (step_given clock next b.0)
        go (at last) b =
            let d = step_of last reading in
            by P (no_room room) _ _ (λ e z. absurd (omega (arith, a-number NoRoom)))
            (λ e. by P (over_step last reading) _ _ (λ f z. absurd (omega (arith, a-number Counter)))
            (λ f. by P (past_field (moved_on clock last reading)) _ _ (λ g z. absurd (omega (arith, a-number Counter)))
            (λ g z. let c = step-not-before last clock d next b in
            let l = leb-false horizon (clock + d * 100) g in
            rw (ticked-found (clock + d * 100) r.splicer sound (omega arith) (omega arith))
            (ticked-writes (clock + d * 100) r.splicer c.t (comes (clock + d * 100) c)))))

    -- the reading after exactly so many ticks is good
    pub reading-good : get_or (steps_of r) 0 0 ≡ 1 → step_from r.last reading ≡ get_or (steps_of r) 1 0 → 4096 ≤ room
        → number_of (answer_to reading room) ≡ 0
    unfolding roll reading_call reading_course step_course rolls ticked number_of step_from
    reading-good e i long = go r.last e i
      where
        go : (k : Last) → get_or (step_row k clock next) 0 0 ≡ 1 → step_from k reading ≡ get_or (step_row k clock next) 1 0
            → number_of (comes_to (course_of k)).called.answer ≡ 0
        go none e i = absurd (step_given clock next (omega (arith, e)))
        go (at last) e i =
            let c = step-first (at last) clock next e in
            let d = step_of last reading in
            let a : ltb 8100000 d ≡ false = le-ltb 8100000 d (omega (arith, c.short)) in
            let b : leb horizon (clock + d * 100) ≡ false = lt-leb horizon (clock + d * 100) (omega (arith, c.field)) in
            let course : course_of (at last) ≡ brings (clock + d * 100) = rw (le-ltb room 4096 long, a, b) in
            ap (λ (x : Course). number_of (comes_to x).called.answer) course

    -- a good one brings the clock on, and is kept
    brought : (last : ℕ) → number_of (comes_to (course_of (at last))).called.answer ≡ 0
        → comes_to (course_of (at last)) ≡ comes_to (brings (clock + step_of last reading * 100))
    unfolding reading_course step_course rolls number_of
    brought last =
        let P : Course → Type 0 = λ c. number_of (comes_to c).called.answer ≡ 0
        → comes_to c ≡ comes_to (brings (clock + step_of last reading * 100)) in
        by P (no_room room) _ _ (λ e z. absurd (omega (arith, a-number NoRoom)))
        (λ e. by P (over_step last reading) _ _ (λ f z. absurd (omega (arith, a-number Counter)))
        (λ f. by P (past_field (moved_on clock last reading)) _ _ (λ g z. absurd (omega (arith, a-number Counter))) (λ g z. refl)))

    -- and one of fewer ticks leaves so many fewer
    pub reading-leaves : get_or (steps_of r) 0 0 ≡ 1 → step_from r.last reading < get_or (steps_of r) 1 0
        → number_of (answer_to reading room) ≡ 0
        → steps_of (rolling_of (rolled_by reading room)) ≡ 1 ∷ (get_or (steps_of r) 1 0 - step_from r.last reading) ∷ []
    unfolding roll reading_call step_from rolls
    reading-leaves e few z = go r.last e few z
      where
        leaves : (last : ℕ) → (not_after (clock + step_of last reading * 100) next ≡ None)
            × (step_row (at reading) (clock + step_of last reading * 100) next
            ≡ 1 ∷ (get_or (step_row (at last) clock next) 1 0 - step_of last reading) ∷ [])
            → steps_of (rolling_of (comes_to (brings (clock + step_of last reading * 100))))
            ≡ 1 ∷ (get_or (step_row (at last) clock next) 1 0 - step_of last reading) ∷ []
        leaves last f =
            let t = clock + step_of last reading * 100 in
            ap (λ (y : ℕ). step_row (at reading) y (due (ticked t r.splicer).splicer.queue)) (clock-ticked t r.splicer)
            ∙ ap (step_row (at reading) t) (ticked-stays t r.splicer f.0) ∙ f.1

        go : (k : Last) → get_or (step_row k clock next) 0 0 ≡ 1 → step_from k reading < get_or (step_row k clock next) 1 0
            → number_of (comes_to (course_of k)).called.answer ≡ 0
            → steps_of (rolling_of (comes_to (course_of k))) ≡ 1 ∷ (get_or (step_row k clock next) 1 0 - step_from k reading) ∷ []
        go none e few z = absurd (step_given clock next (omega (arith, e)))
        go (at last) e few z =
            let d = step_of last reading in
            let f = fewer-left last reading clock d next e few in
            ap (λ (y : Rolled). steps_of (rolling_of y)) (brought last z) ∙ leaves last f

-- Each promise determines its result, the counter's words too, and a refusal leaves everything as it was; each call's number is the first
-- of its order. Rests on engine's answers-same and on proofs/Ruled.
use Rattle.std.proofs.Common.{◌≡◌, ℕ, Bool, true, false, cond, not, List, sym, refl, ◌∙◌, arith}
use Rattle.rules.specs.declared.Refusal.{Refusal}
use Rattle.rules.specs.declared.Refusal.TheVariants.{NoRoom, BadMicros, Counter}
use Rattle.rules.specs.Units.{bad_micros, time_of, from_micros}
use Rattle.rules.specs.HouseNumbers.{refused, house_number, no_room}
use Rattle.rules.specs.Calls.{ticked}
use Rattle.rules.specs.Rolling.{Last, none, at, Rolling, Rolled, over_step, moved_on, past_field, is_given, Course, refuses}
use Rattle.rules.specs.Rolling.{brings}
use Rattle.rules.specs.Rolling.{instant_course, step_course, reading_course, rolls, instant_call, reading_call, RollingCall, known}
use Rattle.rules.specs.Rolling.{instants}
use Rattle.rules.specs.Rolling.{readings, roll}
use Rattle.demands.specs.Told.{first_number, number_of}
use Rattle.demands.proofs.Refusals.{first-number}
use Rattle.memory.specs.Memory.{see}
use Rattle.engine.specs.Lent.{Answer}
use Rattle.std.specs.Prelude.{Err}
use Rattle.engine.proofs.Laws.{answers-same, call-refused, refused-answer}
use Rattle.rolling.specs.LentRolling.{rolling, LentRolling, Rolls}
use Rattle.rolling.specs.Ruled.{last_in, roll_checks}
use Rattle.rolling.proofs.Calls.{refused-rolls}

-- "any two results it allows are proved equal"
pub rolls-same : (c : Rolled) (ring : ℕ) (e : List ℕ) (r s : Answer) (m b k o n d j p : List ℕ) → Rolls c ring e r m b k o
    → Rolls c ring e s n d j p
    → (r ≡ s) × (m ≡ n) × (b ≡ d) × (k ≡ j) × (o ≡ p)
rolls-same c ring e r s m b k o n d j p x y =
    let u = answers-same c.called ring e r s m b o n d p x.answers y.answers in
    (u.0, u.1, u.2, x.counter ∙ sym y.counter, u.3)

-- ## "A refusal returns its number, writes nothing, consumes nothing and changes no state."

module _ (n : Refusal) (r : Rolling) where
  course-refused : (c : Course) (x : ℕ) → (rolls c x r).called.answer ≡ refused n → rolls c x r ≡ rolls (refuses n) x r
  unfolding rolls ticked
  course-refused (refuses m) x e = cc
  course-refused (brings until) x e = let z : ◌≡◌ {A = ℕ} 0 1 = cc in absurd (omega arith)

  -- of the two calls in place of tick
  roll-refused : (k : RollingCall) (x : ℕ) → (roll k r).called.answer ≡ refused n → roll k r ≡ rolls (refuses n) x r
  unfolding roll rolls instant_call reading_call
  roll-refused (known k) x e = λ i. record { called = call-refused r.splicer n k e i; last = r.last }
  roll-refused (instants seconds micros reading room) x e = course-refused (instant_course seconds micros room r.last) reading e
  roll-refused (readings reading room) x e = course-refused (reading_course r.splicer.clock reading room r.last) reading e

-- of every result that a contract allows: the words, the bytes, the counter's words and the buffer are as they were
pub refused-unchanged : (j : RollingCall) (n : Refusal) (m b k e : List ℕ) (r : Answer) (v c k' o : List ℕ) → LentRolling m b k
    → Rolls (roll j (rolling m b k)) (see m).ring_end e r v c k' o → r ≡ Err n → (v ≡ m) × (c ≡ b) × (k' ≡ k) × (o ≡ e)
refused-unchanged j n m b k e r v c k' o l a f =
    let x = roll j (rolling m b k) in
    let q = roll-refused n (rolling m b k) j 0 (refused-answer x.called.answer x.called.moved n (sym f ∙ a.answers.answer)) in
    let z = rolls-same x (see m).ring_end e r (Err n) v c k' o m b k e a (refused-rolls l x n 0 q) in
    (z.1, z.2, z.3, z.4)

-- ## "A bad call gets its number"

abbrev course_number : Course → ℕ
course_number (refuses n) = house_number n
course_number (brings until) = 0

rolls-number : (c : Course) (x : ℕ) (r : Rolling) → number_of (rolls c x r).called.answer ≡ course_number c
unfolding rolls ticked number_of
rolls-number (refuses n) x r = refl
rolls-number (brings until) x r = refl

instant-number : (seconds micros room : ℕ) (l : Last)
    → course_number (instant_course seconds micros room l) ≡ cond (no_room room) 2 (cond (bad_micros micros) 8 (cond (is_given l) 12 0))
unfolding instant_course house_number
instant-number seconds micros room l = go (no_room room) (bad_micros micros) (is_given l)
  where
    go : (a b d : Bool) → course_number (cond a (refuses NoRoom) (cond b (refuses BadMicros)
        (cond d (refuses Counter) (brings (from_micros (time_of seconds micros)).0))))
        ≡ cond a 2 (cond b 8 (cond d 12 0))
    go true b d = refl
    go false true d = refl
    go false false true = refl
    go false false false = refl

reading-number : (clock reading room : ℕ) (l : Last)
    → course_number (reading_course clock reading room l)
    ≡ cond (no_room room) 2 (cond (not (is_given l)) 12 (cond (over_step (last_in l) reading) 12
    (cond (past_field (moved_on clock (last_in l) reading)) 12 0)))
unfolding reading_course step_course house_number
reading-number clock reading room none = go (no_room room)
  where
    go : (a : Bool) → course_number (cond a (refuses NoRoom) (refuses Counter)) ≡ cond a 2 12
    go true = refl
    go false = refl
reading-number clock reading room (at last) = go (no_room room) (over_step last reading) (past_field (moved_on clock last reading))
  where
    go : (a b d : Bool) → course_number (cond a (refuses NoRoom) (cond b (refuses Counter)
        (cond d (refuses Counter) (brings (moved_on clock last reading)))))
        ≡ cond a 2 (cond b 12 (cond d 12 0))
    go true b d = refl
    go false true d = refl
    go false false true = refl
    go false false false = refl

pub bad-call-number : (k : RollingCall) (r : Rolling) → number_of (roll k r).called.answer ≡ first_number (roll_checks k r)
unfolding roll roll_checks instant_call reading_call first_number
bad-call-number (known k) r = first-number r.splicer k
bad-call-number (instants seconds micros reading room) r =
    rolls-number (instant_course seconds micros room r.last) reading r ∙ instant-number seconds micros room r.last
bad-call-number (readings reading room) r =
    rolls-number (reading_course r.splicer.clock reading room r.last) reading r
    ∙ reading-number r.splicer.clock reading room r.last

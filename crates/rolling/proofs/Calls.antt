-- What each call's proof says of its own paths: the refusals in their order, and the words after a call that is done.
-- Rests on what holds of every rolling splicer that this card's fresh and calls have given (proofs/Ruled).
use Rattle.std.proofs.Common.{◌≡◌, ℕ, ◌<◌, ◌≤◌, Bool, true, false, cond, List, [], ◌∷◌, length, get_or, sym, refl, ap}
use Rattle.std.proofs.Common.{◌∙◌, subst, arith, le-ltb, lt-ltb, ne_eqb, le-leb}
use borrow.Author.Tests.{lt-leb}
use Rattle.rules.specs.declared.Ninths.{Ninths}
use Rattle.rules.specs.declared.Refusal.{Refusal}
use Rattle.rules.specs.declared.Refusal.TheVariants.{NoRoom, BadMicros, Counter}
use Rattle.rules.specs.Lists.{All}
use Rattle.rules.specs.Units.{time_of, from_micros}
use Rattle.rules.specs.Follows.Wires.{Byte}
use Rattle.rules.specs.HouseNumbers.{Called}
use Rattle.rules.specs.Calls.{fresh, move_call}
use Rattle.rules.specs.Units.{horizon}
use Rattle.rules.specs.Rolling.{Last, none, at, Rolling, Rolled, step_of, over_step, moved_on, past_field, is_given, Course}
use Rattle.rules.specs.Follows.Sequences.{rolling_of}
use Rattle.rules.specs.Rolling.{refuses, brings, instant_course, step_course, reading_course, rolls, instant_call, reading_call}
use Rattle.rules.specs.Follows.Sequences.{rolling_fresh}
use Rattle.rules.specs.Rolling.{RollingCall, instants, readings, roll}
use Rattle.rules.specs.Follows.Sequences.{RollWired, RollReached}
use Rattle.rules.proofs.Sound.{reached-sound}
use Rattle.memory.specs.Memory.{see, shown}
use Rattle.std.specs.Prelude.{Option, Some, None, Err}
use Rattle.engine.specs.Lent.{Lent, Answer, Answers}
use Rattle.engine.proofs.Calls.{refused_as}
use Rattle.rolling.specs.LentRolling.{counter_of, last_of, rolling, LentRolling, when_of, Rolls, Turns}
use Rattle.rolling.proofs.Ruled.{Steady, move_same, reached-steady, reached-known, reached-fresh, reached-roll, step-ahead}

-- ## What a call may rely on

-- the splicer's part is one that the engine's calls may be made of
pub lent-core : {m b k : List ℕ} → LentRolling m b k → Lent m b
lent-core {m} {b} {k} l = record { whole = l.whole; reached = reached-known (rolling m b k) l.reached }

pub lent-steady : {m b k : List ℕ} → LentRolling m b k → Steady (rolling m b k)
lent-steady {m} {b} {k} l = reached-steady (rolling m b k) l.reached

pub lent-early : {m b k : List ℕ} → LentRolling m b k → (see m).clock < horizon
lent-early {m} {b} l = (reached-sound (shown m b) (lent-core l).reached).clock

-- ## The counter's words

pub none_read : (k : List ℕ) → get_or k 0 0 ≡ 0 → last_of k ≡ none
unfolding last_of
none_read k e = rw e

pub some_read : (k : List ℕ) → (get_or k 0 0 ≡ 0 → ⊥) → last_of k ≡ at (get_or k 1 0)
unfolding last_of
some_read k e = rw (ne_eqb (get_or k 0 0) 0 e)

pub last-read : (l : Last) → last_of (counter_of l) ≡ l
unfolding last_of counter_of
last-read none = refl
last-read (at reading) = refl

kept-words : (x : ℕ) → 1 ∷ x ∷ [] ≡ counter_of (at x)
unfolding counter_of
kept-words x = refl

-- a reading that is kept is four bytes
pub some-low : {m b k : List ℕ} → LentRolling m b k → (get_or k 0 0 ≡ 0 → ⊥) → get_or k 1 0 < 4294967296
some-low {m} {b} {k} l e = rw (some_read k e) at (lent-steady l)

-- ## A refusal, and a call that is done

module _ {m b k e : List ℕ} (l : LentRolling m b k) where
  pub refused-rolls : (c : Rolled) (n : Refusal) (x : ℕ) → c ≡ rolls (refuses n) x (rolling m b k)
      → Rolls c (see m).ring_end e (Err n) m b k e
  unfolding rolls
  refused-rolls c n x f =
      record {
        lent = l;
        answers = refused_as c.called n (lent-core l) (ap (λ y. y.called) f);
        counter = l.counter ∙ ap (λ y. counter_of y.last) (sym f);
      }

  -- j is called, and brings the clock to until; x is the reading, and k' are the counter's words after it
  pub brought-rolls : (j : RollingCall) (until x : ℕ) {r : Answer} {v c k' o : List ℕ} → RollWired j
      → roll j (rolling m b k) ≡ rolls (brings until) x (rolling m b k) → 4096 ≤ length e → (see m).clock ≤ until
      → Answers (move_call until (length e) (shown m b)) (see m).ring_end e r v c o → k' ≡ 1 ∷ x ∷ []
      → Rolls (roll j (rolling m b k)) (see m).ring_end e r v c k' o
  unfolding rolls
  brought-rolls j until x {r} {v} {c} {k'} {o} wired f h i a g =
      let s = rolling m b k in
      let q : move_call until (length e) (shown m b) ≡ (roll j s).called =
      move_same until (length e) (shown m b) h i ∙ sym (ap (λ y. y.called) f) in
      let p : Answers (roll j s).called (see m).ring_end e r v c o = subst (λ (y : Called). Answers y (see m).ring_end e r v c o) q a in
      let w : k' ≡ counter_of (roll j s).last = g ∙ kept-words x ∙ sym (ap (λ y. counter_of y.last) f) in
      let d : last_of k' ≡ (roll j s).last = ap last_of w ∙ last-read (roll j s).last in
      let is : rolling v c k' ≡ rolling_of (roll j s) = λ n. record { splicer = p.splicer n; last = d n } in
      record {
        lent = record {
          whole = p.lent.whole;
          counter = w ∙ ap counter_of (sym d);
          reached = subst (λ (y : Rolling). RollReached y) (sym is) (reached-roll s j wired l.reached);
        };
        answers = p;
        counter = w;
      }

-- ## Fresh

-- m and b: what the engine's fresh has left
pub fresh-rolls : (name : List ℕ) {r : Answer} {m b k : List ℕ} → length name ≡ 32 → All Byte name
    → Answers (fresh name) 0 [] r m b [] → k ≡ 0 ∷ 0 ∷ [] → Rolls (rolling_fresh name) 0 [] r m b k []
unfolding rolling_fresh counter_of
fresh-rolls name {m = m} {b} {k} long bytes a g =
    let d : last_of k ≡ none = ap last_of g ∙ last-read none in
    let is : rolling m b k ≡ rolling_of (rolling_fresh name) = λ n. record { splicer = a.splicer n; last = d n } in
    record {
      lent = record {
        whole = a.lent.whole;
        counter = g ∙ ap counter_of (sym d);
        reached = subst (λ (y : Rolling). RollReached y) (sym is) (reached-fresh name long bytes);
      };
      answers = a;
      counter = g;
    }

-- ## The instant

module _ (seconds micros reading room : ℕ) (r : Rolling) where
  abbrev InstantIs : Course → Type 0
  InstantIs c = instant_call seconds micros reading room r ≡ rolls c reading r

  instant-none : room < 4096 → InstantIs (refuses NoRoom)
  unfolding instant_call instant_course
  instant-none h = rw (lt-ltb room 4096 h)

  instant-over : 4096 ≤ room → 999999 < micros → InstantIs (refuses BadMicros)
  unfolding instant_call instant_course
  instant-over h i = rw (le-ltb room 4096 h, lt-ltb 999999 micros i)

  instant-again : 4096 ≤ room → micros ≤ 999999 → is_given r.last ≡ true → InstantIs (refuses Counter)
  unfolding instant_call instant_course
  instant-again h i g = rw (le-ltb room 4096 h, le-ltb 999999 micros i, g)

  instant-good : 4096 ≤ room → micros ≤ 999999 → is_given r.last ≡ false → InstantIs (brings (from_micros (time_of seconds micros)).0)
  unfolding instant_call instant_course
  instant-good h i g = rw (le-ltb room 4096 h, le-ltb 999999 micros i, g)

module _ {m b k e : List ℕ} (seconds micros reading : ℕ) (l : LentRolling m b k) where
  pub instant-small : length e < 4096 → Turns (instant_call seconds micros reading) m b k e (Err NoRoom) m b k e
  instant-small h = refused-rolls l _ NoRoom reading (instant-none seconds micros reading (length e) (rolling m b k) h)

  pub instant-micros : 4096 ≤ length e → 999999 < micros → Turns (instant_call seconds micros reading) m b k e (Err BadMicros) m b k e
  instant-micros h i = refused-rolls l _ BadMicros reading (instant-over seconds micros reading (length e) (rolling m b k) h i)

  pub instant-second : 4096 ≤ length e → micros ≤ 999999 → (get_or k 0 0 ≡ 0 → ⊥)
      → Turns (instant_call seconds micros reading) m b k e (Err Counter) m b k e
  instant-second h i g =
      refused-rolls l _ Counter reading (instant-again seconds micros reading (length e) (rolling m b k) h i (ap is_given (some_read k g)))

  -- the clock is 0 before it
  pub instant-done : (until : Ninths) {r : Answer} {v c k' o : List ℕ} → until ≡ from_micros (time_of seconds micros) → seconds < 4294967296
      → reading < 4294967296 → 4096 ≤ length e → micros ≤ 999999 → get_or k 0 0 ≡ 0
      → Answers (move_call until.0 (length e) (shown m b)) (see m).ring_end e r v c o → k' ≡ 1 ∷ reading ∷ []
      → Turns (instant_call seconds micros reading) m b k e r v c k' o
  unfolding roll
  instant-done until same w x h i g a f =
      let t = ap (λ (y : Ninths). y.0) same in
      let z : (see m).clock ≡ 0 = rw (none_read k g) at (lent-steady l) in
      brought-rolls l (instants seconds micros reading (length e)) until.0 reading (w, x)
      (instant-good seconds micros reading (length e) (rolling m b k) h i (ap is_given (none_read k g))
      ∙ ap (λ y. rolls (brings y) reading (rolling m b k)) (sym t))
      h (omega (arith, z)) a f

-- ## A reading

module _ (clock last reading : ℕ) where
  pub step_over : 8100000 < step_of last reading → None ≡ when_of (step_course clock reading (at last))
  unfolding step_course when_of
  step_over h = rw (lt-ltb 8100000 (step_of last reading) h)

  pub step_past : step_of last reading ≤ 8100000 → horizon ≤ moved_on clock last reading
      → None ≡ when_of (step_course clock reading (at last))
  unfolding step_course when_of
  step_past h i = rw (le-ltb 8100000 (step_of last reading) h, le-leb horizon (moved_on clock last reading) i)

  pub step-good : step_of last reading ≤ 8100000 → moved_on clock last reading < horizon
      → Some (record { 0 = moved_on clock last reading }) ≡ when_of (step_course clock reading (at last))
  unfolding step_course when_of
  step-good h i = rw (le-ltb 8100000 (step_of last reading) h, lt-leb horizon (moved_on clock last reading) i)

-- the course that an instant, or none, stands for
course-never : (clock reading : ℕ) (l : Last) → when_of (step_course clock reading l) ≡ None
    → step_course clock reading l ≡ refuses Counter
unfolding step_course when_of
course-never clock reading none e = refl
course-never clock reading (at last) e = go (over_step last reading) (past_field (moved_on clock last reading)) e
  where
    go : (a b : Bool) → when_of (cond a (refuses Counter) (cond b (refuses Counter) (brings (moved_on clock last reading)))) ≡ None
        → cond a (refuses Counter) (cond b (refuses Counter) (brings (moved_on clock last reading))) ≡ refuses Counter
    go true b f = refl
    go false true f = refl
    go false false f = let z : ◌≡◌ {A = ℕ} 0 1 = cc in absurd (omega arith)

course-none : (clock reading : ℕ) → step_course clock reading none ≡ refuses Counter
unfolding step_course
course-none clock reading = refl

course-at : (c : Course) (t : Ninths) → when_of c ≡ Some t → c ≡ brings t.0
unfolding when_of
course-at (refuses n) t e = let z : ◌≡◌ {A = ℕ} 0 1 = cc in absurd (omega arith)
course-at (brings until) t e = cc

module _ (reading room : ℕ) (r : Rolling) where
  abbrev ReadingIs : Course → Type 0
  ReadingIs c = reading_call reading room r ≡ rolls c reading r

  reading-none : room < 4096 → ReadingIs (refuses NoRoom)
  unfolding reading_call reading_course
  reading-none h = rw (lt-ltb room 4096 h)

  reading-course : (c : Course) → 4096 ≤ room → step_course r.splicer.clock reading r.last ≡ c → ReadingIs c
  unfolding reading_call reading_course
  reading-course c h e = rw (le-ltb room 4096 h, e)

module _ (m k : List ℕ) (reading : ℕ) (clock : Ninths) (g : get_or k 0 0 ≡ 0 → ⊥) (now : clock.0 ≡ (see m).clock) where
  course : step_course (see m).clock reading (last_of k) ≡ step_course clock.0 reading (at (get_or k 1 0))
  course = λ n. step_course (sym now n) reading (some_read k g n)

  -- t: where the reading brings the clock
  brought : (t : Ninths) {w : Option Ninths} → w ≡ when_of (step_course clock.0 reading (at (get_or k 1 0))) → w ≡ Some t
      → step_course (see m).clock reading (last_of k) ≡ brings t.0
  brought t f n = course ∙ course-at _ t (sym f ∙ n)

  pub reading-early : (t : Ninths) {w : Option Ninths} → w ≡ when_of (step_course clock.0 reading (at (get_or k 1 0))) → w ≡ Some t
      → ((see m).clock ≤ t.0) × (t.0 < horizon)
  reading-early t f n = step-ahead (see m).clock reading (last_of k) t.0 (brought t f n)

module _ {m b k e : List ℕ} (reading : ℕ) (l : LentRolling m b k) where
  pub reading_small : length e < 4096 → Turns (reading_call reading) m b k e (Err NoRoom) m b k e
  reading_small h = refused-rolls l _ NoRoom reading (reading-none reading (length e) (rolling m b k) h)

  pub reading-before : 4096 ≤ length e → get_or k 0 0 ≡ 0 → Turns (reading_call reading) m b k e (Err Counter) m b k e
  reading-before h g =
      refused-rolls l _ Counter reading
      (reading-course reading (length e) (rolling m b k) (refuses Counter) h
      (ap (step_course (see m).clock reading) (none_read k g) ∙ course-none (see m).clock reading))

  module _ (clock : Ninths) (h : 4096 ≤ length e) (g : get_or k 0 0 ≡ 0 → ⊥) (now : clock.0 ≡ (see m).clock) where
    pub reading-never : {w : Option Ninths} → w ≡ when_of (step_course clock.0 reading (at (get_or k 1 0))) → w ≡ None
        → Turns (reading_call reading) m b k e (Err Counter) m b k e
    reading-never f n =
        refused-rolls l _ Counter reading
        (reading-course reading (length e) (rolling m b k) (refuses Counter) h
        (course m k reading clock g now ∙ course-never clock.0 reading (at (get_or k 1 0)) (sym f ∙ n)))

    pub reading-done : (t : Ninths) {w : Option Ninths} {r : Answer} {v c k' o : List ℕ}
        → w ≡ when_of (step_course clock.0 reading (at (get_or k 1 0))) → w ≡ Some t
        → reading < 4294967296 → Answers (move_call t.0 (length e) (shown m b)) (see m).ring_end e r v c o → k' ≡ 1 ∷ reading ∷ []
        → Turns (reading_call reading) m b k e r v c k' o
    unfolding roll
    reading-done t f n x a i =
        brought-rolls l (readings reading (length e)) t.0 reading x
        (reading-course reading (length e) (rolling m b k) (brings t.0) h (brought m k reading clock g now t f n)) h
        (reading-early m k reading clock g now t f n).0 a i

-- The read of the sessions, and two readings in a row, of every sequence of the rolling card's calls. n, after: whatever the read's
-- contract allows, lent the words `lent`: the read is the door's. Rests on demands_engine's proofs of the same names: a good reading brings
-- the clock to an instant, and the steps of two add up, as each is far below the rollover.
use mathlib.Core.Path.{◌≡◌, refl, sym, ap, ap₂, subst, ◌∙◌}
use mathlib.Core.Bool.{cond}
use mathlib.Core.List.{List, [], ◌∷◌, ◌++◌}
use Prim.Native.Nat.{ℕ, ◌+◌, ◌≤◌, ◌<◌}
use native.Mathlib.Omega.{arith}
use lib.Dec.{eqb}
use lib.ListN.{length}
use borrow.Author.Tests.{ltb-false}
use Rattle.rules.specs.HouseNumbers.{no_room, house_number}
use Rattle.rules.specs.Calls.{ticked, move_call}
use Rattle.rules.specs.Rolling.{Last, none, at, Rolling, Rolled, step_of, over_step, moved_on, past_field, Course, step_course}
use Rattle.rules.specs.Rolling.{reading_course}
use Rattle.rules.specs.Follows.Sequences.{rolling_of}
use Rattle.rules.specs.Rolling.{rolls, reading_call, readings, roll}
use Rattle.rules.proofs.Tests.{by}
use Rattle.demands.specs.Told.{number_of}
use Rattle.demands.specs.Sessions.{rows_read, SessionsTold, InOrder}
use Rattle.demands.proofs.Between.{move-brings}
use Rattle.engine.specs.Lent.{ReadsSessions}
use Rattle.rolling.specs.LentRolling.{counter_of}
use Rattle.door_rolling.specs.RollDoor.{a_reading, RollTyped, RollSeen}
use Rattle.demands_engine.specs.Trace as engine
use Rattle.demands_engine.proofs.Steps.{number_read}
use Rattle.demands_engine.proofs.Between.{joined}
use Rattle.demands_engine.proofs.Sessions as called
use Rattle.demands_door.specs.Driven.{inside}
use Rattle.demands_door.proofs.Inside.{number-inside, bytes_inside}
use Rattle.demands_rolling.specs.Rolled.{Memory, shown, LentAt, left, Made, AllowedAt, Trace, More, seen_of, number, bytes_of}
use Rattle.demands_rolling.specs.Rolled.{time_made, events, within}
use Rattle.demands_rolling.proofs.Inside.{Promised, promised, replies-of, state-is, step, trace-lent, trace-inside}

-- ## The sessions

module _ (name : List ℕ) (h : List Made) (m : Memory) (lent after : List ℕ) (n : ℕ)
    (reads : ReadsSessions m.core.words m.core.bytes lent n after) (t : Trace name h m) where
  -- from the calls and the answers' bytes alone: exactly the accepted ones without an end, each with what was asked of it
  pub sessions-told : SessionsTold (events h) n (rows_read n lent after)
  sessions-told = called.sessions-told name (within h) m.core lent after n reads (trace-inside name h m t)

  -- the started from the highest AccessType down, of which the first is on air, then those that wait in order of start
  pub sessions-in-order : InOrder (rows_read n lent after)
  sessions-in-order = called.sessions-in-order name (within h) m.core lent after n reads (trace-inside name h m t)

  -- 74 rows are enough
  pub sessions-at-most : n ≤ 74
  sessions-at-most = called.sessions-at-most name (within h) m.core lent after n reads (trace-inside name h m t)

-- ## A good reading

-- x was read of r, and c came of it
record Read (x : ℕ) (r : Rolling) (c : Rolled) : Type 0 where
  last : ℕ
  was : r.last ≡ at last
  short : step_of last x ≤ 8100000
  clock : c.called.splicer.clock ≡ moved_on r.splicer.clock last x
  kept : c.last ≡ at x

reading-of : (x room : ℕ) (r : Rolling) (l : Last) → r.last ≡ l
    → number_of (rolls (reading_course r.splicer.clock x room l) x r).called.answer ≡ 0
    → Read x r (rolls (reading_course r.splicer.clock x room l) x r)
unfolding reading_course step_course rolls ticked number_of house_number
reading-of x room r none e =
    by (λ (c : Course). number_of (rolls c x r).called.answer ≡ 0 → Read x r (rolls c x r)) (no_room room) _ _
    (λ f z. absurd (omega (arith, z))) (λ f z. absurd (omega (arith, z)))
reading-of x room r (at l) e =
    by (λ (c : Course). number_of (rolls c x r).called.answer ≡ 0 → Read x r (rolls c x r)) (no_room room) _ _
    (λ f z. absurd (omega (arith, z)))
    (λ f. by (λ (c : Course). number_of (rolls c x r).called.answer ≡ 0 → Read x r (rolls c x r)) (over_step l x) _ _
    (λ g z. absurd (omega (arith, z)))
    (λ g. by (λ (c : Course). number_of (rolls c x r).called.answer ≡ 0 → Read x r (rolls c x r))
    (past_field (moved_on r.splicer.clock l x)) _ _
    (λ k z. absurd (omega (arith, z)))
    (λ k z. record { last = l; was = e; short = ltb-false 8100000 (step_of l x) g; clock = refl; kept = refl })))

reading-is : (x room : ℕ) (r : Rolling) → number_of (roll (readings x room) r).called.answer ≡ 0 → Read x r (roll (readings x room) r)
unfolding roll reading_call
reading-is x room r = reading-of x room r r.last refl

-- the steps of two readings add up
steps-add : (l x y : ℕ) → x < 4294967296 → y < 4294967296 → step_of l x ≤ 8100000 → step_of x y ≤ 8100000
    → step_of l y ≡ step_of l x + step_of x y
unfolding step_of
steps-add l x y a b c d = omega arith

same-last : (l k : ℕ) → at l ≡ at k → l ≡ k
same-last l k e = cc

-- the next call is a reading, and good
module _ (m : Memory) (l : LentAt m) (x : ℕ) (e : List ℕ) (r : RollSeen) (t : RollTyped (a_reading x e)) (a : AllowedAt m (a_reading x e) r)
    (z : number r ≡ 0) where
  abbrev until : ℕ
  until = (shown (left r)).splicer.clock

  holds : Promised m (a_reading x e) r
  holds = promised m (a_reading x e) r l t a

  good : number_of (roll (readings x (length e)) (shown m)).called.answer ≡ 0
  good =
      sym (number-inside (replies-of m (a_reading x e) r a) ∙ ap engine.number_in holds.answers.answer
      ∙ number_read (roll (readings x (length e)) (shown m)).called.answer (roll (readings x (length e)) (shown m)).called.moved) ∙ z

  read : Read x (shown m) (roll (readings x (length e)) (shown m))
  read = reading-is x (length e) (shown m) good

  state : shown (left r) ≡ rolling_of (roll (readings x (length e)) (shown m))
  state = state-is m (a_reading x e) r holds

  clock-is : until ≡ moved_on (shown m).splicer.clock read.last x
  clock-is = ap (λ (y : Rolling). y.splicer.clock) state ∙ read.clock

  last-is : (shown (left r)).last ≡ at x
  last-is = ap (λ (y : Rolling). y.last) state ∙ read.kept

  counter-is : r.counter ≡ counter_of (at x)
  counter-is = holds.counter ∙ ap counter_of read.kept

  -- it brings the clock to where it is then
  moves : engine.Allowed m.core (engine.a_move until e) (inside (seen_of r))
  moves =
      let g : time_made e r ≡ engine.made (engine.a_move until e) (inside (seen_of r)) ∷ [] =
      ap (λ (k : ℕ). cond (eqb k 0) (engine.made (engine.a_move until e) (inside (seen_of r)) ∷ []) []) z in
      (subst (λ (y : List engine.Made). engine.Leads m.core y (left r).core) g (step m (a_reading x e) r l t a).leads).1

-- ## Two readings

-- a reading, good, and behind it another, good; alone: the second without the first, good too, for its step may be too long
module _ (name : List ℕ) (h : List Made) (m : Memory) (x y : ℕ) (e o : List ℕ) (one two alone : RollSeen)
    (c : More name h m (a_reading x e) one)
    (d : AllowedAt (left one) (a_reading y o) two)
    (a : More name h m (a_reading y o) alone) (z : number one ≡ 0) (w : number two ≡ 0) (v : number alone ≡ 0) where
  here : LentAt m
  here = trace-lent name h m c.trace

  there : LentAt (left one)
  there = (holds m here x e one c.typed c.allowed z).lent

  abbrev one-read : Read x (shown m) (roll (readings x (length e)) (shown m))
  one-read = read m here x e one c.typed c.allowed z

  abbrev two-read : Read y (shown (left one)) (roll (readings y (length o)) (shown (left one)))
  two-read = read (left one) there y o two a.typed d w

  abbrev alone-read : Read y (shown m) (roll (readings y (length o)) (shown m))
  alone-read = read m here y o alone a.typed a.allowed v

  -- the same instant
  same-time : (shown (left alone)).splicer.clock ≡ (shown (left two)).splicer.clock
  same-time =
      let p = clock-is m here x e one c.typed c.allowed z in
      let q = clock-is (left one) there y o two a.typed d w in
      let r = clock-is m here y o alone a.typed a.allowed v in
      let i : two-read.last ≡ x = same-last _ _ (sym two-read.was ∙ last-is m here x e one c.typed c.allowed z) in
      let j : alone-read.last ≡ one-read.last = same-last _ _ (sym alone-read.was ∙ one-read.was) in
      let k : step_of two-read.last y ≡ step_of x y = ap (λ (n : ℕ). step_of n y) i in
      let n : step_of alone-read.last y ≡ step_of one-read.last y = ap (λ (n : ℕ). step_of n y) j in
      let s = steps-add one-read.last x y c.typed a.typed one-read.short (omega (arith, k, two-read.short)) in
      omega (arith, p, q, r, k, n, s)

  -- "a good tick put in before a later one changes neither the bytes written by the two together nor the splicer after them"
  pub ticks-between : (bytes_of one ++ bytes_of two ≡ bytes_of alone) × (left two ≡ left alone)
  ticks-between =
      let mid = (shown (left one)).splicer.clock in
      let end = (shown (left two)).splicer.clock in
      let p = moves m here x e one c.typed c.allowed z in
      let q = moves (left one) there y o two a.typed d w in
      let r = subst (λ (t : ℕ). engine.Allowed m.core (engine.a_move t o) (inside (seen_of alone))) same-time
      (moves m here y o alone a.typed a.allowed v) in
      let f = replies-of m (a_reading x e) one c.allowed in
      let g = replies-of (left one) (a_reading y o) two d in
      let k = replies-of m (a_reading y o) alone a.allowed in
      let j = joined mid end (move_call mid) (move_call end) m.core e o (move-brings mid (length e)) (move-brings end (length o))
      (inside (seen_of one)) (inside (seen_of two)) (inside (seen_of alone)) p q r (sym (number-inside f) ∙ z) (sym (number-inside g) ∙ w)
      in
      let n = counter-is (left one) there y o two a.typed d w ∙ sym (counter-is m here y o alone a.typed a.allowed v) in (
        ap₂ ◌++◌ (bytes_inside f) (bytes_inside g) ∙ j.1 ∙ sym (bytes_inside k),
        (λ i. record { core = j.2 i; counter = n i }),
      )

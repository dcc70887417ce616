-- A tick: the next instant, each instant leaves fewer to come, so that a tick is never cut short; what instants keep a tick keeps.
-- Assumes nothing.
use mathlib.Core.Path.{◌≡◌, refl, ap, sym, subst, ◌∙◌}
use mathlib.Core.Bool.{Bool, true, false, cond}
use mathlib.Core.List.{List, [], ◌∷◌, ◌++◌}
use Prim.Native.Nat.{ℕ, zero, suc, ◌+◌, ◌-◌, ◌*◌, ◌≤◌, ◌<◌}
use native.Mathlib.Omega.{arith}
use lib.Dec.{eqb, ltb, leb}
use lib.ListN.{length, get_or}
use borrow.Author.Tests.{ltb-false, ltb-true, le-leb, lt-leb, le-ltb, lt-ltb}
use Rattle.rules.specs.declared.Ninths.{Ninths}
use Rattle.rules.specs.declared.Session.{Session}
use Rattle.rules.specs.Lists.{bit, keep, omit, count, place, remove_at}
use Rattle.rules.specs.State.{Queue, empty, starts_at, ends_at, sooner, earliest, due, not_after, to_come, with_waiting}
use Rattle.rules.specs.Follows.Wires.{Sorted}
use Rattle.rules.specs.Ends.{Turn, quiet, and_then}
use Rattle.rules.specs.Instants.{may_start, launched, start_at, end_at, instant, playing, on_air, elapse, onwards, run, run_all}
use Rattle.rules.proofs.Tests.{tests, by, eqb_same}
use Rattle.rules.proofs.All.{All, all-into}
use Rattle.rules.proofs.Count.{length-remove_at, length-split, length-keep, place_none}
use Rattle.rules.proofs.Every.{fewer-length}
use Rattle.rules.proofs.Leaving.{failed-fewer, ousted-fewer}
use Rattle.std.specs.Prelude.{None, Option, Some}

-- ## The sooner of two

-- it is one of them
pub sooner-one : (P : Option Ninths → Type 0) (a b : Option Ninths) → P a → P b → P (sooner a b)
sooner-one P None b x y = y
sooner-one P (Some t) None x y = x
sooner-one P (Some t) (Some u) x y = by P (leb t.0 u.0) _ _ (λ e. x) (λ e. y)

module _ (t u : Ninths) where
  pub sooner-first : t.0 ≤ u.0 → sooner (Some t) (Some u) ≡ Some t
  sooner-first h = rw (le-leb t.0 u.0 h)

  pub sooner-second : u.0 < t.0 → sooner (Some t) (Some u) ≡ Some u
  sooner-second h = rw (lt-leb t.0 u.0 h)

-- a is not later than the time n
abbrev pub By : Option Ninths → ℕ → Type 0
By (Some t) n = t.0 ≤ n
By None n = ⊥

sooner-left : (a b : Option Ninths) (n : ℕ) → By a n → By (sooner a b) n
sooner-left None b n h = absurd h
sooner-left (Some t) None n h = h
sooner-left (Some t) (Some u) n h = by (λ a. By a n) (leb t.0 u.0) _ _ (λ e. h) (λ e. omega (arith, tests))

sooner-right : (a b : Option Ninths) (n : ℕ) → By b n → By (sooner a b) n
sooner-right None b n h = h
sooner-right (Some t) None n h = absurd h
sooner-right (Some t) (Some u) n h = by (λ a. By a n) (leb t.0 u.0) _ _ (λ e. omega (arith, tests)) (λ e. h)

-- ## The earliest

module _ (f : Session → Ninths) where
  pub earliest-none : (l : List Session) → length l ≤ 0 → earliest f l ≡ None
  earliest-none [] h = refl
  earliest-none (s ∷ l) h = absurd (omega arith)

  -- t is not later than any of l
  pub earliest-first : (t : Ninths) (l : List Session) → All (λ s. t.0 ≤ (f s).0) l → sooner (Some t) (earliest f l) ≡ Some t
  earliest-first t [] a = refl
  earliest-first t (s ∷ l) a =
      sooner-one (λ w. sooner (Some t) w ≡ Some t) (Some (f s)) (earliest f l) (sooner-first t (f s) a.0) (earliest-first t l a.1)

  earliest-all : (l : List Session) → All (λ s. By (earliest f l) (f s).0) l
  earliest-all [] = tt
  earliest-all (s ∷ l) = (
    sooner-left (Some (f s)) (earliest f l) (f s).0 (omega arith),
    all-into (λ u. By (earliest f l) (f u).0) (λ u. By (earliest f (s ∷ l)) (f u).0)
        (λ u h. sooner-right (Some (f s)) (earliest f l) (f u).0 h) l (earliest-all l),
  )

  -- one of l has the time a, if it is one
  abbrev Among : List Session → Option Ninths → Type 0
  Among l (Some t) = 0 < count (λ s. eqb t.0 (f s).0) l
  Among l None = Unit {0}

  earliest-among : (l : List Session) → Among l (earliest f l)
  earliest-among [] = tt
  earliest-among (s ∷ l) =
      sooner-one (Among (s ∷ l)) (Some (f s)) (earliest f l) (omega (arith, ap bit (eqb_same (f s).0)))
      (more (earliest f l) (earliest-among l))
    where
      more : (a : Option Ninths) → Among l a → Among (s ∷ l) a
      more (Some t) h = omega arith
      more None h = tt

-- of those in order of start: the first's
pub earliest-start : (w : List Session) (d : Session) → Sorted w → 0 < length w → earliest (λ s. s.start) w ≡ Some (get_or w 0 d).start
earliest-start [] d o h = absurd (omega arith)
earliest-start (s ∷ w) d o h =
    earliest-first (λ u. u.start) s.start w (all-into (λ u. s.start.0 < u.start.0) (λ u. s.start.0 ≤ u.start.0)
    (λ u i. omega arith) w o.0)

-- ## Not after a time

never-at : (t : Ninths) → None ≡ Some t → ⊥
never-at t h = let z : ◌≡◌ {A = ℕ} 0 1 = cc in omega arith

module _ (until : ℕ) where
  module _ (t : Ninths) where
    pub not_after-at : t.0 ≤ until → not_after until (Some t) ≡ Some t
    not_after-at h = rw (le-ltb until t.0 h)

    pub not_after-none : until < t.0 → not_after until (Some t) ≡ None
    not_after-none h = rw (lt-ltb until t.0 h)

  not_after-is : (a : Option Ninths) (t : Ninths) → not_after until a ≡ Some t → (a ≡ Some t) × (t.0 ≤ until)
  not_after-is (Some u) t h = go (ltb until u.0) refl h
    where
      go : (b : Bool) → ltb until u.0 ≡ b → cond b None (Some u) ≡ Some t → (Some u ≡ Some t) × (t.0 ≤ until)
      go true e h = absurd (never-at t h)
      go false e h = let k : u.0 ≡ t.0 = cc in (h, omega (arith, tests))
  not_after-is None t h = absurd (never-at t h)

  -- what is later than until is after it
  not_after-later : (a : Option Ninths) (n : ℕ) → not_after until a ≡ None → By a n → until < n
  not_after-later (Some u) n h k = go (ltb until u.0) refl h k
    where
      go : (b : Bool) → ltb until u.0 ≡ b → cond b None (Some u) ≡ None → u.0 ≤ n → until < n
      go true e h k = omega (arith, tests)
      go false e h k = absurd (never-at u (sym h))
  not_after-later None n h k = absurd k

-- ## The next instant

-- nothing starts or ends before t
pub record Due (t : ℕ) (q : Queue) : Type 0 where
  pub starts : All (λ s. t ≤ s.start.0) q.waiting
  pub ends : All (λ s. t ≤ s.end.0) q.started

-- how much starts or ends at t
abbrev pub meets : ℕ → Queue → ℕ
meets t q = count (starts_at t) q.waiting + count (ends_at t) q.started

-- as code finds it
pub due-of : (q : Queue) (a b : Option Ninths) → a ≡ earliest (λ s. s.end) q.started → b ≡ earliest (λ s. s.start) q.waiting
    → sooner a b ≡ due q
unfolding due
due-of q a b e f = λ i. sooner (e i) (f i)

-- nothing that starts or ends is before the next instant
due-by : (q : Queue) → All (λ s. By (due q) s.start.0) q.waiting × All (λ s. By (due q) s.end.0) q.started
unfolding due
due-by q =
    let e = earliest (λ (s : Session). s.end) q.started in
    let b = earliest (λ (s : Session). s.start) q.waiting in (
      all-into (λ s. By b s.start.0) (λ s. By (sooner e b) s.start.0) (λ s h. sooner-right e b s.start.0 h) q.waiting
          (earliest-all (λ (s : Session). s.start) q.waiting),
      all-into (λ s. By e s.end.0) (λ s. By (sooner e b) s.end.0) (λ s h. sooner-left e b s.end.0 h) q.started
          (earliest-all (λ (s : Session). s.end) q.started),
    )

abbrev Met : Queue → Option Ninths → Type 0
Met q (Some t) = 0 < meets t.0 q
Met q None = Unit {0}

due-met : (q : Queue) → Met q (due q)
unfolding due
due-met q =
    sooner-one (Met q) (earliest (λ s. s.end) q.started) (earliest (λ s. s.start) q.waiting)
    (ends (earliest (λ s. s.end) q.started) (earliest-among (λ s. s.end) q.started))
    (starts (earliest (λ s. s.start) q.waiting) (earliest-among (λ s. s.start) q.waiting))
  where
    ends : (a : Option Ninths) → Among (λ s. s.end) q.started a → Met q a
    ends (Some t) h = omega arith
    ends None h = tt

    starts : (a : Option Ninths) → Among (λ s. s.start) q.waiting a → Met q a
    starts (Some t) h = omega arith
    starts None h = tt

-- the next instant that is not later than until
module _ (until : ℕ) (t : Ninths) (q : Queue) (e : not_after until (due q) ≡ Some t) where
  is-due : due q ≡ Some t
  is-due = (not_after-is until (due q) t e).0

  pub due-time : t.0 ≤ until
  due-time = (not_after-is until (due q) t e).1

  pub due-first : Due t.0 q
  due-first =
      record {
        starts = all-into (λ s. By (due q) s.start.0) (λ s. t.0 ≤ s.start.0) (λ s h. subst (λ a. By a s.start.0) is-due h)
            q.waiting (due-by q).0;
        ends = all-into (λ s. By (due q) s.end.0) (λ s. t.0 ≤ s.end.0) (λ s h. subst (λ a. By a s.end.0) is-due h) q.started
            (due-by q).1;
      }

  pub due-meets : 0 < meets t.0 q
  due-meets = subst (Met q) is-due (due-met q)

-- with nothing due by until
pub due-last : (until : ℕ) (q : Queue) → not_after until (due q) ≡ None → Due (suc until) q
due-last until q e =
    record {
      starts = all-into (λ s. By (due q) s.start.0) (λ s. suc until ≤ s.start.0)
          (λ s h. not_after-later until (due q) s.start.0 e h) q.waiting (due-by q).0;
      ends = all-into (λ s. By (due q) s.end.0) (λ s. suc until ≤ s.end.0) (λ s h. not_after-later until (due q) s.end.0 e h)
          q.started (due-by q).1;
    }

-- ## Time on air changes no time and no number

pub count-on_air : (p : Session → Bool) → ((d : ℕ) (s : Session) → p (playing d s) ≡ p s) → (d : ℕ) (k : List Session)
    → count p (on_air d k) ≡ count p k
unfolding on_air
count-on_air p h d [] = refl
count-on_air p h d (s ∷ k) = rw (h d s)

pub all-on_air : (P : Session → Type 0) → ((d : ℕ) (s : Session) → P s → P (playing d s)) → (d : ℕ) (k : List Session) → All P k
    → All P (on_air d k)
unfolding on_air
all-on_air P f d [] a = tt
all-on_air P f d (s ∷ k) a = (f d s a.0, a.1)

pub length-on_air : (d : ℕ) (k : List Session) → length (on_air d k) ≡ length k
unfolding on_air
length-on_air d [] = refl
length-on_air d (s ∷ k) = refl

module _ (t d : ℕ) (q : Queue) where
  pub elapse-due : Due t q → Due t (elapse d q)
  unfolding elapse
  elapse-due h = record { starts = h.starts; ends = all-on_air (λ s. t ≤ s.end.0) (λ e s i. i) d q.started h.ends }

  pub elapse-meets : meets t (elapse d q) ≡ meets t q
  unfolding elapse
  elapse-meets = omega (arith, count-on_air (ends_at t) (λ e s. refl) d q.started)

  pub elapse-to_come : to_come (elapse d q) ≡ to_come q
  unfolding elapse
  elapse-to_come = omega (arith, length-on_air d q.started)

-- ## Each instant leaves fewer to come

launched-less : (s : Session) (q : Queue) → to_come (launched s q).queue ≤ suc (to_come q)
unfolding launched and_then
launched-less s q =
    by (λ (r : Turn). to_come r.queue ≤ suc (to_come q)) (may_start s q.started) _ _
    (λ e. let f = ousted-fewer s q in omega (arith, fewer-length f.waiting, fewer-length f.started))
    (λ e. let f = failed-fewer s q in omega (arith, fewer-length f.waiting, fewer-length f.started))

start_at-less : (t : ℕ) (q : Queue) → (to_come (start_at t q).queue ≤ to_come q) ×
    (0 < count (starts_at t) q.waiting → to_come (start_at t q).queue < to_come q)
unfolding start_at
start_at-less t q =
    let i = place (starts_at t) q.waiting in
    let u = with_waiting (remove_at i q.waiting) q in
    by (λ (r : Turn). (to_come r.queue ≤ to_come q) × (0 < count (starts_at t) q.waiting → to_come r.queue < to_come q))
    (ltb i (length q.waiting)) _ _
    (λ e. let l = length-remove_at i q.waiting (ltb-true i (length q.waiting) e) in
    let m = launched-less (get_or q.waiting i empty) u in
    (omega arith, λ h. omega arith))
    (λ e. (omega arith, λ h. absurd (omega (arith, place_none (starts_at t) q.waiting (ltb-false i (length q.waiting) e)))))

pub instant-less : (t : ℕ) (q : Queue) → 0 < meets t q → to_come (instant t q).queue < to_come q
unfolding instant and_then end_at
instant-less t q h =
    let u = (end_at t q).queue in
    let a = start_at-less t u in
    let l = length-split (ends_at t) q.started in
    let k = length-keep (ends_at t) q.started in
    go (ltb 0 (count (starts_at t) q.waiting)) refl a l k
  where
    u : Queue
    u = (end_at t q).queue

    go : (b : Bool) → ltb 0 (count (starts_at t) q.waiting) ≡ b
        → (to_come (start_at t u).queue ≤ to_come u) × (0 < count (starts_at t) q.waiting → to_come (start_at t u).queue < to_come u)
        → length q.started ≡ length (keep (ends_at t) q.started) + length (omit (ends_at t) q.started)
        → length (keep (ends_at t) q.started) ≡ count (ends_at t) q.started
        → to_come (start_at t u).queue < to_come q
    go true e a l k = omega (arith, a.1 (ltb-true 0 (count (starts_at t) q.waiting) e))
    go false e a l k = omega (arith, tests, a.0)

-- from the time now to the instant t
abbrev pub moved : ℕ → ℕ → Queue → Turn
moved now t q = instant t (elapse (t - now) q)

pub moved-less : (now until : ℕ) (t : Ninths) (q : Queue) → not_after until (due q) ≡ Some t → to_come (moved now t.0 q).queue < to_come q
moved-less now until t q e =
    let m = due-meets until t q e in
    let d = t.0 - now in
    omega (arith, instant-less t.0 (elapse d q) (omega (arith, elapse-meets t.0 d q)), elapse-to_come t.0 d q)

pub none-due : (t : ℕ) (q : Queue) → to_come q ≤ 0 → Due t q
none-due t q h = go q.waiting q.started h
  where
    go : (w k : List Session) → 2 * length w + length k ≤ 0 → Due t (record { waiting = w; started = k; lately = q.lately })
    go [] [] h = record { starts = tt; ends = tt }
    go [] (s ∷ k) h = absurd (omega arith)
    go (s ∷ w) k h = absurd (omega arith)

pub due-none : (q : Queue) → to_come q ≤ 0 → due q ≡ None
unfolding due
due-none q h = rw (earliest-none (λ s. s.end) q.started (omega arith), earliest-none (λ s. s.start) q.waiting (omega arith))

-- ## The definition of a tick, an instant at a time

pub run-stop : (n now until : ℕ) (q : Queue) → not_after until (due q) ≡ None → run n now until q ≡ quiet (elapse (until - now) q)
unfolding run
run-stop zero now until q e = refl
run-stop (suc n) now until q e = rw e

pub run_more : (n now until : ℕ) (t : Ninths) (q : Queue) → not_after until (due q) ≡ Some t
    → run (suc n) now until q ≡ and_then (moved now t.0 q) (run n t.0 until)
unfolding run
run_more n now until t q e = rw e

-- a fact of what follows, from the fact of each case
pub by_next : {A : Type 0} (P : A → Type 0) (f : ℕ → A) (x : A) (a : Option Ninths) → ((t : Ninths) → a ≡ Some t → P (f t.0))
    → (a ≡ None → P x)
    → P (onwards f x a)
by_next P f x (Some t) g h = g t refl
by_next P f x None g h = h refl

-- ## A tick is never cut short: more instants change nothing

then_same : (t : Turn) (f g : Queue → Turn) → f t.queue ≡ g t.queue → and_then t f ≡ and_then t g
unfolding and_then
then_same t f g e = rw e

pub run-enough : (m n now until : ℕ) (q : Queue) → to_come q ≤ m → to_come q ≤ n → run m now until q ≡ run n now until q
run-enough zero n now until q f g = let e : not_after until (due q) ≡ None = rw (due-none q f) in
    run-stop zero now until q e ∙ sym (run-stop n now until q e)
run-enough (suc m) zero now until q f g = let e : not_after until (due q) ≡ None = rw (due-none q g) in
    run-stop (suc m) now until q e ∙ sym (run-stop zero now until q e)
run-enough (suc m) (suc n) now until q f g = go (not_after until (due q)) refl (λ t. run-enough m n t until (moved now t q).queue)
  where
    go : (a : Option Ninths) → not_after until (due q) ≡ a
        → ((t : ℕ) → to_come (moved now t q).queue ≤ m → to_come (moved now t q).queue ≤ n
        → run m t until (moved now t q).queue ≡ run n t until (moved now t q).queue)
        → run (suc m) now until q ≡ run (suc n) now until q
    go (Some t) e ih =
        let l = moved-less now until t q e in
        run_more m now until t q e ∙ then_same (moved now t.0 q) (run m t.0 until) (run n t.0 until)
        (ih t.0 (omega arith) (omega arith)) ∙ sym (run_more n now until t q e)
    go None e ih = run-stop (suc m) now until q e ∙ sym (run-stop (suc n) now until q e)

pub run_all-enough : (n now until : ℕ) (q : Queue) → to_come q ≤ n → run_all now until q ≡ run n now until q
unfolding run_all
run_all-enough n now until q h = run-enough (to_come q) n now until q (omega arith) h

-- ## What instants keep, a tick keeps

-- J: a fact of a time and the sessions held then
module _ (J : ℕ → Queue → Type 0)
    (waits : (now until : ℕ) (q : Queue) → now ≤ until → Due (suc until) q → J now q → J until (elapse (until - now) q))
    (moves : (now t : ℕ) (q : Queue) → Due t q → 0 < meets t q → J now q → J t (instant t (elapse (t - now) q)).queue) where
  run-through : (n now until : ℕ) (q : Queue) → to_come q ≤ n → now ≤ until → J now q → J until (run n now until q).queue
  unfolding run and_then
  run-through zero now until q f le h = waits now until q le (none-due (suc until) q f) h
  run-through (suc n) now until q f le h =
      by_next (λ (r : Turn). J until r.queue) _ _ (not_after until (due q))
      (λ t e. let l = moved-less now until t q e in
      run-through n t.0 until (moved now t.0 q).queue (omega arith) (due-time until t q e)
      (moves now t.0 q (due-first until t q e) (due-meets until t q e) h))
      (λ e. waits now until q le (due-last until q e) h)

  pub tick-through : (now until : ℕ) (q : Queue) → now ≤ until → J now q → J until (run_all now until q).queue
  unfolding run_all
  tick-through now until q le h = run-through (to_come q) now until q (omega arith) le h

-- L: a law of a piece of work, which one piece after another keeps
module _ (L : Queue → Turn → Type 0)
    (elapses : (d : ℕ) (q : Queue) → L q (quiet (elapse d q)))
    (instants : (t : ℕ) (q : Queue) → L q (instant t q))
    (joins : (q : Queue) (t u : Turn) → L q t → L t.queue u → L q (record { queue = u.queue; written = t.written ++ u.written }))
  where
    pub run-law : (n now until : ℕ) (q : Queue) → L q (run n now until q)
    unfolding run and_then
    run-law zero now until q = elapses (until - now) q
    run-law (suc n) now until q =
        by_next (L q) _ _ (not_after until (due q))
        (λ t e. joins q (moved now t.0 q) (run n t.0 until (moved now t.0 q).queue)
        (joins q (quiet (elapse (t.0 - now) q)) (moved now t.0 q) (elapses (t.0 - now) q) (instants t.0 (elapse (t.0 - now) q)))
        (run-law n t.0 until (moved now t.0 q).queue))
        (λ e. elapses (until - now) q)

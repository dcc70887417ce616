-- Starts, ends, the time on air, the next instant and a tick over verdicts are those of the two ordered lists. Assumes nothing.
use mathlib.Core.Path.{◌≡◌, refl, sym, ap, ap₂, fun_ext, ◌∙◌}
use mathlib.Core.Bool.{Bool, true, false, cond, not, ◌&&◌, ◌||◌}
use mathlib.Core.List.{List, [], ◌∷◌}
use Prim.Native.Nat.{ℕ, zero, suc, ◌+◌, ◌-◌, ◌*◌, ◌≤◌, ◌<◌}
use native.Mathlib.Omega.{arith}
use lib.Dec.{eqb, ltb}
use lib.ListN.{length, get_or, set, length-append, length-set}
use lib.Seq.{get_or-set_same, get_or-set_other}
use borrow.Author.Tests.{ltb-true, ltb-false, lt-ltb, le-ltb, eqb-true, eqb-false}
use Rattle.rules.specs.declared.Session.{Session}
use Rattle.rules.specs.declared.Ending.{Ending}
use Rattle.rules.specs.declared.Ending.TheVariants.{Complete, Failed}
use Rattle.rules.specs.Lists.{All, bit, some, count, place, remove_at}
use Rattle.rules.specs.Request.{nobody}
use Rattle.rules.specs.State as state
use Rattle.rules.specs.State.{Queue, empty, follows, starts_at, ends_at, sooner, earliest, not_after, held, to_come, with_waiting}
use Rattle.rules.specs.State.{with_started}
use Rattle.rules.specs.Recent.{remembered_all}
use Rattle.rules.specs.Ends as ends
use Rattle.rules.specs.Ends.{ended, past}
use Rattle.rules.specs.Instants as instants
use Rattle.rules.specs.Instants.{outranks, began, playing, onwards}
use Rattle.rules.specs.Follows.Sound.{Falling, Proper, Holding}
use Rattle.rules.proofs.Tests.{clash, by, and_both}
use Rattle.rules.proofs.All.{all-into}
use Rattle.rules.proofs.Count.{place-holds}
use Rattle.rules.proofs.Every.{none-some, all_keep, fewer-remove_at, fewer-keep}
use Rattle.rules.proofs.Ranked.{fewer-falling, falling-on_air}
use Rattle.rules.proofs.Timed.{sorted-single}
use Rattle.rules.proofs.Tick.{run_all-enough, all-on_air}
use Rattle.rules.proofs.Held.{proper-plays}
use Rattle.rules.proofs.Priors.{Orderly, orderly-fewer}
use Rattle.rules.proofs.Sound.{holding-next}
use Rattle.recall_rules.specs.Verdicts.{Phase, Out, Waits, Started, Ended, is_waiting, has_started, is_held, Verdict, none, verdict}
use Rattle.recall_rules.specs.Verdicts.{standing, stands, which, session_of, turned, as_ended, over, Same, Shows}
use Rattle.recall_rules.specs.Work.{Walk, Turn, quiet, and_then, walk, higher, airs, on_air, as_was, dismissed, may_start, ousted}
use Rattle.recall_rules.specs.Work.{started, failed, launched, start_at, end_at, instant, elapse, due, run, run_all}
use Rattle.recall_rules.proofs.Same.{same_some, same-earliest, same_length}
use Rattle.recall_rules.proofs.Found.{length-standing, count_set, found, same, passes, there, left, others, shows-held}
use Rattle.recall_rules.proofs.Lately.{more-set, more-over, more-started, started-unended, found-unended, kept_more, kept_same}
use Rattle.recall_rules.proofs.Leaving.{same_not, started-apart, falling-ordered, leads, leads-first, started-same}
use Rattle.recall_rules.proofs.Ends.{SameTurn, then_same, chosen, Fit, fit, without-out, without_end, has-number, dismissed-same}
use Rattle.recall_rules.proofs.Ends.{endings-same}
use Rattle.std.specs.Prelude.{None, Option, Some}
use Rattle.rules.specs.declared.Ninths.{Ninths}

-- ## The one on air

-- the one than which none is higher is the first of those that fall
module _ (l : List Verdict) (k : List Session) (e : Same (standing has_started l) k) (o : Falling k) where
  calm : (s : Session) → higher s s ≡ false
  calm s = same_not s.access

  airs-leads : airs l ≡ leads higher calm (λ s. true) k
  airs-leads = fun_ext (λ s. ap not (same_some (λ u. higher u s) (standing has_started l) k e))

  pub top-place : place (airs l) k ≡ 0
  unfolding place
  top-place = rw airs-leads (leads-first higher calm (λ s. true) k (falling-ordered k o)).0 ∙ any-first k
    where
      any-first : (k : List Session) → place (λ s. true) k ≡ 0
      any-first [] = refl
      any-first (s ∷ k) = refl

  pub top_one : count (airs l) k ≤ 1
  top_one = rw airs-leads (leads-first higher calm (λ s. true) k (falling-ordered k o)).1

-- ## Start

-- one that outranks the highest outranks all
may-start : (s : Session) (l : List Verdict) (k : List Session) → Same (standing has_started l) k → Falling k
    → may_start s l ≡ instants.may_start s k
unfolding may_start instants.may_start
may-start s l k e o = rw (
  same_some (λ u. true) (standing has_started l) k e,
  same_some (λ u. not (outranks s u)) (standing has_started l) k e,
) (go k o)
  where
    go : (k : List Session) → Falling k → (not (some (λ u. true) k) || (eqb s.overrides 1 && not (some (λ u. not (outranks s u)) k)))
        ≡ instants.may_start s k
    go [] o = refl
    go (a ∷ k) o = ap (λ b. eqb s.overrides 1 && b) (top (outranks s a) refl)
      where
        top : (b : Bool) → outranks s a ≡ b → not (not b || some (λ u. not (outranks s u)) k) ≡ b
        top true f =
            rw (none-some (λ u. not (outranks s u)) k (all-into (λ u. u.access < a.access) (λ u. not (outranks s u) ≡ false)
            (λ u h. let g = ltb-true a.access (s.access + s.overrides) f in
            rw (lt-ltb u.access (s.access + s.overrides) (omega arith))) k o.0))
        top false f = refl

-- ## 02, CR 4: the equal one on air ends at once

pub ousted-same : (s : Session) (l : List Verdict) (q : Queue) → Shows l q → Orderly q.waiting → Falling q.started
    → All Proper q.started
    → SameTurn (ousted s l) (instants.ousted s q)
unfolding ousted instants.ousted instants.meets_equal remove_at
ousted-same s l q e w o p = go q.started e.started o p
  where
    i : ℕ
    i = on_air l

    go : (k : List Session) → Same (standing has_started l) k → Falling k → All Proper k
        → SameTurn (ousted s l) (instants.ousted s (with_started k q))
    go [] g o p = rw (found has_started (airs l) l [] g, le-ltb (place (airs l) []) 0 (omega arith))
        (record { written = refl; shows = record { waiting = e.waiting; started = g; lately = e.lately; numbered = e.numbered } })
    go (a ∷ k) g o p =
        let at = top-place l (a ∷ k) g o in
        let one = top_one l (a ∷ k) g o in
        let f : ltb i (length l) ≡ true = found has_started (airs l) l (a ∷ k) g
        ∙ lt-ltb (place (airs l) (a ∷ k)) (length (a ∷ k)) (omega (arith, at)) in
        let m = ltb-true i (length l) f in
        let u = session_of l i in
        let x : a ≡ u = rw at at (same has_started (airs l) l (a ∷ k) g one m) in
        let b = more-over (Complete 125) l i m (found-unended has_started (airs l) l started-unended m) e.numbered in
        let y = (ends.ending (ends.one_end (Complete 125) u) (with_started k q)).queue in
        let v : Shows (over (Complete 125) i l) y = record {
          waiting = λ r. omega (
            arith,
            e.waiting r,
            others has_started is_waiting (airs l) l (verdict (as_ended (Complete 125) u l) u)
                started-apart m r,
          );
          started = rw at at (left has_started (airs l) l (a ∷ k) g one m (as_ended (Complete 125) u l) refl);
          lately = kept_more l _ q _ e b;
          numbered = b.numbered;
        } in
        let z : eqb u.id nobody ≡ false = rw (← x) p.0.somebody in
        rw (f, x)
        (chosen SameTurn (eqb u.access s.access) _ _ _ _
        (λ h. then_same _ _ (dismissed 125 u.conn u.id) (ends.dismissed 125 u.conn u.id) (record { written = refl; shows = v })
        (dismissed-same 125 u.conn u.id (over (Complete 125) i l) y v w z))
        (λ h. record {
          written = refl;
          shows = record {
            waiting = e.waiting;
            started = rw x at g;
            lately = e.lately;
            numbered =
                e.numbered;
          };
        }))

-- what is not held stays as it is
pub record Stays (l m : List Verdict) : Type 0 where
  pub long : length m ≡ length l
  pub out : (i : ℕ) → is_held (get_or l i none).phase ≡ false → get_or m i none ≡ get_or l i none

stays_then : (l m n : List Verdict) → Stays l m → Stays m n → Stays l n
stays_then l m n a b = record { long = b.long ∙ a.long; out = λ i e. b.out i (rw (a.out i e) e) ∙ a.out i e }

waiting-held : (f : Phase) → is_waiting f ≡ true → is_held f ≡ true
waiting-held Out e = e
waiting-held Waits e = refl
waiting-held Started e = refl
waiting-held (Ended n r) e = e

started-held : (f : Phase) → has_started f ≡ true → is_held f ≡ true
started-held Out e = e
started-held Waits e = refl
started-held Started e = refl
started-held (Ended n r) e = e

-- the one that is found stands otherwise
stays-turned : (h : Phase → Bool) (p : Session → Bool) (l : List Verdict) (f : Phase) → ((g : Phase) → h g ≡ true → is_held g ≡ true)
    → which h p l < length l → Stays l (turned (which h p l) f l)
stays-turned h p l f up k = record { long = length-set l j (verdict f (session_of l j)); out = λ i e. go i (eqb i j) refl e }
  where
    j : ℕ
    j = which h p l

    is-held : is_held (get_or l j none).phase ≡ true
    is-held = up (get_or l j none).phase (and_both (h (get_or l j none).phase) (p (session_of l j)) (place-holds (stands h p) l none k)).0

    go : (i : ℕ) (b : Bool) → eqb i j ≡ b → is_held (get_or l i none).phase ≡ false → get_or (turned j f l) i none ≡ get_or l i none
    go i true g e = absurd (clash _ is-held (rw (eqb-true i j g) at e))
    go i false g e = get_or-set_other l j i (verdict f (session_of l j)) none (eqb-false i j g)

stays-walk : (how : Ending) (n c x : ℕ) (l : List Verdict) → Stays l (walk how n c x l).left
unfolding walk
stays-walk how zero c x l = record { long = refl; out = λ i e. refl }
stays-walk how (suc n) c x l = by (λ (w : Walk). Stays l w.left) (ltb j (length l)) _ _
    (λ e. stays_then l (over how j l) _ (stays-turned is_waiting (follows c x) l (as_ended how (session_of l j) l) waiting-held
    (ltb-true j (length l) e)) (stays-walk how n c (session_of l j).id (over how j l))) (λ e. record { long = refl; out = λ i e. refl })
  where
    j : ℕ
    j = which is_waiting (follows c x) l

stays-ousted : (s : Session) (l : List Verdict) → Stays l (ousted s l).verdicts
unfolding ousted and_then dismissed
stays-ousted s l =
    by (λ (t : Turn). Stays l t.verdicts) (ltb i (length l) && eqb (session_of l i).access s.access) _ _
    (λ e. stays_then l (over (Complete 125) i l) _
    (stays-turned has_started (airs l) l (as_ended (Complete 125) (session_of l i) l) started-held
    (ltb-true i (length l) (and_both (ltb i (length l)) _ e).0)) (stays-walk _ _ _ _ (over (Complete 125) i l)))
    (λ e. record { long = refl; out = λ i e. refl })
  where
    i : ℕ
    i = on_air l

-- call i, which is about to start, has started
pub onto : (i : ℕ) (s : Session) (m : List Verdict) (u : Queue) → Shows m u → i < length m → (get_or m i none).phase ≡ Out
    → Shows (set m i (verdict Started s)) (with_started (s ∷ u.started) u)
onto i s m u e k z =
    let a = more-set m i (verdict Started s) k (rw z) e.numbered refl in
    record {
      waiting = λ r. omega (arith, e.waiting r, count_set is_waiting r m i (verdict Started s) k, not-waiting r);
      started = λ r. omega (arith, e.started r, count_set has_started r m i (verdict Started s) k, not-started r);
      lately = kept_same m _ u e a;
      numbered = a.numbered;
    }
  where
    not-waiting : (r : Session → Bool) → bit (is_waiting (get_or m i none).phase && r (session_of m i)) ≡ 0
    not-waiting r = rw z

    not-started : (r : Session → Bool) → bit (has_started (get_or m i none).phase && r (session_of m i)) ≡ 0
    not-started r = rw z

pub start_at-same : (t : ℕ) (l : List Verdict) (q : Queue) → Shows l q → Fit q → All Proper q.started
    → SameTurn (start_at t l) (instants.start_at t q)
unfolding start_at launched started failed instants.start_at instants.launched
start_at-same t l q e f p =
    rw (← (found is_waiting (starts_at t) l q.waiting e.waiting))
    (chosen SameTurn (ltb i (length l)) _ _ _ _ (λ g. one (ltb-true i (length l) g)) (λ g. record { written = refl; shows = e }))
  where
    i : ℕ
    i = which is_waiting (starts_at t) l

    j : ℕ
    j = place (starts_at t) q.waiting

    s : Session
    s = session_of l i

    v : Queue
    v = with_waiting (remove_at j q.waiting) q

    w : Orderly v.waiting
    w = orderly-fewer q.waiting _ (fewer-remove_at j q.waiting) f.orderly

    c : count (starts_at t) q.waiting ≤ 1
    c = sorted-single t q.waiting f.sorted

    -- it goes on air
    goes : i < length l → SameTurn (started i l) (ends.and_then (instants.ousted s v)
        (λ u. ends.writes (began s ∷ []) (with_started (s ∷ u.started) u)))
    goes k =
        let n = turned i Out l in
        let a = ousted-same s n v (without-out (starts_at t) l q e c k) w f.falling p in
        let b = stays-ousted s n in
        let g = get_or-set_same l i (verdict Out s) none k in
        then_same _ _ _ _ a
        (record {
          written = refl;
          shows = onto i s _ _ a.shows (omega (arith, b.long, length-set l i (verdict Out s)))
              (ap (λ (x : Verdict). x.phase) (b.out i (rw g) ∙ g));
        })

    -- it fails
    fails : i < length l → SameTurn (failed i l) (instants.failed s v)
    fails k =
        let y = without_end (starts_at t) l q e c k Failed in
        then_same _ _ (dismissed 109 s.conn s.id) (ends.dismissed 109 s.conn s.id) (record { written = refl; shows = y })
        (dismissed-same 109 s.conn s.id (over Failed i l) _ y w (has-number (starts_at t) l q e c k f.orderly))

    one : i < length l → SameTurn (launched i l) (instants.launched (get_or q.waiting j empty) v)
    one k =
        rw (same is_waiting (starts_at t) l q.waiting e.waiting c k, ← (may-start s l q.started e.started f.falling))
        (chosen SameTurn (may_start s l) _ _ _ _ (λ g. goes k) (λ g. fails k))

-- ## Ends

pub end_at-same : (t : ℕ) (l : List Verdict) (q : Queue) → Shows l q → Falling q.started → SameTurn (end_at t l) (instants.end_at t q)
unfolding end_at instants.end_at
end_at-same t l q e o =
    let a = started-same (ends_at t) l q.started (as_was (Complete 100) (Complete 125) l) e.started o in
    let b = more-started (ends_at t) (as_was (Complete 100) (Complete 125) l) l e.numbered in
    record {
      written = endings-same (Complete 100) (Complete 125) ended (ends_at t) l q.started e.started o;
      shows = record {
        waiting = λ r. a.others r ∙ e.waiting r;
        started = a.left;
        lately = ap (λ x. remembered_all x q.lately) (sym (endings-same (Complete 100) (Complete 125) past (ends_at t) l q.started
            e.started o)) ∙ kept_more l _ q _ e b;
        numbered = b.numbered;
      };
    }

pub instant-same : (t : ℕ) (l : List Verdict) (q : Queue) → Shows l q → Fit q → All Proper q.started
    → SameTurn (instant t l) (instants.instant t q)
unfolding instant instants.instant instants.end_at
instant-same t l q e f p =
    let a = end_at-same t l q e f.falling in
    let late : Session → Bool = λ s. not (ends_at t s) in
    then_same _ _ (start_at t) (instants.start_at t) a
    (start_at-same t _ _ a.shows (record {
      sorted = f.sorted;
      orderly = f.orderly;
      falling =
          fewer-falling (fewer-keep late q.started) f.falling;
    })
    (all_keep Proper late q.started p))

-- ## The time on air

pub elapse-same : (d : ℕ) (l : List Verdict) (q : Queue) → Shows l q → Falling q.started → Shows (elapse d l) (instants.elapse d q)
unfolding elapse instants.elapse instants.on_air
elapse-same d l q e o = go (ltb i (length l)) refl q.started e.started o
  where
    i : ℕ
    i = on_air l

    s : Session
    s = session_of l i

    go : (b : Bool) → ltb i (length l) ≡ b → (k : List Session) → Same (standing has_started l) k → Falling k
        → Shows (cond b (set l i (verdict Started (playing d s))) l) (with_started (instants.on_air d k) q)
    go true f [] g o = absurd (omega (arith, there has_started (airs l) l [] g (omega arith) (ltb-true i (length l) f)))
    go true f (a ∷ k) g o =
        let m = ltb-true i (length l) f in
        let one = top_one l (a ∷ k) g o in
        let x : a ≡ s = rw (top-place l (a ∷ k) g o) at (same has_started (airs l) l (a ∷ k) g one m) in
        let b = more-set l i (verdict Started (playing d s)) m (found-unended has_started (airs l) l started-unended m) e.numbered refl in
        record {
          waiting = λ r. omega (
            arith,
            e.waiting r,
            others has_started is_waiting (airs l) l (verdict Started (playing d s)) started-apart m
                r,
          );
          started = λ r. omega (
            arith,
            g r,
            count_set has_started r l i (verdict Started (playing d s)) m,
            was one m r,
            ap (λ y. bit (r y)) x,
            ap (λ y. bit (r (playing d y))) x,
          );
          lately = kept_same l _ q e b;
          numbered = b.numbered;
        }
      where
        was : count (airs l) (a ∷ k) ≤ 1 → i < length l → (r : Session → Bool) → bit (stands has_started r (get_or l i none)) ≡ bit (r s)
        was one m r = rw (passes has_started (airs l) l (a ∷ k) g one m).0
    go false f [] g o = record { waiting = e.waiting; started = g; lately = e.lately; numbered = e.numbered }
    go false f (a ∷ k) g o = absurd (omega (
      arith,
      ltb-false (place (airs l) (a ∷ k)) (length (a ∷ k))
          (sym (found has_started (airs l) l (a ∷ k) g) ∙ f),
      top-place l (a ∷ k) g o,
    ))

-- ## The next instant

pub due-same : (l : List Verdict) (q : Queue) → Shows l q → due l ≡ state.due q
unfolding due state.due
due-same l q e =
    ap₂ sooner (same-earliest (λ s. s.end) (standing has_started l) q.started e.started)
    (same-earliest (λ s. s.start) (standing is_waiting l) q.waiting e.waiting)

-- ## A tick

pub fit-elapse : (d : ℕ) (q : Queue) → Fit q → Fit (instants.elapse d q)
unfolding instants.elapse
fit-elapse d q f = record { sorted = f.sorted; orderly = f.orderly; falling = falling-on_air d q.started f.falling }

pub proper-elapse : (d : ℕ) (q : Queue) → All Proper q.started → All Proper (instants.elapse d q).started
unfolding instants.elapse
proper-elapse d q p = all-on_air Proper proper-plays d q.started p

run-same : (n now until : ℕ) (l : List Verdict) (q : Queue) → Shows l q → Holding now q
    → SameTurn (run n now until l) (instants.run n now until q)
unfolding run instants.run
run-same zero now until l q e h = record { written = refl; shows = elapse-same (until - now) l q e h.falling }
run-same (suc n) now until l q e h = rw (due-same l q e) (go (not_after until (state.due q)) refl (λ t. run-same n t until))
  where
    Next : Option Ninths → Type 0
    Next a =
        SameTurn (onwards (λ t. and_then (instant t (elapse (t - now) l)) (run n t until)) (quiet (elapse (until - now) l)) a)
        (onwards (λ t. ends.and_then (instants.instant t (instants.elapse (t - now) q)) (instants.run n t until))
        (ends.quiet (instants.elapse (until - now) q)) a)

    go : (a : Option Ninths) → not_after until (state.due q) ≡ a
        → ((t : ℕ) (m : List Verdict) (v : Queue) → Shows m v → Holding t v → SameTurn (run n t until m) (instants.run n t until v))
        → Next a
    go None f ih = record { written = refl; shows = elapse-same (until - now) l q e h.falling }
    go (Some t) f ih =
        let d = t.0 - now in
        let a = instant-same t.0 (elapse d l) (instants.elapse d q) (elapse-same d l q e h.falling) (fit-elapse d q (fit h))
        (proper-elapse d q h.proper.started) in
        then_same _ _ (run n t.0 until) (instants.run n t.0 until) a (ih t.0 _ _ a.shows (holding-next now until t q f h))

pub run_all-same : (now until : ℕ) (l : List Verdict) (q : Queue) → Shows l q → Holding now q
    → SameTurn (run_all now until l) (instants.run_all now until q)
unfolding run_all
run_all-same now until l q e h = rw (run_all-enough (2 * length l) now until q enough) (run-same (2 * length l) now until l q e h)
  where
    enough : to_come q ≤ 2 * length l
    enough = omega (
      arith,
      same_length (standing is_held l) (held q) (shows-held l q e),
      length-standing is_held l,
      length-append q.waiting q.started,
    )

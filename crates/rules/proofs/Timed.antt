-- Times: the waiting are in order of start, no two alike, all after the clock; all ends are after it; a tick is never cut short.
-- Assumes nothing.
use mathlib.Core.Path.{◌≡◌, refl, ap, sym, ◌∙◌}
use mathlib.Core.Bool.{Bool, true, false, not}
use mathlib.Core.List.{List, [], ◌∷◌}
use Prim.Native.Nat.{ℕ, suc, ◌+◌, ◌-◌, ◌*◌, ◌≤◌, ◌<◌}
use native.Mathlib.Omega.{arith}
use lib.Dec.{ltb}
use lib.ListN.{length, get_or}
use borrow.Author.Tests.{eqb-true, eqb-false, ne_eqb, not-true, not-false, ltb-false, ltb-true}
use Rattle.rules.specs.declared.Session.{Session}
use Rattle.rules.specs.declared.Ending.TheVariants.{Response}
use Rattle.rules.specs.declared.Start.{Start}
use Rattle.rules.specs.declared.Start.TheVariants.{Timed, Linked}
use Rattle.rules.specs.declared.Request.{Request}
use Rattle.rules.specs.Lists.{bit, count, place, remove_at}
use Rattle.rules.specs.State.{due, not_after, Queue, Splicer, empty, is, starts_at, ends_at, held, holds, with_waiting}
use Rattle.rules.specs.Ends.{Turn, and_then, ending, one_end, evicted_at, evicted}
use Rattle.rules.specs.Instants.{may_start, ousted, launched, start_at, end_at, instant, elapse, run_all}
use Rattle.rules.specs.Splicing.{end_of, start_of, session_at, requested, unknown_prior, too_late, accepted}
use Rattle.rules.specs.Calls.{Call, after, fresh}
use Rattle.rules.proofs.Tests.{tests, by}
use Rattle.rules.proofs.All.{All, all-into}
use Rattle.rules.proofs.Count.{count-remove_at, place-holds, place_none, some-place}
use Rattle.rules.proofs.Every.{all_both, all-kept, all_get_d, all_none, none-all, Fewer, fewer-remove_at, fewer-all, fewer-count}
use Rattle.rules.proofs.Every.{Sorted, fewer-sorted, sorted-inserted, all_inserted, Each, FewerHeld, all_held}
use Rattle.rules.proofs.Leaving.{dismissed-fewer, failed-fewer, ousted-fewer, evicted-fewer, aborted-fewer, closed_by-fewer}
use Rattle.rules.proofs.Tick.{due-time, due-meets, Due, meets, all-on_air, elapse-due, tick-through}
use Rattle.rules.proofs.Always.{Admitted, grants, KeptHeld, held-always}
pub use Rattle.rules.specs.Follows.Sound.{Later, OnTime}
use Rattle.std.specs.Prelude.{None, Option, Some}
use Rattle.rules.specs.declared.Ninths.{Ninths}

pub timed-fewer : (now : ℕ) (q r : Queue) → FewerHeld q r → OnTime now q → OnTime now r
timed-fewer now q r f h =
    record {
      sorted = fewer-sorted f.waiting h.sorted;
      later = fewer-all (Later now) f.waiting h.later;
      ends =
          fewer-all (λ s. now < s.end.0) f.started h.ends;
    }

-- ## One start at a time

pub sorted-single : (t : ℕ) (w : List Session) → Sorted w → count (starts_at t) w ≤ 1
sorted-single t [] o = omega arith
sorted-single t (s ∷ w) o = go (starts_at t s) refl (sorted-single t w o.1)
  where
    none : (w : List Session) → starts_at t s ≡ true → All (λ u. s.start.0 < u.start.0) w → count (starts_at t) w ≡ 0
    none [] e a = refl
    none (u ∷ w) e a = one (starts_at t u) refl (none w e a.1)
      where
        one : (b : Bool) → starts_at t u ≡ b → count (starts_at t) w ≡ 0 → bit b + count (starts_at t) w ≡ 0
        one true f ih = absurd (omega (arith, tests, a.0))
        one false f ih = omega arith

    go : (b : Bool) → starts_at t s ≡ b → count (starts_at t) w ≤ 1 → bit b + count (starts_at t) w ≤ 1
    go true e ih = omega (arith, none w e o.0)
    go false e ih = omega arith

-- without the one that starts at t, none does
module _ (t : ℕ) (w : List Session) (o : Sorted w) where
  pub starts-removed : place (starts_at t) w < length w → count (starts_at t) (remove_at (place (starts_at t) w) w) ≡ 0
  starts-removed h =
      omega (
        arith,
        sorted-single t w o,
        count-remove_at (starts_at t) (place (starts_at t) w) w empty h,
        ap bit (place-holds (starts_at t) w empty h),
      )

pub evicted-free : (t : ℕ) (q : Queue) → Sorted q.waiting → count (starts_at t) (evicted t q).queue.waiting ≡ 0
unfolding evicted evicted_at and_then
evicted-free t q o =
    let i = place (starts_at t) q.waiting in
    by (λ (r : Turn). count (starts_at t) r.queue.waiting ≡ 0) (ltb i (length q.waiting)) _ _
    (λ e. let s = get_or q.waiting i empty in
    let u = (ending (one_end (Response 109) s) (with_waiting (remove_at i q.waiting) q)).queue in
    omega (
      arith,
      starts-removed t q.waiting o (ltb-true i (length q.waiting) e),
      fewer-count (starts_at t) (dismissed-fewer u 109 s.conn s.id).waiting,
    ))
    (λ e. place_none (starts_at t) q.waiting (ltb-false i (length q.waiting) e))

-- ## An instant

-- those that start at t or later, and none at t, start after it
pub after-t : (t : ℕ) (w : List Session) → All (λ s. t ≤ s.start.0) w → count (starts_at t) w ≡ 0 → All (λ s. t < s.start.0) w
after-t t w a e =
    all-into (λ s. (t ≤ s.start.0) × (starts_at t s ≡ false)) (λ s. t < s.start.0)
    (λ s h. let n = eqb-false t s.start.0 h.1 in omega (arith, h.0)) w
    (all_both (λ s. t ≤ s.start.0) (λ s. starts_at t s ≡ false) w a (all_none (starts_at t) w e))

later-at : (now t : ℕ) (w : List Session) → All (Later now) w → All (λ s. t < s.start.0) w → All (Later t) w
later-at now t w a b =
    all-into (λ s. Later now s × (t < s.start.0)) (Later t) (λ s h. (h.1, h.0.1)) w (all_both (Later now) (λ s. t < s.start.0) w a b)

module _ (t : ℕ) where
  launched-timed : (s : Session) (q : Queue) → OnTime t q → t < s.end.0 → OnTime t (launched s q).queue
  unfolding launched and_then
  launched-timed s q h e =
      by (λ (r : Turn). OnTime t r.queue) (may_start s q.started) _ _
      (λ f. let k = timed-fewer t q (ousted s q).queue (ousted-fewer s q) h in
      record { sorted = k.sorted; later = k.later; ends = (e, k.ends) })
      (λ f. timed-fewer t q _ (failed-fewer s q) h)

  start_at-timed : (now : ℕ) (q : Queue) → Sorted q.waiting → All (Later now) q.waiting → All (λ s. t ≤ s.start.0) q.waiting
      → All (λ s. t < s.end.0) q.started
      → OnTime t (start_at t q).queue
  unfolding start_at
  start_at-timed now q o l d k =
      by (λ (r : Turn). OnTime t r.queue) (ltb i (length q.waiting)) _ _
      (λ e. one (ltb-true i (length q.waiting) e))
      (λ e. record {
        sorted = o;
        later = later-at now t q.waiting l
            (after-t t q.waiting d (place_none (starts_at t) q.waiting (ltb-false i (length q.waiting) e)));
        ends = k;
      })
    where
      i : ℕ
      i = place (starts_at t) q.waiting

      s : Session
      s = get_or q.waiting i empty

      f : Fewer q.waiting (remove_at i q.waiting)
      f = fewer-remove_at i q.waiting

      one : i < length q.waiting → OnTime t (launched s (with_waiting (remove_at i q.waiting) q)).queue
      one h =
          let b = eqb-true t s.start.0 (place-holds (starts_at t) q.waiting empty h) in
          let a = all_get_d (Later now) q.waiting i empty h l in
          launched-timed s (with_waiting (remove_at i q.waiting) q)
          (record {
            sorted = fewer-sorted f o;
            later = later-at now t (remove_at i q.waiting) (fewer-all (Later now) f l)
                (after-t t (remove_at i q.waiting) (fewer-all (λ u. t ≤ u.start.0) f d) (starts-removed t q.waiting o h));
            ends = k;
          }) (omega (arith, a.1))

  -- the work of the next instant leaves all that is held after it
  pub instant-timed : (now : ℕ) (q : Queue) → OnTime now q → Due t q → OnTime t (instant t q).queue
  unfolding instant and_then end_at
  instant-timed now q h d =
      start_at-timed now (end_at t q).queue h.sorted h.later d.starts
      (all-kept (λ s. t ≤ s.end.0) (λ s. t < s.end.0) (λ s. not (ends_at t s))
      (λ s i e. let n = eqb-false t s.end.0 (not-true _ e) in omega arith) q.started d.ends)

pub elapse-timed : (now d : ℕ) (q : Queue) → OnTime now q → OnTime now (elapse d q)
unfolding elapse
elapse-timed now d q h = record {
  sorted = h.sorted;
  later = h.later;
  ends =
      all-on_air (λ s. now < s.end.0) (λ e s i. i) d q.started h.ends;
}

pub wait-timed : (now until : ℕ) (q : Queue) → Due (suc until) q → OnTime now q → OnTime until q
wait-timed now until q d h = record { sorted = h.sorted; later = later-at now until q.waiting h.later d.starts; ends = d.ends }

-- what meets an instant is after the clock
pub meets-after : (now t : ℕ) (q : Queue) → OnTime now q → 0 < meets t q → now < t
meets-after now t q h m = go (ltb now t) refl
  where
    none-start : (w : List Session) → t ≤ now → All (Later now) w → count (starts_at t) w ≡ 0
    none-start w le a = none-all (starts_at t) w (all-into (Later now) (λ s. starts_at t s ≡ false)
        (λ s h. ne_eqb t s.start.0 (λ e. omega (arith, h.0))) w a)

    none_end : (k : List Session) → t ≤ now → All (λ s. now < s.end.0) k → count (ends_at t) k ≡ 0
    none_end k le a = none-all (ends_at t) k (all-into (λ s. now < s.end.0) (λ s. ends_at t s ≡ false)
        (λ s h. ne_eqb t s.end.0 (λ e. omega arith)) k a)

    go : (b : Bool) → ltb now t ≡ b → now < t
    go true e = ltb-true now t e
    go false e = let le = ltb-false now t e in absurd (omega (
      arith,
      m,
      none-start q.waiting le h.later,
      none_end q.started le h.ends,
    ))

-- ## The start of a request that is accepted

pub ends_held : (now : ℕ) (q : Queue) → OnTime now q → Each (λ s. now < s.end.0) q
ends_held now q h = record {
  waiting = all-into (Later now) (λ s. now < s.end.0) (λ s i. omega (arith, i.0, i.1)) q.waiting
      h.later;
  started = h.ends;
}

-- the number that a request names is held: what all held ones' ends pass, its end passes
pub end_of-held : (P : ℕ → Type 0) (c p : ℕ) (q : Queue) → holds c p q ≡ true → Each (λ s. P s.end.0) q → P (end_of c p (held q))
end_of-held P c p q e a =
    all_get_d (λ s. P s.end.0) (held q) (place (is c p) (held q)) empty (ltb-true _ _ (sym (some-place (is c p) (held q)) ∙ e))
    (all_held (λ s. P s.end.0) q a)

start-after : (now c : ℕ) (f : Start) (q : Queue) → OnTime now q → unknown_prior c f q ≡ false → too_late now f ≡ false
    → now < start_of c f q
unfolding unknown_prior too_late start_of
start-after now c (Timed t) q h a b = let k = ltb-false (t.0 * 9) (now + 3 * 9000000) b in omega arith
start-after now c (Linked p) q h a b = end_of-held (λ n. now < n) c p q (not-false _ a) (ends_held now q h)

-- ## Every call

pub accept-timed : {F : Call → Type 0} (s : Splicer) (c : ℕ) (r : Request) → Admitted F s c r → OnTime s.clock s.queue
    → OnTime s.clock (accepted (requested c r s.queue) s.queue).queue
unfolding accepted and_then requested session_at
accept-timed s c r a h =
    let q = s.queue in
    let new = requested c r q in
    let t = start_of c r.start q in
    let e = timed-fewer s.clock q (evicted t q).queue (evicted-fewer t q) h in
    let g = grants a in
    let p = a.passed in
    let u = (evicted t q).queue.waiting in
    record {
      sorted = sorted-inserted new u e.sorted (all-into (λ v. starts_at t v ≡ false) (λ v. t ≡ v.start.0 → ⊥)
          (λ v i. eqb-false t v.start.0 i) u (all_none (starts_at t) u (evicted-free t q h.sorted)));
      later = all_inserted (Later s.clock) new u (start-after s.clock c r.start q h p.prior p.soon, omega (arith, g.lasts))
          e.later;
      ends = e.ends;
    }

pub tick-timed : (now until : ℕ) (q : Queue) → now ≤ until → OnTime now q → OnTime until (run_all now until q).queue
tick-timed =
    tick-through OnTime (λ now until q le d h. elapse-timed until (until - now) q (wait-timed now until q d h))
    (λ now t q d m h. instant-timed t now (elapse (t - now) q) (elapse-timed now (t - now) q h) (elapse-due t (t - now) q d))

pub timed-kept : {F : Call → Type 0} → KeptHeld F OnTime
timed-kept =
    record {
      closing = λ now q c h. timed-fewer now q _ (closed_by-fewer c q) h;
      aborting = λ now q c x e h. timed-fewer now q _ (aborted-fewer c x q) h;
      accepting = accept-timed;
      ticking = tick-timed;
    }

pub timed-always : (ks : List Call) (name : List ℕ) → OnTime (after ks (fresh name).splicer).clock (after ks (fresh name).splicer).queue
timed-always = held-always OnTime timed-kept (record { sorted = tt; later = tt; ends = tt })

-- nothing is left that was due: a tick to the present time does nothing
pub nothing-due : (now : ℕ) (q : Queue) → OnTime now q → not_after now (due q) ≡ None
nothing-due now q h = go (not_after now (due q)) refl
  where
    go : (a : Option Ninths) → not_after now (due q) ≡ a → a ≡ None
    go (Some t) e = absurd (omega (arith, meets-after now t.0 q h (due-meets now t q e), due-time now t q e))
    go None e = refl

-- Links hold after every call: abort, close, the instants of a tick, and an acceptance, which never evicts the prior of the new one.
-- Assumes nothing.
use mathlib.Core.Path.{◌≡◌, refl, ap, sym, ◌∙◌}
use mathlib.Core.Bool.{Bool, true, false, not, ◌&&◌}
use mathlib.Core.List.{List, [], ◌∷◌, ◌++◌}
use Prim.Native.Nat.{ℕ, suc, ◌+◌, ◌-◌, ◌≤◌, ◌<◌}
use native.Mathlib.Omega.{arith}
use lib.Dec.{eqb, ltb}
use lib.ListN.{length, get_or}
use borrow.Author.Tests.{eqb-true, eq-eqb, ltb-true, ltb-false, not-true, not-false}
use Rattle.rules.specs.declared.Session.{Session}
use Rattle.rules.specs.declared.Ending.TheVariants.{Failed, Response}
use Rattle.rules.specs.declared.Start.{Start}
use Rattle.rules.specs.declared.Start.TheVariants.{Timed, Linked}
use Rattle.rules.specs.declared.Request.{Request}
use Rattle.rules.specs.Lists.{bit, keep, omit, count, place, remove_at}
use Rattle.rules.specs.Request.{nobody}
use Rattle.rules.specs.State.{Queue, Splicer, empty, of, is, follows, starts_at, ends_at, held, holds, with_waiting, with_started}
use Rattle.rules.specs.Ends.{Turn, Walk, and_then, followers, dismissed, evicted_at, evicted, cancelled, aborted, closed_by, ending}
use Rattle.rules.specs.Ends.{one_end}
use Rattle.rules.specs.Instants.{may_start, meets_equal, ousted, launched, start_at, end_at, instant, elapse, run_all}
use Rattle.rules.specs.Splicing.{start_of, prior_of, session_at, requested, unknown_prior, accepted}
use Rattle.rules.specs.Calls.{Call, fresh, after}
use Rattle.rules.proofs.Tests.{clash, by, failed, and_both, both-and, eqb_same}
use Rattle.rules.proofs.All.{All, all_append, all-into}
use Rattle.rules.proofs.Count.{count-append, count-split, count-other, count-remove_at, place-holds, place_none, some-place, some_one}
use Rattle.rules.proofs.Every.{all_any, all_keep, all_both, all-kept, all_get_d, none-all, all-counted, all_inserted, fewer-keep}
use Rattle.rules.proofs.Every.{fewer-remove_at, fewer-all, Each, all_held}
use Rattle.rules.proofs.Walk.{followed, followers-gone}
use Rattle.rules.proofs.Leaving.{meets-some}
use Rattle.rules.proofs.Always.{Admitted, KeptHeld, held-always}
use Rattle.rules.proofs.Tick.{Due, elapse-due, tick-through}
use Rattle.rules.proofs.Sessions.{held_count, count_held, each-instant, each-elapse, held-instant, held-elapse, held-accepted}
use Rattle.rules.proofs.Timed.{OnTime, timed-kept, instant-timed, elapse-timed, wait-timed, starts-removed, after-t}
use Rattle.rules.proofs.Held.{Proper, proper-plays, proper-kept, Once, once-kept}
use Rattle.rules.proofs.Priors.{is_prior, Tied, tied-more, prior-parts, Orderly, orderly-fewer, followers-after, Chained, orderly}
use Rattle.rules.proofs.Priors.{dismissed-tied}

-- ## Abort

-- a number that is held is one
pub holds-somebody : (c x : ℕ) (q : Queue) → Each Proper q → holds c x q ≡ true → eqb x nobody ≡ false
holds-somebody c x q a e = failed (eqb x nobody) none
  where
    none : eqb x nobody ≡ true → ⊥
    none f =
        let z = none-all (is c x) (held q) (all-into Proper (λ s. is c x s ≡ false)
        (λ s h. failed (is c x s) (λ g. clash (eqb s.id nobody) (rw
        (← (eqb-true x s.id (and_both (eqb c s.conn) (eqb x s.id) g).1)) f) h.somebody)) (held q) (all_held Proper q a)) in
        omega (arith, z, some_one (is c x) (held q) e)

abort-tied : (now : ℕ) (q : Queue) (c x : ℕ) → holds c x q ≡ true → Chained now q
    → All (Tied (held_count (aborted c x q).queue)) (aborted c x q).queue.waiting
unfolding aborted and_then cancelled
abort-tied now q c x e h =
    dismissed-tied 116 c x u l (holds-somebody c x q h.proper e) (orderly-fewer q.waiting u.waiting
    (fewer-keep (λ s. not (is c x s)) q.waiting) (orderly now q h))
    (all_append (λ g. is c x g ≡ true) (keep (is c x) q.waiting) (keep (is c x) q.started) (own q.waiting) (own q.started))
    (tied-more (held_count q) (λ p. count p l + held_count u p) whole u.waiting
    (fewer-all (Tied (held_count q)) (fewer-keep (λ s. not (is c x s)) q.waiting) h.tied))
  where
    u : Queue
    u = (cancelled (is c x) q).queue

    l : List Session
    l = keep (is c x) q.waiting ++ keep (is c x) q.started

    own : (w : List Session) → All (λ g. is c x g ≡ true) (keep (is c x) w)
    own w = all-kept (λ s. Unit {0}) (λ s. is c x s ≡ true) (is c x) (λ s t f. f) w (all_any (λ s. Unit {0}) (λ s. tt) w)

    whole : (p : Session → Bool) → held_count q p ≤ count p l + held_count u p
    whole p =
        omega (
          arith,
          count-append p (keep (is c x) q.waiting) (keep (is c x) q.started),
          count-split p (is c x) q.waiting,
          count-split p (is c x) q.started,
        )

-- ## Close

close-tied : (now : ℕ) (q : Queue) (c : ℕ) → Chained now q → All (Tied (held_count (closed_by c q).queue)) (closed_by c q).queue.waiting
unfolding closed_by cancelled
close-tied now q c h =
    all-kept (Tied (held_count q)) (Tied (held_count (cancelled (of c) q).queue)) (λ s. not (of c s))
    (λ s d k e. stay s d (not-true (of c s) k) e) q.waiting h.tied
  where
    away : (s u : Session) → of c s ≡ false → of c u ≡ true → is_prior s u ≡ false
    away s u k e = failed (is_prior s u) (λ g. clash (of c s) (eq-eqb c s.conn (eqb-true c u.conn e ∙ sym (prior-parts s u g).0)) k)

    stay : (s : Session) → Tied (held_count q) s → of c s ≡ false → eqb s.prior nobody ≡ false
        → 0 < held_count (cancelled (of c) q).queue (is_prior s)
    stay s d k e = omega (
      arith,
      d e,
      count-other (is_prior s) (of c) (λ u f. away s u k f) q.waiting,
      count-other (is_prior s) (of c) (λ u f. away s u k f) q.started,
    )

-- ## An instant

-- those that start after t are tied to none that ends at t
ended-tied : (t : ℕ) (n n' : (Session → Bool) → ℕ) → ((s : Session) → t < s.start.0 → n (is_prior s) ≤ n' (is_prior s))
    → (w : List Session) → All (λ s. t < s.start.0) w → All (Tied n) w → All (Tied n') w
ended-tied t n n' le w a d =
    all-into (λ s. (t < s.start.0) × Tied n s) (Tied n') (λ s h e. omega (arith, h.1 e, le s h.0)) w
    (all_both (λ s. t < s.start.0) (Tied n) w a d)

ended-other : (t : ℕ) (s : Session) (k : List Session) → t < s.start.0 → count (is_prior s) (omit (ends_at t) k) ≡ count (is_prior s) k
ended-other t s k h =
    count-other (is_prior s) (ends_at t) (λ u e. let i = eqb-true t u.end.0 e in
    failed (is_prior s u) (λ g. omega (arith, (prior-parts s u g).2))) k

own_is : (s : Session) → is s.conn s.id s ≡ true
own_is s = both-and (eqb s.conn s.conn) (eqb s.id s.id) (eqb_same s.conn) (eqb_same s.id)

-- with s about to start, the equal one on air ends, and all that were tied to it
ousted-tied : (s : Session) (q : Queue) → All Proper q.started → Orderly q.waiting
    → All (Tied (λ p. count p (s ∷ []) + held_count q p)) q.waiting
    → All (Tied (λ p. count p (ousted s q).queue.waiting + count p (s ∷ (ousted s q).queue.started))) (ousted s q).queue.waiting
unfolding ousted and_then dismissed
ousted-tied s q a o t =
    let air = get_or q.started 0 empty in
    let u = with_started (s ∷ remove_at 0 q.started) q in
    by (λ (r : Turn). All (Tied (λ p. count p r.queue.waiting + count p (s ∷ r.queue.started))) r.queue.waiting)
    (meets_equal s q.started) _ _
    (λ e. let l = meets-some s q.started e in
    dismissed-tied 125 air.conn air.id u (air ∷ []) (all_get_d Proper q.started 0 empty l a).somebody o (own_is air, tt)
    (tied-more (λ p. count p (s ∷ []) + held_count q p) (λ p. count p (air ∷ []) + held_count u p)
    (λ p. omega (arith, count-remove_at p 0 q.started empty l)) q.waiting t))
    (λ e. tied-more (λ p. count p (s ∷ []) + held_count q p) (λ p. count p q.waiting + count p (s ∷ q.started)) (λ p. omega arith)
    q.waiting t)

-- s, which no longer waits, starts or fails
launched-tied : (s : Session) (q : Queue) → Proper s → All Proper q.started → Orderly q.waiting
    → All (Tied (λ p. count p (s ∷ []) + held_count q p)) q.waiting
    → All (Tied (held_count (launched s q).queue)) (launched s q).queue.waiting
unfolding launched and_then
launched-tied s q a k o t =
    by (λ (r : Turn). All (Tied (held_count r.queue)) r.queue.waiting) (may_start s q.started) _ _
    (λ e. ousted-tied s q k o t)
    (λ e. dismissed-tied 109 s.conn s.id (ending (one_end Failed s) q).queue (s ∷ []) a.somebody o (own_is s, tt) t)

instant-tied : (now t : ℕ) (q : Queue) → Chained now q → Due t q → All (Tied (held_count (instant t q).queue)) (instant t q).queue.waiting
unfolding instant and_then end_at start_at
instant-tied now t q h d =
    by (λ (r : Turn). All (Tied (held_count r.queue)) r.queue.waiting) (ltb i (length q.waiting)) _ _
    (λ e. one (ltb-true i (length q.waiting) e))
    (λ e. ended-tied t (held_count q) (held_count u) (λ v lt. omega (arith, ended-other t v q.started lt)) q.waiting
    (after-t t q.waiting d.starts (place_none (starts_at t) q.waiting (ltb-false i (length q.waiting) e))) h.tied)
  where
    u : Queue
    u = (end_at t q).queue

    i : ℕ
    i = place (starts_at t) q.waiting

    s : Session
    s = get_or q.waiting i empty

    w : List Session
    w = remove_at i q.waiting

    one : i < length q.waiting → All (Tied (held_count (launched s (with_waiting w u)).queue))
        (launched s (with_waiting w u)).queue.waiting
    one l =
        launched-tied s (with_waiting w u) (all_get_d Proper q.waiting i empty l h.proper.waiting)
        (all_keep Proper (λ v. not (ends_at t v)) q.started h.proper.started)
        (orderly-fewer q.waiting w (fewer-remove_at i q.waiting) (orderly now q h))
        (ended-tied t (held_count q) (λ p. count p (s ∷ []) + held_count (with_waiting w u) p)
        (λ v lt. omega (arith, ended-other t v q.started lt, count-remove_at (is_prior v) i q.waiting empty l)) w
        (after-t t w (fewer-all (λ v. t ≤ v.start.0) (fewer-remove_at i q.waiting) d.starts)
        (starts-removed t q.waiting h.timed.sorted l))
        (fewer-all (Tied (held_count q)) (fewer-remove_at i q.waiting) h.tied))

elapse-chained : (now d : ℕ) (q : Queue) → Chained now q → Chained now (elapse d q)
unfolding elapse
elapse-chained now d q h =
    record {
      timed = elapse-timed now d q h.timed;
      proper = each-elapse Proper proper-plays d q h.proper;
      once = λ c x. omega (arith, h.once c x, held-elapse (is c x) (λ e s. refl) d q);
      tied = all-into (Tied (held_count q)) (Tied (held_count (elapse d q)))
          (λ s t e. omega (arith, t e, held-elapse (is_prior s) (λ f u. refl) d q)) q.waiting h.tied;
    }

pub moved-chained : (now t : ℕ) (q : Queue) → Due t q → Chained now q → Chained t (instant t (elapse (t - now) q)).queue
moved-chained now t q d h = moved (elapse (t - now) q) (elapse-chained now (t - now) q h) (elapse-due t (t - now) q d)
  where
    moved : (q : Queue) → Chained now q → Due t q → Chained t (instant t q).queue
    moved q h d =
        record {
          timed = instant-timed t now q h.timed d;
          proper = each-instant Proper proper-plays t q h.proper;
          once = λ c x. omega (arith, h.once c x, held-instant (is c x) (λ e s. refl) t q);
          tied = instant-tied now t q h d;
        }

pub rest-chained : (now until : ℕ) (q : Queue) → Due (suc until) q → Chained now q → Chained until (elapse (until - now) q)
rest-chained now until q d h =
    elapse-chained until (until - now) q (record {
      timed = wait-timed now until q d h.timed;
      proper = h.proper;
      once = h.once;
      tied =
          h.tied;
    })

tick-chained : (now until : ℕ) (q : Queue) → now ≤ until → Chained now q → Chained until (run_all now until q).queue
tick-chained = tick-through Chained (λ now until q le d h. rest-chained now until q d h) (λ now t q d m h. moved-chained now t q d h)

-- ## An acceptance

module _ (now : ℕ) (q : Queue) (h : Chained now q) (t : ℕ) where
  evict-tied : All (Tied (held_count (evicted t q).queue)) (evicted t q).queue.waiting
  unfolding evicted evicted_at and_then
  evict-tied =
      by (λ (r : Turn). All (Tied (held_count r.queue)) r.queue.waiting) (ltb i (length q.waiting)) _ _
      (λ e. one (ltb-true i (length q.waiting) e)) (λ e. h.tied)
    where
      i : ℕ
      i = place (starts_at t) q.waiting

      s : Session
      s = get_or q.waiting i empty

      u : Queue
      u = (ending (one_end (Response 109) s) (with_waiting (remove_at i q.waiting) q)).queue

      one : i < length q.waiting → All (Tied (held_count (dismissed 109 s.conn s.id u).queue))
          (dismissed 109 s.conn s.id u).queue.waiting
      one l =
          dismissed-tied 109 s.conn s.id u (s ∷ []) (all_get_d Proper q.waiting i empty l h.proper.waiting).somebody
          (orderly-fewer q.waiting u.waiting (fewer-remove_at i q.waiting) (orderly now q h)) (own_is s, tt)
          (tied-more (held_count q) (λ p. count p (s ∷ []) + held_count u p) (λ p. omega (arith, count-remove_at p i q.waiting empty l))
          u.waiting
          (fewer-all (Tied (held_count q)) (fewer-remove_at i q.waiting) h.tied))

  -- the one that starts at t and its followers end after t: whoever ends by t stays
  evict-stays : (p : Session → Bool) → ((u : Session) → t < u.end.0 → p u ≡ false) → held_count (evicted t q).queue p ≡ held_count q p
  unfolding evicted evicted_at and_then dismissed
  evict-stays p late =
      by (λ (r : Turn). held_count r.queue p ≡ held_count q p) (ltb i (length q.waiting)) _ _
      (λ e. one (ltb-true i (length q.waiting) e)) (λ e. refl)
    where
      i : ℕ
      i = place (starts_at t) q.waiting

      s : Session
      s = get_or q.waiting i empty

      w : List Session
      w = remove_at i q.waiting

      f : Walk
      f = followers s.conn s.id w

      o : Orderly w
      o = orderly-fewer q.waiting w (fewer-remove_at i q.waiting) (orderly now q h)

      one : i < length q.waiting → count p f.left + count p q.started ≡ held_count q p
      one l =
          let st = eqb-true t s.start.0 (place-holds (starts_at t) q.waiting empty l) in
          let own = (all_get_d Proper q.waiting i empty l h.proper.waiting).lasts in
          let b = all_get_d (λ g. All (λ v. follows g.conn g.id v ≡ true → g.end.0 ≡ v.start.0) q.waiting) q.waiting i empty
          l (orderly now q h).behind in
          let a = followers-after s.conn s.id w o s.end.0
          (fewer-all (λ v. follows s.conn s.id v ≡ true → s.end.0 ≤ v.start.0) (fewer-remove_at i q.waiting)
          (all-into (λ v. follows s.conn s.id v ≡ true → s.end.0 ≡ v.start.0)
          (λ v. follows s.conn s.id v ≡ true → s.end.0 ≤ v.start.0) (λ v m e. omega (arith, m e)) q.waiting b)) in
          let g = followers-gone s.conn s.id w Proper o.proper in
          let z = none-all p f.gone (all-into (λ v. (s.end.0 ≤ v.start.0) × Proper v) (λ v. p v ≡ false)
          (λ v m. late v (omega (arith, m.0, m.1.lasts))) f.gone
          (all_both (λ v. s.end.0 ≤ v.start.0) Proper f.gone a g)) in
          omega (arith, count-remove_at p i q.waiting empty l, ap bit (late s (omega arith)), (followed s.conn s.id w).counts p, z)

-- the prior that a request names is held and ends where the request starts
prior-held : (c : ℕ) (f : Start) (q : Queue) → unknown_prior c f q ≡ false → eqb (prior_of f) nobody ≡ false
    → 0 < held_count q (λ u. is c (prior_of f) u && eqb (start_of c f q) u.end.0)
unfolding unknown_prior start_of
prior-held c (Timed t) q e z = absurd (clash (eqb nobody nobody) (eqb_same nobody) z)
prior-held c (Linked p) q e z =
    let i = place (is c p) (held q) in
    let u = get_or (held q) i empty in
    let l : i < length (held q) = ltb-true i (length (held q)) (sym (some-place (is c p) (held q)) ∙ not-false _ e) in
    let r : Session → Bool = λ v. is c p v && eqb u.end.0 v.end.0 in
    let m = all_get_d (λ v. (g : Session → Bool) → g v ≡ true → 0 < count g (held q)) (held q) i empty l (all-counted (held q)) in
    omega (
      arith,
      m r (both-and (is c p u) (eqb u.end.0 u.end.0) (place-holds (is c p) (held q) empty l) (eqb_same u.end.0)),
      count_held r q,
    )

accept-tied : {F : Call → Type 0} (s : Splicer) (c : ℕ) (r : Request) → Admitted F s c r → Chained s.clock s.queue
    → All (Tied (held_count (accepted (requested c r s.queue) s.queue).queue))
    (accepted (requested c r s.queue) s.queue).queue.waiting
unfolding accepted and_then requested session_at
accept-tied s c r a h =
    all_inserted (Tied n') new u.waiting own (tied-more (held_count u) n' (λ p. omega (arith, held-accepted p new q)) u.waiting
    (evict-tied s.clock q h t))
  where
    q : Queue
    q = s.queue

    new : Session
    new = requested c r q

    t : ℕ
    t = start_of c r.start q

    u : Queue
    u = (evicted t q).queue

    n' : (Session → Bool) → ℕ
    n' = held_count (accepted new q).queue

    own : Tied n' new
    own e =
        omega (
          arith,
          prior-held c r.start q a.passed.prior e,
          evict-stays s.clock q h t (is_prior new) (λ v lt. failed (is_prior new v) (λ g. omega (arith, (prior-parts new v g).2))),
          held-accepted (is_prior new) new q,
        )

pub chained-kept : {F : Call → Type 0} → KeptHeld F Chained
chained-kept {F} =
    let k : KeptHeld F OnTime = timed-kept in
    let p : KeptHeld F (λ now q. Each Proper q) = proper-kept in
    let o : KeptHeld F (λ now q. Once q) = once-kept in
    record {
      closing = λ now q c h. record {
        timed = k.closing now q c h.timed;
        proper = p.closing now q c h.proper;
        once =
            o.closing now q c h.once;
        tied = close-tied now q c h;
      };
      aborting = λ now q c x e h. record {
        timed = k.aborting now q c x e h.timed;
        proper = p.aborting now q c x e h.proper;
        once = o.aborting now q c x e h.once;
        tied = abort-tied now q c x e h;
      };
      accepting = λ s c r a h. record {
        timed = k.accepting s c r a h.timed;
        proper = p.accepting s c r a h.proper;
        once = o.accepting s c r a h.once;
        tied = accept-tied s c r a h;
      };
      ticking = tick-chained;
    }

pub chained-always : (ks : List Call) (name : List ℕ)
    → Chained (after ks (fresh name).splicer).clock (after ks (fresh name).splicer).queue
chained-always =
    held-always Chained chained-kept
    (record {
      timed = record { sorted = tt; later = tt; ends = tt };
      proper = record { waiting = tt; started = tt };
      once =
          λ c x. omega arith;
      tied = tt;
    })

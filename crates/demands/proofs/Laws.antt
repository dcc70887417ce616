-- What each piece of work does to the sessions of one number of one connection: those held before are held after or ended. Assumes nothing.
use mathlib.Core.Path.{◌≡◌, refl, ◌∙◌}
use mathlib.Core.Bool.{Bool, true, false, ◌&&◌, ◌||◌}
use mathlib.Core.List.{List, [], ◌∷◌, ◌++◌, map}
use Prim.Native.Nat.{ℕ, ◌+◌, ◌≤◌, ◌<◌}
use native.Mathlib.Omega.{arith}
use lib.Dec.{eqb, ltb}
use lib.ListN.{length, get_or}
use borrow.Author.Tests.{ltb-true}
use Rattle.rules.specs.declared.Session.{Session}
use Rattle.rules.specs.declared.Ending.{Ending}
use Rattle.rules.specs.declared.Ending.TheVariants.{Complete, Failed, Response}
use Rattle.rules.specs.Lists.{bit, keep, count, place, remove_at}
use Rattle.rules.specs.State.{same_number, Queue, empty, of, is, starts_at, ends_at, to_come, with_waiting, with_started}
use Rattle.rules.specs.Records.{Record, General, InitResponse, AliveResponse, SpliceResponse, SpliceComplete, AbortResponse, ConfigResponse}
use Rattle.rules.specs.Records.{ExtendedFound, ExtendedNone, CueRequest}
use Rattle.rules.specs.Ends.{Turn, quiet, writes, and_then, ended, ending, one_end, endings, followers, dismissed, evicted_at, evicted}
use Rattle.rules.specs.Ends.{cancelled, aborted, closed_by}
use Rattle.rules.specs.Instants.{may_start, began, meets_equal, ousted, launched, start_at, end_at, instant, elapse, run_all}
use Rattle.demands.specs.History.{is_start, is_end, starts_of, ends_of}
use Rattle.rules.proofs.Tests.{by}
use Rattle.rules.proofs.Count.{count-append, count-split, count_none, count-le, count_map, count-endings, count-remove_at}
use Rattle.rules.proofs.Walk.{followed}
use Rattle.rules.proofs.Leaving.{meets-some}
use Rattle.rules.proofs.Tick.{count-on_air, run-law}
use Rattle.demands.specs.Told.{is_out, outs_of}

-- how many of l have the number x of connection c
abbrev pub tally : ℕ → ℕ → List Session → ℕ
tally c x l = count (is c x) l

-- held before is held after or ended; the started grow only by starts; what started is started or ended; only what started ends as aired
pub record Law (c x : ℕ) (q : Queue) (t : Turn) : Type 0 where
  pub kept : tally c x q.waiting + tally c x q.started ≡ tally c x t.queue.waiting + tally c x t.queue.started
      + ends_of c x t.written
  pub grown : tally c x t.queue.started ≤ tally c x q.started + starts_of c x t.written
  pub begun : tally c x q.started + starts_of c x t.written ≤ tally c x t.queue.started + ends_of c x t.written
  pub aired : tally c x t.queue.started + outs_of c x t.written ≤ tally c x q.started + starts_of c x t.written

-- neither a start nor an end is among rs
pub record Plain (rs : List Record) : Type 0 where
  pub starts : (c x : ℕ) → starts_of c x rs ≡ 0
  pub ends : (c x : ℕ) → ends_of c x rs ≡ 0

pub plain-none : Plain []
plain-none = record { starts = λ c x. refl; ends = λ c x. refl }

module _ (c x : ℕ) where
  -- ## Records

  ends-109 : (l : List Session) → ends_of c x (map (ended (Response 109)) l) ≡ tally c x l
  unfolding is_end
  ends-109 l = count_map (is_end c x) (ended (Response 109)) l

  ends-116 : (l : List Session) → ends_of c x (map (ended (Response 116)) l) ≡ tally c x l
  unfolding is_end
  ends-116 l = count_map (is_end c x) (ended (Response 116)) l

  ends-125 : (l : List Session) → ends_of c x (map (ended (Response 125)) l) ≡ tally c x l
  unfolding is_end
  ends-125 l = count_map (is_end c x) (ended (Response 125)) l

  starts-responses : (r : ℕ) (l : List Session) → starts_of c x (map (ended (Response r)) l) ≡ 0
  unfolding is_start
  starts-responses r l = count_map (is_start c x) (ended (Response r)) l ∙ count_none (λ s. false) (λ s. refl) l

  ends-endings : (r : ℕ) (cover : Ending) → ((s : Session) → is_end c x (ended cover s) ≡ is c x s)
      → (p : Session → Bool) (k : List Session)
      → ends_of c x (endings (Complete r) cover p k Record ended) ≡ tally c x (keep p k)
  unfolding is_end
  ends-endings r cover h p k = count-endings (is_end c x) (is c x) (Complete r) cover (λ s. refl) h p k

  -- no end is a start
  not_start : (h : Ending) (s : Session) → is_start c x (ended h s) ≡ false
  unfolding is_start
  not_start (Complete r) s = refl
  not_start Failed s = refl
  not_start (Response r) s = refl

  starts-endings : (air cover : Ending) (p : Session → Bool) (k : List Session) → starts_of c x (endings air cover p k Record ended) ≡ 0
  starts-endings air cover p k =
      count-endings (is_start c x) (λ s. false) air cover (not_start air) (not_start cover) p k
      ∙ count_none (λ s. false) (λ s. refl) (keep p k)

  -- only ends are ends of what was on air
  pub outs-ends : (rs : List Record) → outs_of c x rs ≤ ends_of c x rs
  unfolding is_out is_end
  outs-ends rs = count-le (is_out c x) (is_end c x) one rs
    where
      flag : (a b d : Bool) → bit (a && d) ≤ bit ((a || b) && d)
      flag true b d = omega arith
      flag false b d = omega arith

      one : (r : Record) → bit (is_out c x r) ≤ bit (is_end c x r)
      one (General d n) = omega arith
      one (InitResponse d n name) = omega arith
      one (AliveResponse d n a y t) = omega arith
      one (SpliceResponse d n y) = omega arith
      one (SpliceComplete d n y f p) = flag (eqb f 1) (eqb f 0 && eqb n 109) (same_number c x d y)
      one (AbortResponse d n y) = omega arith
      one (CueRequest d a u l) = omega arith
      one (ExtendedFound d y event ended played) = omega arith
      one (ExtendedNone d y) = omega arith
      one (ConfigResponse d n name h m) = omega arith

  outs-responses : (r : ℕ) (l : List Session) → outs_of c x (map (ended (Response r)) l) ≡ 0
  unfolding is_out
  outs-responses r l = count_map (is_out c x) (ended (Response r)) l ∙ count_none (λ s. false) (λ s. refl) l

  -- ## One piece of work after another

  pub quiet-law : (q : Queue) → Law c x q (quiet q)
  quiet-law q = record { kept = omega arith; grown = omega arith; begun = omega arith; aired = omega arith }

  pub plain-law : (q : Queue) (rs : List Record) → Plain rs → Law c x q (writes rs q)
  plain-law q rs p =
      let e = p.ends c x in
      let s = p.starts c x in
      let o = outs-ends rs in
      record { kept = omega arith; grown = omega arith; begun = omega arith; aired = omega arith }

  pub join-law : (q : Queue) (t u : Turn) → Law c x q t → Law c x t.queue u
      → Law c x q (record { queue = u.queue; written = t.written ++ u.written })
  join-law q t u l m =
      let e = count-append (is_end c x) t.written u.written in
      let s = count-append (is_start c x) t.written u.written in
      let o = count-append (is_out c x) t.written u.written in
      record {
        kept = omega (arith, l.kept, m.kept);
        grown = omega (arith, l.grown, m.grown);
        begun = omega (arith, l.begun, m.begun);
        aired = omega (arith, l.aired, m.aired);
      }

  -- ## Followers, eviction, abort, close

  -- the followers' ends are of a result r that is an end's
  dismissed-law : (r d y : ℕ) (q : Queue) → ((l : List Session) → ends_of c x (map (ended (Response r)) l) ≡ tally c x l)
      → Law c x q (dismissed r d y q)
  unfolding dismissed
  dismissed-law r d y q h =
      let f = followers d y q.waiting in
      let e = h f.gone in
      let s = starts-responses r f.gone in
      let o = outs-responses r f.gone in
      let w = (followed d y q.waiting).counts (is c x) in
      record { kept = omega arith; grown = omega arith; begun = omega arith; aired = omega arith }

  evicted_at-law : (i : ℕ) (q : Queue) → i < length q.waiting → Law c x q (evicted_at i q)
  unfolding evicted_at and_then is_end is_start is_out
  evicted_at-law i q h =
      let s = get_or q.waiting i empty in
      let v = ending (one_end (Response 109) s) (with_waiting (remove_at i q.waiting) q) in
      let u = v.queue in
      let w = count-remove_at (is c x) i q.waiting empty h in
      join-law q v (dismissed 109 s.conn s.id u) (record {
        kept = omega arith;
        grown = omega arith;
        begun = omega arith;
        aired =
            omega arith;
      })
      (dismissed-law 109 s.conn s.id u ends-109)

  pub evicted-law : (t : ℕ) (q : Queue) → Law c x q (evicted t q)
  unfolding evicted
  evicted-law t q =
      let i = place (starts_at t) q.waiting in
      by (Law c x q) (ltb i (length q.waiting)) _ _ (λ e. evicted_at-law i q (ltb-true i (length q.waiting) e)) (λ e. quiet-law q)

  cancelled-law : (p : Session → Bool) (q : Queue) → Law c x q (cancelled p q)
  unfolding cancelled is_end is_start
  cancelled-law p q =
      let a = endings (Complete 116) (Response 116) p q.started Record ended in
      let b = map (ended (Response 116)) (keep p q.waiting) in
      let e₁ = count-append (is_end c x) a b in
      let e₂ = ends-endings 116 (Response 116) (λ s. refl) p q.started in
      let e₃ = ends-116 (keep p q.waiting) in
      let s₁ = count-append (is_start c x) a b in
      let s₂ = starts-endings (Complete 116) (Response 116) p q.started in
      let s₃ = starts-responses 116 (keep p q.waiting) in
      let o₁ = count-append (is_out c x) a b in
      let o₂ = outs-ends a in
      let o₃ = outs-responses 116 (keep p q.waiting) in
      let w = count-split (is c x) p q.waiting in
      let k = count-split (is c x) p q.started in
      record { kept = omega arith; grown = omega arith; begun = omega arith; aired = omega arith }

  pub closed_by-law : (d : ℕ) (q : Queue) → Law c x q (closed_by d q)
  unfolding closed_by
  closed_by-law d q = cancelled-law (of d) q

  aborted-law : (d y : ℕ) (q : Queue) → Law c x q (aborted d y q)
  unfolding aborted and_then
  aborted-law d y q =
      let t = cancelled (is d y) q in
      join-law q t (dismissed 116 d y t.queue) (cancelled-law (is d y) q) (dismissed-law 116 d y t.queue ends-116)

  -- with its Abort_Response
  pub answered-law : (d y : ℕ) (q : Queue) → Law c x q (record {
    queue = (aborted d y q).queue;
    written =
        AbortResponse d 100 y ∷ (aborted d y q).written;
  })
  unfolding is_end is_start
  answered-law d y q =
      let p : Plain (AbortResponse d 100 y ∷ []) = record { starts = λ e z. refl; ends = λ e z. refl } in
      join-law q (writes (AbortResponse d 100 y ∷ []) q) (aborted d y q) (plain-law q (AbortResponse d 100 y ∷ []) p) (aborted-law d y q)

  -- ## Instants

  -- the equal one on air and its followers
  ousted-law : (s : Session) (q : Queue) → Law c x q (ousted s q)
  unfolding ousted and_then is_end is_start is_out
  ousted-law s q =
      let air = get_or q.started 0 empty in
      let v = ending (one_end (Complete 125) air) (with_started (remove_at 0 q.started) q) in
      let u = v.queue in
      by (Law c x q) (meets_equal s q.started) _ _
      (λ e. let k = count-remove_at (is c x) 0 q.started empty (meets-some s q.started e) in
      join-law q v (dismissed 125 air.conn air.id u)
      (record { kept = omega arith; grown = omega arith; begun = omega arith; aired = omega arith })
      (dismissed-law 125 air.conn air.id u ends-125))
      (λ e. quiet-law q)

  -- s, which no longer waits
  launched-law : (s : Session) (w : List Session) (q : Queue) → tally c x w ≡ tally c x (s ∷ q.waiting)
      → Law c x (with_waiting w q) (launched s q)
  unfolding launched and_then is_end is_start is_out
  launched-law s w q h =
      by (Law c x (with_waiting w q)) (may_start s q.started) _ _
      (λ e. let l = ousted-law s q in
      let ends = count-append (is_end c x) (ousted s q).written (began s ∷ []) in
      let starts = count-append (is_start c x) (ousted s q).written (began s ∷ []) in
      let outs = count-append (is_out c x) (ousted s q).written (began s ∷ []) in
      record {
        kept = omega (arith, l.kept);
        grown = omega (arith, l.grown);
        begun = omega (arith, l.begun);
        aired =
            omega (arith, l.aired);
      })
      (λ e. let v = ending (one_end Failed s) q in
      join-law (with_waiting w q) v (dismissed 109 s.conn s.id v.queue)
      (record { kept = omega arith; grown = omega arith; begun = omega arith; aired = omega arith })
      (dismissed-law 109 s.conn s.id v.queue ends-109))

  start_at-law : (t : ℕ) (q : Queue) → Law c x q (start_at t q)
  unfolding start_at
  start_at-law t q =
      let i = place (starts_at t) q.waiting in
      by (Law c x q) (ltb i (length q.waiting)) _ _
      (λ e. launched-law (get_or q.waiting i empty) q.waiting (with_waiting (remove_at i q.waiting) q)
      (count-remove_at (is c x) i q.waiting empty (ltb-true i (length q.waiting) e)))
      (λ e. quiet-law q)

  end_at-law : (t : ℕ) (q : Queue) → Law c x q (end_at t q)
  unfolding end_at is_end is_start
  end_at-law t q =
      let e = ends-endings 100 (Complete 125) (λ s. refl) (ends_at t) q.started in
      let s = starts-endings (Complete 100) (Complete 125) (ends_at t) q.started in
      let o = outs-ends (endings (Complete 100) (Complete 125) (ends_at t) q.started Record ended) in
      let k = count-split (is c x) (ends_at t) q.started in
      record { kept = omega arith; grown = omega arith; begun = omega arith; aired = omega arith }

  instant-law : (t : ℕ) (q : Queue) → Law c x q (instant t q)
  unfolding instant and_then
  instant-law t q = join-law q (end_at t q) (start_at t (end_at t q).queue) (end_at-law t q) (start_at-law t (end_at t q).queue)

  elapse-law : (d : ℕ) (q : Queue) → Law c x q (quiet (elapse d q))
  unfolding elapse
  elapse-law d q =
      let k = count-on_air (is c x) (λ e s. refl) d q.started in
      record { kept = omega arith; grown = omega arith; begun = omega arith; aired = omega arith }

  pub tick-law : (now until : ℕ) (q : Queue) → Law c x q (run_all now until q)
  unfolding run_all
  tick-law now until q = run-law (Law c x) elapse-law instant-law join-law (to_come q) now until q

-- What each piece of work does to the sessions of a history beside those held: followers, eviction, abort, close, instants, a tick.
-- Rests on Owned (one end, one start, time passing) and on Marks (an end in an answer looks ahead to the start behind it). Assumes nothing.
use mathlib.Core.Path.{◌≡◌, refl, ap, sym, ◌∙◌}
use mathlib.Core.Bool.{Bool, true, false, not}
use mathlib.Core.List.{List, [], ◌∷◌, ◌++◌, map}
use Prim.Native.Nat.{ℕ, zero, suc, ◌+◌, ◌-◌, ◌≤◌, ◌<◌, min}
use native.Mathlib.Omega.{arith}
use lib.Dec.{eqb, ltb}
use lib.ListN.{length, get_or}
use borrow.Author.Tests.{eqb-true, ltb-true}
use Rattle.rules.specs.declared.Session.{Session}
use Rattle.rules.specs.declared.Ending.{Ending}
use Rattle.rules.specs.declared.Ending.TheVariants.{Complete, Failed, Response}
use Rattle.rules.specs.Lists.{All, put, keep, omit, place, remove_at}
use Rattle.rules.specs.State.{Queue, empty, of, is, starts_at, ends_at, due, not_after, to_come, with_waiting, with_started}
use Rattle.rules.specs.Records.{Record, AbortResponse}
use Rattle.rules.specs.Ends.{Turn, and_then, ended, ending, one_end, endings, followers, dismissed, evicted_at, evicted}
use Rattle.rules.specs.Ends.{cancelled, aborted, closed_by}
use Rattle.rules.specs.Instants.{may_start, began, meets_equal, ousted, launched, start_at, end_at, instant, elapse, run, run_all, silence}
use Rattle.rules.specs.Instants.{silent, silent_all}
use Rattle.demands.specs.History.{is_start, is_end}
use Rattle.rules.specs.Follows.Sound.{Falling, OnTime}
use Rattle.rules.proofs.Tests.{by, clash}
use Rattle.rules.proofs.All.{all-into, all_append}
use Rattle.rules.proofs.Count.{count-append, count-split, count-remove_at, place-holds}
use Rattle.rules.proofs.Every.{all_any, all_both, all-put, all_keep, all-kept, all_get_d, fewer-remove_at, fewer-all}
use Rattle.rules.proofs.Walk.{followed, followers-gone}
use Rattle.rules.proofs.Ranked.{falling-on_air, falling-instant}
use Rattle.rules.proofs.Tick.{Due, meets, none-due, due-none, due-first, due-last, due-time, due-meets, moved, moved-less, elapse-due}
use Rattle.rules.proofs.Tick.{run-stop, run_more, run-law}
use Rattle.rules.proofs.Timed.{instant-timed, elapse-timed, wait-timed, meets-after}
use Rattle.rules.proofs.Silence.{silent-stop, silent-more}
use Rattle.rules.proofs.Sessions.{waiting-instant}
use Rattle.demands.specs.Airing.{Airing, newest, lists, says_played, heard, by_then, heard_all}
use Rattle.demands.proofs.Marks.{EndOf, StartOf, heard-plain, Late, by_then-late, heard_all-append}
use Rattle.demands.proofs.Owned.{Waits, Plays, Base, Tells, Owned, end-started, end-waiting, start-waiting, time-passes, reorder}
use Rattle.std.specs.Prelude.{None, Option, Some}
use Rattle.rules.specs.declared.Ninths.{Ninths}

-- ## Records

-- r is no flag 0: it is not what an end before it looks for
abbrev pub Passed : Record → Type 0
Passed r = (u : ℕ) (l : List Airing) (rs : List Record) → by_then u l (r ∷ rs) ≡ by_then u l rs

-- r is an end of s, and no flag 0
abbrev pub Ends : Session → Record → Type 0
Ends s r = EndOf s.conn s.id r × Passed r × Tells s r

-- rs are the ends of g, one after another, and no flag 0 is among them
abbrev pub EndsOf : List Session → List Record → Type 0
EndsOf [] [] = Unit {0}
EndsOf [] (r ∷ rs) = ⊥
EndsOf (s ∷ g) [] = ⊥
EndsOf (s ∷ g) (r ∷ rs) = Ends s r × EndsOf g rs

module _ (s : Session) where
  end-109 : Ends s (ended (Response 109) s)
  unfolding is_end is_start by_then lists
  end-109 = (record { ends = λ d y. refl; starts = λ d y. refl }, (λ u l rs. refl), λ e. absurd (clash false e refl))

  end-116 : Ends s (ended (Response 116) s)
  unfolding is_end is_start by_then lists
  end-116 = (record { ends = λ d y. refl; starts = λ d y. refl }, (λ u l rs. refl), λ e. absurd (clash false e refl))

  end-125 : Ends s (ended (Response 125) s)
  unfolding is_end is_start by_then lists
  end-125 = (record { ends = λ d y. refl; starts = λ d y. refl }, (λ u l rs. refl), λ e. absurd (clash false e refl))

  pub end-out : (n : ℕ) → Ends s (ended (Complete n) s)
  unfolding is_end is_start by_then says_played
  end-out n = (record { ends = λ d y. refl; starts = λ d y. refl }, (λ u l rs. refl), λ e. refl)

  end-failed : EndOf s.conn s.id (ended Failed s) × Tells s (ended Failed s)
  unfolding is_end is_start lists
  end-failed = (record { ends = λ d y. refl; starts = λ d y. refl }, λ e. absurd (clash false e refl))

  pub start-in : StartOf s.conn s.id (began s)
  unfolding is_end is_start
  start-in = record { ends = λ d y. refl; starts = λ d y. refl }

ends-map : (f : Session → Record) → ((s : Session) → Ends s (f s)) → (g : List Session) → EndsOf g (map f g)
ends-map f h [] = tt
ends-map f h (s ∷ g) = (h s, ends-map f h g)

ends-endings : (n : ℕ) (cover : Ending) → ((s : Session) → Ends s (ended cover s)) → (p : Session → Bool) (k : List Session)
    → EndsOf (keep p k) (endings (Complete n) cover p k Record ended)
unfolding endings
ends-endings n cover h p [] = tt
ends-endings n cover h p (s ∷ k) = go (p s)
  where
    go : (b : Bool) → EndsOf (put b s (keep p k)) (put b (ended (Complete n) s) (map (ended cover) (keep p k)))
    go true = (end-out s n, ends-map (ended cover) h (keep p k))
    go false = ends-map (ended cover) h (keep p k)

pub by_then-ends : (u : ℕ) (l : List Airing) (g : List Session) (rs : List Record) → EndsOf g rs → by_then u l rs ≡ u
unfolding by_then
by_then-ends u l [] [] h = refl
by_then-ends u l [] (r ∷ rs) h = absurd h
by_then-ends u l (s ∷ g) [] h = absurd h
by_then-ends u l (s ∷ g) (r ∷ rs) h = h.0.1 u l rs ∙ by_then-ends u l g rs h.1

by_then-dismissed : (u : ℕ) (l : List Airing) (r c x : ℕ) → ((s : Session) → Ends s (ended (Response r) s)) → (q : Queue)
    → by_then u l (dismissed r c x q).written ≡ u
unfolding dismissed
by_then-dismissed u l r c x e q =
    let g = (followers c x q.waiting).gone in
    by_then-ends u l g (map (ended (Response r)) g) (ends-map (ended (Response r)) e g)

heard-abort : (t c x : ℕ) (l : List Airing) → heard t (AbortResponse c 100 x) l ≡ l
unfolding is_end is_start
heard-abort t c x l = heard-plain t (AbortResponse c 100 x) (λ d y. refl) (λ d y. refl) l

heard_all-abort : (u c x : ℕ) (rs : List Record) (l : List Airing) → heard_all u (AbortResponse c 100 x ∷ rs) l ≡ heard_all u rs l
unfolding heard_all
heard_all-abort u c x rs l = ap (heard_all u rs) (heard-abort (by_then u l rs) c x l)

-- ## Many ends

module _ (β : Base) (now pr u : ℕ) where
  pub ends-waiting : (g w k : List Session) (rs : List Record) (l : List Airing) → EndsOf g rs → Owned β now pr (g ++ w) k l
      → Owned β now pr w k (heard_all u rs l)
  unfolding heard_all
  ends-waiting [] w k [] l e h = h
  ends-waiting [] w k (r ∷ rs) l e h = absurd e
  ends-waiting (s ∷ g) w k [] l e h = absurd e
  ends-waiting (s ∷ g) w k (r ∷ rs) l e h =
      ends-waiting g w k rs (heard (by_then u l rs) r l) e.1 (end-waiting β now pr (by_then u l rs) r s e.0.0 e.0.2 (g ++ w) k l h)

  -- what ends now, though later records of the answer are of a later time
  abbrev Stops : Session → Type 0
  Stops s = (now ≤ s.end.0) × (min s.end.0 u ≤ now)

  ends-started : (g w k : List Session) (rs : List Record) (l : List Airing) → now ≤ u → EndsOf g rs → All Stops g
      → Owned β now pr w (g ++ k) l → Owned β now pr w k (heard_all u rs l)
  unfolding heard_all
  ends-started [] w k [] l le e a h = h
  ends-started [] w k (r ∷ rs) l le e a h = absurd e
  ends-started (s ∷ g) w k [] l le e a h = absurd e
  ends-started (s ∷ g) w k (r ∷ rs) l le e a h =
      rw (by_then-ends u l g rs e.1)
      (ends-started g w k rs (heard u r l) le e.1 a.1 (end-started β now pr u r s e.0.0 e.0.2 w (g ++ k) l le a.0.0
      a.0.1 h))

  -- ## Followers, eviction

  module _ (q : Queue) (l : List Airing) where
    abbrev pub Now : Turn → Type 0
    Now t = Owned β now pr t.queue.waiting t.queue.started (heard_all u t.written l)

    dismissed-owned : (r c x : ℕ) → ((s : Session) → Ends s (ended (Response r) s)) → Owned β now pr q.waiting q.started l
        → Now (dismissed r c x q)
    unfolding dismissed
    dismissed-owned r c x e h =
        let f = followers c x q.waiting in
        let k = followed c x q.waiting in
        ends-waiting f.gone f.left q.started (map (ended (Response r)) f.gone) l (ends-map (ended (Response r)) e f.gone)
        (reorder β now pr q.waiting q.started (f.gone ++ f.left) q.started l
        (λ p. omega (arith, count-append p f.gone f.left, k.counts p)) (λ p. refl)
        (λ a. all_append (Waits l) f.gone f.left (followers-gone c x q.waiting (Waits l) a) (fewer-all (Waits l) k.fewer a))
        (λ a. a) h)

    -- and beside one that has left the queue and whose fate is told later
    dismissed-beside : (s : Session) (r c x : ℕ) → ((s : Session) → Ends s (ended (Response r) s))
        → Owned β now pr (s ∷ q.waiting) q.started l
        → Owned β now pr (s ∷ (dismissed r c x q).queue.waiting) (dismissed r c x q).queue.started
        (heard_all u (dismissed r c x q).written l)
    unfolding dismissed
    dismissed-beside s r c x e h =
        let f = followers c x q.waiting in
        let k = followed c x q.waiting in
        ends-waiting f.gone (s ∷ f.left) q.started (map (ended (Response r)) f.gone) l (ends-map (ended (Response r)) e f.gone)
        (reorder β now pr (s ∷ q.waiting) q.started (f.gone ++ (s ∷ f.left)) q.started l
        (λ p. omega (arith, count-append p f.gone (s ∷ f.left), k.counts p)) (λ p. refl)
        (λ a. all_append (Waits l) f.gone (s ∷ f.left) (followers-gone c x q.waiting (Waits l) a.1)
        (a.0, fewer-all (Waits l) k.fewer a.1)) (λ a. a) h)

  -- the waiting one at a place, brought to the front
  fetched : (i : ℕ) (q : Queue) (l : List Airing) → i < length q.waiting → Owned β now pr q.waiting q.started l
      → Owned β now pr (get_or q.waiting i empty ∷ remove_at i q.waiting) q.started l
  fetched i q l h o =
      reorder β now pr q.waiting q.started (get_or q.waiting i empty ∷ remove_at i q.waiting) q.started l
      (λ p. sym (count-remove_at p i q.waiting empty h)) (λ p. refl)
      (λ a. (all_get_d (Waits l) q.waiting i empty h a, fewer-all (Waits l) (fewer-remove_at i q.waiting) a)) (λ a. a) o

  evicted_at-owned : (i : ℕ) (q : Queue) (l : List Airing) → i < length q.waiting → Owned β now pr q.waiting q.started l
      → Now q l (evicted_at i q)
  unfolding evicted_at and_then heard_all
  evicted_at-owned i q l h o =
      let s = get_or q.waiting i empty in
      let v = (ending (one_end (Response 109) s) (with_waiting (remove_at i q.waiting) q)).queue in
      let d = (dismissed 109 s.conn s.id v).written in
      let m = heard (by_then u l d) (ended (Response 109) s) l in
      dismissed-owned v m 109 s.conn s.id (λ x. end-109 x)
      (end-waiting β now pr (by_then u l d) (ended (Response 109) s) s (end-109 s).0 (end-109 s).2 (remove_at i q.waiting) q.started l
      (fetched i q l h o))

  pub evicted-owned : (t : ℕ) (q : Queue) (l : List Airing) → Owned β now pr q.waiting q.started l → Now q l (evicted t q)
  unfolding evicted heard_all
  evicted-owned t q l o =
      let i = place (starts_at t) q.waiting in
      by (Now q l) (ltb i (length q.waiting)) _ _ (λ e. evicted_at-owned i q l (ltb-true i (length q.waiting) e) o) (λ e. o)

  -- kept and left out
  parted : (p : Session → Bool) (q : Queue) (l : List Airing) → Owned β now pr q.waiting q.started l
      → Owned β now pr (keep p q.waiting ++ omit p q.waiting) (keep p q.started ++ omit p q.started) l
  parted p q l o =
      reorder β now pr q.waiting q.started (keep p q.waiting ++ omit p q.waiting) (keep p q.started ++ omit p q.started) l
      (λ f. omega (arith, count-append f (keep p q.waiting) (omit p q.waiting), count-split f p q.waiting))
      (λ f. omega (arith, count-append f (keep p q.started) (omit p q.started), count-split f p q.started))
      (λ a. all_append (Waits l) (keep p q.waiting) (omit p q.waiting) (all_keep (Waits l) p q.waiting a)
      (all_keep (Waits l) (λ s. not (p s)) q.waiting a))
      (λ a. all_append (Plays now l) (keep p q.started) (omit p q.started) (all_keep (Plays now l) p q.started a)
      (all_keep (Plays now l) (λ s. not (p s)) q.started a))
      o

  -- ## Abort and close: what ends ends at now

  cancelled-owned : now ≤ u → (p : Session → Bool) (q : Queue) (l : List Airing) → All Stops q.started
      → Owned β now pr q.waiting q.started l → Now q l (cancelled p q)
  unfolding cancelled
  cancelled-owned le p q l a o =
      let outs = endings (Complete 116) (Response 116) p q.started Record ended in
      let bs = map (ended (Response 116)) (keep p q.waiting) in
      let e = ends-map (ended (Response 116)) (λ s. end-116 s) (keep p q.waiting) in
      rw (heard_all-append u outs bs l, by_then-ends u l (keep p q.waiting) bs e)
      (ends-waiting (keep p q.waiting) (omit p q.waiting) (omit p q.started) bs (heard_all u outs l) e
      (ends-started (keep p q.started) (keep p q.waiting ++ omit p q.waiting) (omit p q.started) outs l le
      (ends-endings 116 (Response 116) (λ s. end-116 s) p q.started) (all_keep Stops p q.started a) (parted p q l o)))

  pub closed_by-owned : now ≤ u → (c : ℕ) (q : Queue) (l : List Airing) → All Stops q.started → Owned β now pr q.waiting q.started l
      → Now q l (closed_by c q)
  unfolding closed_by
  closed_by-owned le c q l a o = cancelled-owned le (of c) q l a o

  -- with its Abort_Response
  pub aborted-owned : now ≤ u → (c x : ℕ) (q : Queue) (l : List Airing) → All Stops q.started
      → Owned β now pr q.waiting q.started l
      → Owned β now pr (aborted c x q).queue.waiting (aborted c x q).queue.started
      (heard_all u (AbortResponse c 100 x ∷ (aborted c x q).written) l)
  unfolding aborted and_then
  aborted-owned le c x q l a o =
      let t = cancelled (is c x) q in
      let d = dismissed 116 c x t.queue in
      rw (
        heard_all-abort u c x (t.written ++ d.written) l,
        heard_all-append u t.written d.written l,
        by_then-dismissed u l 116 c x (λ s. end-116 s) t.queue,
      )
      (dismissed-owned t.queue (heard_all u t.written l) 116 c x (λ s. end-116 s) (cancelled-owned le (is c x) q l a o))

  -- ## Instants

  end_at-owned : now ≤ u → (q : Queue) (l : List Airing) → Owned β now pr q.waiting q.started l → Now q l (end_at now q)
  unfolding end_at
  end_at-owned le q l o =
      ends-started (keep (ends_at now) q.started) q.waiting (omit (ends_at now) q.started)
      (endings (Complete 100) (Complete 125) (ends_at now) q.started Record ended) l le
      (ends-endings 100 (Complete 125) (λ s. end-out s 125) (ends_at now) q.started)
      (all-kept (λ s. Unit {0}) Stops (ends_at now) (λ s h e. let i = eqb-true now s.end.0 e in (omega arith, omega arith)) q.started
      (all_any (λ s. Unit {0}) (λ s. tt) q.started))
      (reorder β now pr q.waiting q.started q.waiting (keep (ends_at now) q.started ++ omit (ends_at now) q.started) l
      (λ p. refl)
      (λ f. omega (
        arith,
        count-append f (keep (ends_at now) q.started) (omit (ends_at now) q.started),
        count-split f (ends_at now) q.started,
      ))
      (λ a. a)
      (λ a. all_append (Plays now l) (keep (ends_at now) q.started) (omit (ends_at now) q.started)
      (all_keep (Plays now l) (ends_at now) q.started a) (all_keep (Plays now l) (λ s. not (ends_at now s)) q.started a))
      o)

-- ## A start: an equal one on air ends at once, told before the start, which is at now

-- s, which no longer waits, starts next
ousted-owned : (β : Base) (now pr : ℕ) (s : Session) (q : Queue) (l : List Airing) → All (λ x. now ≤ x.end.0) q.started
    → Owned β now pr (s ∷ q.waiting) q.started l
    → Owned β now pr (s ∷ (ousted s q).queue.waiting) (ousted s q).queue.started (heard_all now (ousted s q).written l)
unfolding ousted meets_equal and_then heard_all remove_at
ousted-owned β now pr s q l a o = go q.waiting q.started a o
  where
    Done : List Session → List Session → Turn → Type 0
    Done w k t = Owned β now pr (s ∷ t.queue.waiting) t.queue.started (heard_all now t.written l)

    go : (w k : List Session) → All (λ x. now ≤ x.end.0) k → Owned β now pr (s ∷ w) k l
        → Done w k (ousted s (record { waiting = w; started = k; lately = q.lately }))
    go w [] a o = o
    go w (air ∷ k) a o =
        by (Done w (air ∷ k)) (eqb air.access s.access) _ _
        (λ i. let q = (ending (one_end (Complete 125) air) (record { waiting = w; started = k; lately = q.lately })).queue in
        let r = ended (Complete 125) air in
        let ds = (dismissed 125 air.conn air.id q).written in
        let e = end-out air 125 in
        let v = by_then-dismissed now l 125 air.conn air.id (λ x. end-125 x) q in
        dismissed-beside β now pr now q (heard (by_then now l ds) r l) s 125 air.conn air.id (λ x. end-125 x)
        (end-started β now pr (by_then now l ds) r air e.0 e.2 (s ∷ w) k l (omega (arith, v)) a.0 (omega (arith, v)) o))
        (λ i. o)

module _ (β : Base) (now pr u : ℕ) where
  -- the start tells when what stands before it was over
  ahead : (s : Session) (w k : List Session) (l : List Airing) → s.start.0 ≡ now → Owned β now pr (s ∷ w) k l
      → by_then u l (began s ∷ []) ≡ now
  unfolding by_then
  ahead s w k l at-now o = ap (λ (a : Airing). a.start) o.waits.0.told ∙ at-now

  launched-owned : (s : Session) (q : Queue) (l : List Airing) → s.start.0 ≡ now → All (λ x. now ≤ x.end.0) q.started
      → Owned β now pr (s ∷ q.waiting) q.started l → Now β now pr u q l (launched s q)
  unfolding launched and_then heard_all by_then
  launched-owned s q l at-now a o =
      let f = (ending (one_end Failed s) q).queue in
      let d = (dismissed 109 s.conn s.id f).written in
      let v = ousted s q in
      by (Now β now pr u q l) (may_start s q.started) _ _
      (λ e. rw (heard_all-append u v.written (began s ∷ []) l, ahead s q.waiting q.started l at-now o)
      (start-waiting β now pr u (began s) s (start-in s) v.queue.waiting v.queue.started (heard_all now v.written l) at-now
      (ousted-owned β now pr s q l a o)))
      (λ e. dismissed-owned β now pr u f (heard (by_then u l d) (ended Failed s) l) 109 s.conn s.id (λ x. end-109 x)
      (end-waiting β now pr (by_then u l d) (ended Failed s) s (end-failed s).0 (end-failed s).1 q.waiting q.started l o))

  start_at-owned : (q : Queue) (l : List Airing) → All (λ x. now ≤ x.end.0) q.started → Owned β now pr q.waiting q.started l
      → Now β now pr u q l (start_at now q)
  unfolding start_at heard_all
  start_at-owned q l a o =
      let i = place (starts_at now) q.waiting in
      by (Now β now pr u q l) (ltb i (length q.waiting)) _ _
      (λ e. let h = ltb-true i (length q.waiting) e in
      launched-owned (get_or q.waiting i empty) (with_waiting (remove_at i q.waiting) q) l
      (sym (eqb-true now (get_or q.waiting i empty).start.0 (place-holds (starts_at now) q.waiting empty h))) a
      (fetched β now pr u i q l h o))
      (λ e. o)

-- ## Records of a later time

-- nothing that waits starts before t, as the history l tells it: then no flag 0 is of a session that does
module _ (t : ℕ) (l : List Airing) where
  abbrev Starts : Session → Type 0
  Starts s = t ≤ (newest s.conn s.id l).start

  abbrev Lates : Queue → Turn → Type 0
  Lates q r = All Starts q.waiting → All (Late t l) r.written × All Starts r.queue.waiting

  late-responses : (n : ℕ) (g : List Session) → All (Late t l) (map (ended (Response n)) g)
  unfolding Late
  late-responses n [] = tt
  late-responses n (s ∷ g) = (tt, late-responses n g)

  late-out : (n : ℕ) (s : Session) → Late t l (ended (Complete n) s)
  unfolding Late
  late-out n s = λ e. absurd (clash false e refl)

  late-began : (s : Session) → Starts s → Late t l (began s)
  unfolding Late
  late-began s h = λ e. h

  late-failed : (s : Session) → Starts s → Late t l (ended Failed s)
  unfolding Late
  late-failed s h = λ e. h

  late-outs : (n : ℕ) (g : List Session) → All (Late t l) (map (ended (Complete n)) g)
  late-outs n [] = tt
  late-outs n (s ∷ g) = (late-out n s, late-outs n g)

  late-endings : (n m : ℕ) (p : Session → Bool) (k : List Session) → All (Late t l) (endings (Complete n) (Complete m) p k Record ended)
  unfolding endings
  late-endings n m p [] = tt
  late-endings n m p (s ∷ k) = all-put (Late t l) (p s) (ended (Complete n) s) (map (ended (Complete m)) (keep p k)) (λ e. late-out n s)
      (late-outs m (keep p k))

  late-dismissed : (n c x : ℕ) (q : Queue) → Lates q (dismissed n c x q)
  unfolding dismissed
  late-dismissed n c x q a = (late-responses n (followers c x q.waiting).gone, fewer-all Starts (followed c x q.waiting).fewer a)

  late-join : (q : Queue) (r s : Turn) → Lates q r → Lates r.queue s
      → Lates q (record { queue = s.queue; written = r.written ++ s.written })
  late-join q r s f g a = let b = f a in let c = g b.1 in (all_append (Late t l) r.written s.written b.0 c.0, c.1)

  late-ousted : (s : Session) (q : Queue) → Lates q (ousted s q)
  unfolding ousted and_then
  late-ousted s q a =
      let air = get_or q.started 0 empty in
      by (λ (r : Turn). All (Late t l) r.written × All Starts r.queue.waiting) (meets_equal s q.started) _ _
      (λ e. let d = late-dismissed 125 air.conn air.id (ending (one_end (Complete 125) air)
      (with_started (remove_at 0 q.started) q)).queue a in ((late-out 125 air, d.0), d.1))
      (λ e. (tt, a))

  late-launched : (s : Session) (q : Queue) → Starts s → Lates q (launched s q)
  unfolding launched and_then
  late-launched s q h a =
      by (λ (r : Turn). All (Late t l) r.written × All Starts r.queue.waiting) (may_start s q.started) _ _
      (λ e. let o = late-ousted s q a in (all_append (Late t l) (ousted s q).written (began s ∷ []) o.0 (late-began s h, tt), o.1))
      (λ e. let d = late-dismissed 109 s.conn s.id (ending (one_end Failed s) q).queue a in ((late-failed s h, d.0), d.1))

  late-start_at : (n : ℕ) (q : Queue) → Lates q (start_at n q)
  unfolding start_at
  late-start_at n q a =
      let i = place (starts_at n) q.waiting in
      by (λ (r : Turn). All (Late t l) r.written × All Starts r.queue.waiting) (ltb i (length q.waiting)) _ _
      (λ e. late-launched (get_or q.waiting i empty) (with_waiting (remove_at i q.waiting) q)
      (all_get_d Starts q.waiting i empty (ltb-true i (length q.waiting) e) a) (fewer-all Starts (fewer-remove_at i q.waiting) a))
      (λ e. (tt, a))

  late-instant : (n : ℕ) (q : Queue) → Lates q (instant n q)
  unfolding instant and_then end_at
  late-instant n q a = late-join q (end_at n q) (start_at n (end_at n q).queue) (λ b. (late-endings 100 125 (ends_at n) q.started, b))
      (late-start_at n (end_at n q).queue) a

  late-run : (n now until : ℕ) (q : Queue) → Lates q (run n now until q)
  unfolding elapse
  late-run n now until q a = run-law Lates (λ d u b. (tt, b)) late-instant late-join n now until q a

-- of what waits the history tells the start
told-starts : (t : ℕ) (l : List Airing) (w : List Session) → All (Waits l) w → All (λ s. t ≤ s.start.0) w → All (Starts t l) w
told-starts t l w a b =
    all-into (λ s. Waits l s × (t ≤ s.start.0)) (Starts t l) (λ s h. let e : (newest s.conn s.id l).start ≡ s.start.0 =
    ap (λ (x : Airing). x.start) h.0.told in omega (arith, h.1)) w
    (all_both (Waits l) (λ s. t ≤ s.start.0) w a b)

-- ## An instant: what is told later in the answer is told of no earlier time

waits_end : (β : Base) (now pr : ℕ) (q : Queue) (l : List Airing) → All (λ s. now ≤ s.start.0) q.waiting
    → Owned β now pr q.waiting q.started l → All (Starts now l) (end_at now q).queue.waiting
unfolding end_at
waits_end β now pr q l a o = told-starts now l q.waiting o.waits a

-- what does not end at now ends later
ends-left : (now : ℕ) (q : Queue) → All (λ x. now ≤ x.end.0) q.started → All (λ x. now ≤ x.end.0) (end_at now q).queue.started
unfolding end_at
ends-left now q a = all_keep (λ x. now ≤ x.end.0) (λ x. not (ends_at now x)) q.started a

pub instant-owned : (β : Base) (now pr u : ℕ) → now ≤ u → (q : Queue) (l : List Airing) → Due now q
    → Owned β now pr q.waiting q.started l → Now β now pr u q l (instant now q)
unfolding instant and_then
instant-owned β now pr u le q l d o =
    let v = (end_at now q).queue in
    let rs = (start_at now v).written in
    rw (heard_all-append u (end_at now q).written rs l)
    (start_at-owned β now pr u v (heard_all (by_then u l rs) (end_at now q).written l) (ends-left now q d.ends)
    (end_at-owned β now pr (by_then u l rs) (by_then-late now u l rs le (late-start_at now l now v (waits_end β now pr q l d.starts o)).0) q
    l o))

-- ## A tick

pub record Clocked (β : Base) (now pr : ℕ) (q : Queue) (l : List Airing) : Type 0 where
  pub timed : OnTime now q
  pub falling : Falling q.started
  pub owned : Owned β now pr q.waiting q.started l

elapse-clocked : (β : Base) (now pr t : ℕ) → now ≤ t → (q : Queue) (l : List Airing) → Falling q.started
    → Owned β now pr q.waiting q.started l
    → Owned β t (pr + silence (t - now) q.started) (elapse (t - now) q).waiting (elapse (t - now) q).started l
unfolding elapse
elapse-clocked β now pr t le q l f o = time-passes β now pr t le q.waiting l q.started f o

elapse-falling : (d : ℕ) (q : Queue) → Falling q.started → Falling (elapse d q).started
unfolding elapse
elapse-falling d q f = falling-on_air d q.started f

rest-clocked : (β : Base) (now pr until : ℕ) (q : Queue) (l : List Airing) → now ≤ until → Due (suc until) q → Clocked β now pr q l
    → Clocked β until (pr + silence (until - now) q.started) (elapse (until - now) q) l
rest-clocked β now pr until q l le d h =
    record {
      timed = elapse-timed until (until - now) q (wait-timed now until q d h.timed);
      falling = elapse-falling (until - now) q h.falling;
      owned = elapse-clocked β now pr until le q l h.falling h.owned;
    }

-- to the next instant t and through it, if what follows in the answer is told by the time v
moved-clocked : (β : Base) (now pr t v : ℕ) (q : Queue) (l : List Airing) → Due t q → 0 < meets t q → t ≤ v → Clocked β now pr q l
    → Clocked β t (pr + silence (t - now) q.started) (instant t (elapse (t - now) q)).queue
    (heard_all v (instant t (elapse (t - now) q)).written l)
moved-clocked β now pr t v q l d m le h =
    let lt = meets-after now t q h.timed m in
    let u = elapse (t - now) q in
    let e = elapse-due t (t - now) q d in
    record {
      timed = instant-timed t now u (elapse-timed now (t - now) q h.timed) e;
      falling = falling-instant t u (elapse-falling (t - now) q h.falling);
      owned = instant-owned β t (pr + silence (t - now) q.started) v le u l e
          (elapse-clocked β now pr t (omega arith) q l h.falling h.owned);
    }

-- no flag 0 of a later instant is of a session that starts before t
later-starts : (β : Base) (now pr t : ℕ) (q : Queue) (l : List Airing) → Due t q → Clocked β now pr q l
    → All (Starts t l) (instant t (elapse (t - now) q)).queue.waiting
unfolding elapse
later-starts β now pr t q l d h = fewer-all (Starts t l) (waiting-instant t (elapse (t - now) q))
    (told-starts t l q.waiting h.owned.waits d.starts)

pub run-clocked : (n : ℕ) (β : Base) (now pr until : ℕ) (q : Queue) (l : List Airing) → to_come q ≤ n → now ≤ until → Clocked β now pr q l
    → Clocked β until (pr + silent n now until q) (run n now until q).queue (heard_all until (run n now until q).written l)
unfolding and_then heard_all
run-clocked zero β now pr until q l f le h =
    let e : not_after until (due q) ≡ None = rw (due-none q f) in
    rw (run-stop zero now until q e, silent-stop zero now until q e) (rest-clocked β now pr until q l le (none-due (suc until) q f) h)
run-clocked (suc n) β now pr until q l f le h = go (not_after until (due q)) refl (run-clocked n β)
  where
    Runs : ℕ → ℕ → ℕ → Queue → List Airing → Type 0
    Runs n now pr q l = Clocked β until (pr + silent n now until q) (run n now until q).queue
        (heard_all until (run n now until q).written l)

    go : (a : Option Ninths) → not_after until (due q) ≡ a
        → ((t pr₁ until₁ : ℕ) (q₁ : Queue) (l₁ : List Airing) → to_come q₁ ≤ n → t ≤ until₁ → Clocked β t pr₁ q₁ l₁
        → Clocked β until₁ (pr₁ + silent n t until₁ q₁) (run n t until₁ q₁).queue (heard_all until₁ (run n t until₁ q₁).written l₁))
        → Runs (suc n) now pr q l
    go (Some t) e ih =
        let u = (moved now t.0 q).queue in
        let rs = (run n t.0 until u).written in
        let i = due-time until t q e in
        let d = due-first until t q e in
        let a = silence (t.0 - now) q.started in
        let less = moved-less now until t q e in
        let same : pr + (a + silent n t.0 until u) ≡ pr + a + silent n t.0 until u = omega arith in
        let v = by_then-late t.0 until l rs i (late-run t.0 l n t.0 until u (later-starts β now pr t.0 q l d h)).0 in
        rw (run_more n now until t q e, silent-more n now until t q e, same, heard_all-append until (moved now t.0 q).written rs l)
        (ih t.0 (pr + a) until u (heard_all (by_then until l rs) (moved now t.0 q).written l) (omega arith) i
        (moved-clocked β now pr t.0 (by_then until l rs) q l d (due-meets until t q e) v h))
    go None e ih = rw (run-stop (suc n) now until q e, silent-stop (suc n) now until q e)
        (rest-clocked β now pr until q l le (due-last until q e) h)

pub tick-clocked : (β : Base) (now pr until : ℕ) (q : Queue) (l : List Airing) → now ≤ until → Clocked β now pr q l
    → Clocked β until (pr + silent_all now until q) (run_all now until q).queue (heard_all until (run_all now until q).written l)
unfolding run_all silent_all
tick-clocked β now pr until q l le h = run-clocked (to_come q) β now pr until q l (omega arith) le h

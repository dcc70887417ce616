-- Followers, eviction, abort and close over verdicts are those of the two ordered lists. Assumes nothing.
use mathlib.Core.Path.{◌≡◌, refl, sym, ap, ap₂, fun_ext, ◌∙◌}
use mathlib.Core.Bool.{Bool, true, false, cond, not, ◌&&◌}
use mathlib.Core.List.{List, [], ◌∷◌, ◌++◌, map}
use Prim.Native.Nat.{ℕ, ◌≤◌, ◌<◌}
use native.Mathlib.Omega.{arith}
use lib.Dec.{eqb, ltb}
use lib.ListN.{length, get_or}
use borrow.Author.Tests.{ltb-true, lt-ltb, le-ltb}
use Rattle.rules.specs.declared.Session.{Session}
use Rattle.rules.specs.declared.Ending.{Ending}
use Rattle.rules.specs.declared.Ending.TheVariants.{Complete, Response}
use Rattle.rules.specs.Lists.{All, bit, put, keep, some, count, place, remove_at}
use Rattle.rules.specs.declared.Past.{Past}
use Rattle.rules.specs.Request.{nobody}
use Rattle.rules.specs.State.{Queue, empty, of, is, starts_at, holds, with_waiting, with_lately}
use Rattle.rules.specs.Follows.Wires.{Sorted}
use Rattle.rules.specs.Recent.{remembered_all}
use Rattle.rules.specs.Ends as ends
use Rattle.rules.specs.Ends.{ended, past}
use Rattle.rules.specs.Follows.Sound.{Each, Falling, Proper, Holding}
use Rattle.rules.proofs.All.{all-into}
use Rattle.rules.proofs.Every.{all_keep, all_get_d, none-some, fewer-keep, fewer-remove_at}
use Rattle.rules.proofs.Timed.{sorted-single}
use Rattle.rules.proofs.Priors.{Orderly, orderly-fewer}
use Rattle.rules.proofs.Chained.{holds-somebody}
use Rattle.rules.proofs.Sound.{in_order}
use Rattle.recall_rules.specs.Verdicts.{Phase, Out, is_waiting, has_started, Verdict, verdict, standing, which, session_of, as_ended}
use Rattle.recall_rules.specs.Verdicts.{over, turned, Same, Shows}
use Rattle.recall_rules.specs.Work.{Turn, writes, and_then, higher, started_ones, as_was, dismissed, evicted, cancelled}
use Rattle.recall_rules.specs.Work.{aborted, closed_by}
use Rattle.recall_rules.proofs.Same.{same_some}
use Rattle.recall_rules.proofs.Found.{found, same, there, left, others}
use Rattle.recall_rules.proofs.Lately.{More, more-set, more-over, more-then, more-walk, more-started, more-waiting, waiting-unended}
use Rattle.recall_rules.proofs.Lately.{found-unended, kept_more}
use Rattle.recall_rules.proofs.Walk.{waiting-apart, followers-same}
use Rattle.recall_rules.proofs.Leaving.{same_not, waiting-same, started-same}

-- the same records, and the verdicts show what is held
pub record SameTurn (a : Turn) (b : ends.Turn) : Type 0 where
  pub written : a.written ≡ b.written
  pub shows : Shows a.verdicts b.queue

pub then_same : (a : Turn) (b : ends.Turn) (f : List Verdict → Turn) (g : Queue → ends.Turn) → SameTurn a b
    → SameTurn (f a.verdicts) (g b.queue)
    → SameTurn (and_then a f) (ends.and_then b g)
unfolding and_then ends.and_then
then_same a b f g h k = record { written = ap₂ (λ x y. x ++ y) h.written k.written; shows = k.shows }

-- a choice that both make
pub chosen : {A B : Type 0} (R : A → B → Type 0) (c : Bool) (a x : A) (b y : B) → (c ≡ true → R a b) → (c ≡ false → R x y)
    → R (cond c a x) (cond c b y)
chosen R true a x b y f g = f refl
chosen R false a x b y f g = g refl

-- the orders that the two lists have
pub record Fit (q : Queue) : Type 0 where
  pub sorted : Sorted q.waiting
  pub orderly : Orderly q.waiting
  pub falling : Falling q.started

pub fit : {now : ℕ} {q : Queue} → Holding now q → Fit q
fit h = record { sorted = h.timed.sorted; orderly = in_order h; falling = h.falling }

-- the one that waits and passes p no longer waits
module _ (p : Session → Bool) (l : List Verdict) (q : Queue) (e : Shows l q) (one : count p q.waiting ≤ 1)
    (k : which is_waiting p l < length l) where
  abbrev less_one : Queue
  less_one = with_waiting (remove_at (place p q.waiting) q.waiting) q

  -- es: what ended by that
  without : (f : Phase) (es : List Past) → is_waiting f ≡ false → has_started f ≡ false → More l es (turned (which is_waiting p l) f l)
      → Shows (turned (which is_waiting p l) f l) (with_lately (remembered_all es q.lately) less_one)
  without f es z y a =
      record {
        waiting = left is_waiting p l q.waiting e.waiting one k f z;
        started = λ r. omega (
          arith,
          e.started r,
          others is_waiting has_started p l (verdict f (session_of l (which is_waiting p l)))
              waiting-apart k r,
          not-started r,
        );
        lately = kept_more l _ q es e a;
        numbered = a.numbered;
      }
    where
      not-started : (r : Session → Bool) → bit (has_started f && r (session_of l (which is_waiting p l))) ≡ 0
      not-started r = rw y

  pub without-out : Shows (turned (which is_waiting p l) Out l) less_one
  unfolding remembered_all
  without-out =
      let i = which is_waiting p l in
      without Out [] refl refl (more-set l i (verdict Out (session_of l i)) k (found-unended is_waiting p l waiting-unended k) e.numbered
      refl)

  pub without_end : (how : Ending) → Shows (over how (which is_waiting p l) l)
      (ends.ending (ends.one_end how (session_of l (which is_waiting p l))) less_one).queue
  without_end how =
      let i = which is_waiting p l in
      without (as_ended how (session_of l i) l) (past how (session_of l i) ∷ []) refl refl
      (more-over how l i k (found-unended is_waiting p l waiting-unended k) e.numbered)

  pub has-number : Orderly q.waiting → eqb (session_of l (which is_waiting p l)).id nobody ≡ false
  has-number o =
      rw (← (same is_waiting p l q.waiting e.waiting one k))
      (all_get_d Proper q.waiting (place p q.waiting) empty (there is_waiting p l q.waiting e.waiting one k)
      o.proper).somebody

-- ## Followers and eviction

pub dismissed-same : (r c x : ℕ) (l : List Verdict) (q : Queue) → Shows l q → Orderly q.waiting → eqb x nobody ≡ false
    → SameTurn (dismissed r c x l) (ends.dismissed r c x q)
unfolding dismissed ends.dismissed
dismissed-same r c x l q e o z =
    let f = followers-same (Response r) c x l q.waiting e.waiting o z in
    let a = more-walk (Response r) (length l) c x l e.numbered in
    record {
      written = ap (map (ended (Response r))) f.gone;
      shows = record {
        waiting = f.left;
        started = λ t. f.others t ∙ e.started t;
        lately = ap (λ g. remembered_all (map (past (Response r)) g) q.lately) (sym f.gone) ∙ kept_more l _ q _ e a;
        numbered = a.numbered;
      };
    }

pub evicted-same : (t : ℕ) (l : List Verdict) (q : Queue) → Shows l q → Sorted q.waiting → Orderly q.waiting
    → SameTurn (evicted t l) (ends.evicted t q)
unfolding evicted ends.evicted ends.evicted_at
evicted-same t l q e s o =
    rw (← (found is_waiting (starts_at t) l q.waiting e.waiting))
    (chosen SameTurn (ltb (which is_waiting (starts_at t) l) (length l)) _ _ _ _
    (λ f. one (ltb-true (which is_waiting (starts_at t) l) (length l) f)) (λ f. record { written = refl; shows = e }))
  where
    i : ℕ
    i = which is_waiting (starts_at t) l

    j : ℕ
    j = place (starts_at t) q.waiting

    u : Session
    u = session_of l i

    one : i < length l
        → SameTurn (and_then (writes (ended (Response 109) u ∷ []) (over (Response 109) i l)) (dismissed 109 u.conn u.id))
        (ends.and_then (ends.ending (ends.one_end (Response 109) (get_or q.waiting j empty)) (with_waiting (remove_at j q.waiting) q))
        (ends.dismissed 109 (get_or q.waiting j empty).conn (get_or q.waiting j empty).id))
    one k =
        let c = sorted-single t q.waiting s in
        let v = without_end (starts_at t) l q e c k (Response 109) in
        rw (same is_waiting (starts_at t) l q.waiting e.waiting c k)
        (then_same _ _ (dismissed 109 u.conn u.id) (ends.dismissed 109 u.conn u.id) (record { written = refl; shows = v })
        (dismissed-same 109 u.conn u.id (over (Response 109) i l) _ v (orderly-fewer q.waiting _ (fewer-remove_at j q.waiting) o)
        (has-number (starts_at t) l q e c k o)))

-- ## Ends of started ones: the first of those that fall is on air

module _ (air cover : Ending) {A : Type 0} (end : Ending → Session → A) where
  abbrev by_rank : List Session → Session → A
  by_rank k s = end (cond (not (some (λ u. higher u s) k)) air cover) s

  map-all : (f g : Session → A) (l : List Session) → All (λ s. f s ≡ g s) l → map f l ≡ map g l
  map-all f g [] a = refl
  map-all f g (s ∷ l) a = ap₂ (λ x y. x ∷ y) a.0 (map-all f g l a.1)

  endings-rank : (p : Session → Bool) (k : List Session) → Falling k → map (by_rank k) (keep p k) ≡ ends.endings air cover p k A end
  unfolding ends.endings
  endings-rank p [] o = refl
  endings-rank p (s ∷ k) o = go (p s)
    where
      none_above : some (λ u. higher u s) k ≡ false
      none_above = none-some (λ u. higher u s) k (all-into (λ u. u.access < s.access) (λ u. higher u s ≡ false)
          (λ u h. le-ltb s.access u.access (omega arith)) k o.0)

      covered : map (by_rank (s ∷ k)) (keep p k) ≡ map (end cover) (keep p k)
      covered =
          map-all (by_rank (s ∷ k)) (end cover) (keep p k) (all_keep (λ u. by_rank (s ∷ k) u ≡ end cover u) p k
          (all-into (λ u. u.access < s.access) (λ u. by_rank (s ∷ k) u ≡ end cover u) (λ u h. rw (lt-ltb u.access s.access h)) k
          o.0))

      go : (b : Bool) → map (by_rank (s ∷ k)) (put b s (keep p k)) ≡ put b (end air s) (map (end cover) (keep p k))
      go true = ap₂ (λ x y. x ∷ y) (rw (same_not s.access, none_above)) covered
      go false = covered

  pub endings-same : (p : Session → Bool) (l : List Verdict) (k : List Session) → Same (standing has_started l) k → Falling k
      → map (λ s. end (as_was air cover l s) s) (started_ones p (as_was air cover l) l).gone ≡ ends.endings air cover p k A end
  endings-same p l k e o = ap₂ map same_rank (started-same p l k (as_was air cover l) e o).gone ∙ endings-rank p k o
    where
      same_rank : ◌≡◌ {A = Session → A} (λ s. end (as_was air cover l s) s) (by_rank k)
      same_rank = fun_ext (λ s. ap (λ b. end (cond (not b) air cover) s) (same_some (λ u. higher u s) (standing has_started l) k e))

-- ## Abort and close

pub cancelled-same : (p : Session → Bool) (l : List Verdict) (q : Queue) → Shows l q → Sorted q.waiting → Falling q.started
    → SameTurn (cancelled p l) (ends.cancelled p q)
unfolding cancelled ends.cancelled
cancelled-same p l q e s o =
    let how = as_was (Complete 116) (Response 116) l in
    let a = started-same p l q.started how e.started o in
    let b = waiting-same p (started_ones p how l).left q.waiting (Response 116) (λ r. a.others r ∙ e.waiting r) s in
    let f = more-started p how l e.numbered in
    let g = more-waiting p (Response 116) (started_ones p how l).left f.numbered in
    record {
      written = ap₂ (λ x y. x ++ y) (endings-same (Complete 116) (Response 116) ended p l q.started e.started o)
          (ap (map (ended (Response 116))) b.gone);
      shows = record {
        waiting = b.left;
        started = λ r. b.others r ∙ a.left r;
        lately = ap₂ (λ x y. remembered_all (x ++ y) q.lately) (sym
            (endings-same (Complete 116) (Response 116) past p l q.started e.started o))
            (ap (map (past (Response 116))) (sym b.gone))
            ∙ kept_more l _ q _ e (more-then l _ _ _ _ f g);
        numbered = g.numbered;
      };
    }

pub closed_by-same : (c : ℕ) (l : List Verdict) (q : Queue) → Shows l q → Fit q → SameTurn (closed_by c l) (ends.closed_by c q)
unfolding closed_by ends.closed_by
closed_by-same c l q e f = cancelled-same (of c) l q e f.sorted f.falling

pub aborted-same : (c x : ℕ) (l : List Verdict) (q : Queue) → Shows l q → Fit q → Each Proper q → holds c x q ≡ true
    → SameTurn (aborted c x l) (ends.aborted c x q)
unfolding aborted ends.aborted ends.cancelled
aborted-same c x l q e f a h =
    let b = cancelled-same (is c x) l q e f.sorted f.falling in
    then_same _ _ (dismissed 116 c x) (ends.dismissed 116 c x) b
    (dismissed-same 116 c x _ _ b.shows (orderly-fewer q.waiting _ (fewer-keep (λ s. not (is c x s)) q.waiting) f.orderly)
    (holds-somebody c x q a h))

-- 02, CR 8: each end has its number, and one more end is told behind those before. Assumes nothing.
use mathlib.Core.Path.{◌≡◌, refl, sym, ap, ap₂, ◌∙◌}
use mathlib.Core.Bool.{Bool, true, false, cond}
use mathlib.Core.List.{List, [], ◌∷◌, ◌++◌, map}
use Prim.Native.Nat.{ℕ, zero, suc, ◌+◌, ◌<◌}
use native.Mathlib.Omega.{arith}
use lib.Dec.{eqb, ltb}
use lib.ListN.{length, get_or, set, take, length-set}
use borrow.Author.Tests.{ltb-true, eq-eqb, ne_eqb}
use Rattle.rules.specs.declared.Session.{Session}
use Rattle.rules.specs.declared.Past.{Past}
use Rattle.rules.specs.declared.Ending.{Ending}
use Rattle.rules.specs.Lists.{bit, count, place}
use Rattle.rules.specs.Recent as lately
use Rattle.rules.specs.State.{Queue, Lately, follows}
use Rattle.rules.specs.Recent.{most_kept, unused, none_ended, remembered, remembered_all, recent_from}
use Rattle.rules.specs.Ends.{past}
use Rattle.rules.proofs.Tests.{clash, by, and_both}
use Rattle.rules.proofs.Count.{place-holds}
use Rattle.rules.proofs.Lately.{remembered-append, recent-next}
use Rattle.recall_rules.specs.Verdicts.{Phase, Out, Waits, Started, Ended, is_waiting, has_started, has_ended, Verdict, none, verdict}
use Rattle.recall_rules.specs.Verdicts.{stands, which, session_of, ends, as_ended, over, first, is_end, ended_as, past_of, nth_end}
use Rattle.recall_rules.specs.Verdicts.{lately_from, recent, ends_below, pasts, Numbered, Shows}
use Rattle.recall_rules.specs.Work.{Walk, walk, leaving, earlier, higher, started_ones, waiting_ones}

-- ## A list with one element made anew, or one more

count_set : (p : Verdict → Bool) (l : List Verdict) (i : ℕ) (v : Verdict) → i < length l
    → bit (p (get_or l i none)) + count p (set l i v) ≡ bit (p v) + count p l
count_set p [] i v k = absurd (omega arith)
count_set p (u ∷ l) zero v k = omega arith
count_set p (u ∷ l) (suc i) v k = omega (arith, count_set p l i v (omega arith))

count-more : (p : Verdict → Bool) (l : List Verdict) (v : Verdict) → count p (l ++ (v ∷ [])) ≡ bit (p v) + count p l
count-more p [] v = refl
count-more p (u ∷ l) v = omega (arith, count-more p l v)

-- a change that the test does not see
unseen : (p : Verdict → Bool) (l : List Verdict) (i : ℕ) (v : Verdict) → p v ≡ false → p (get_or l i none) ≡ false
    → get_or (set l i v) (place p (set l i v)) none ≡ get_or l (place p l) none
unfolding place
unseen p [] i v e f = refl
unseen p (u ∷ l) zero v e f = rw (e, f)
unseen p (u ∷ l) (suc i) v e f = go (p u) (unseen p l i v e f)
  where
    go : (b : Bool) → get_or (set l i v) (place p (set l i v)) none ≡ get_or l (place p l) none
        → get_or (u ∷ set l i v) (cond b 0 (suc (place p (set l i v)))) none ≡ get_or (u ∷ l) (cond b 0 (suc (place p l))) none
    go true ih = refl
    go false ih = ih

unseen-more : (p : Verdict → Bool) (l : List Verdict) (v : Verdict) → p v ≡ false
    → get_or (l ++ (v ∷ [])) (place p (l ++ (v ∷ []))) none ≡ get_or l (place p l) none
unfolding place
unseen-more p [] v e = rw e
unseen-more p (u ∷ l) v e = go (p u) (unseen-more p l v e)
  where
    go : (b : Bool) → get_or (l ++ (v ∷ [])) (place p (l ++ (v ∷ []))) none ≡ get_or l (place p l) none
        → get_or (u ∷ (l ++ (v ∷ []))) (cond b 0 (suc (place p (l ++ (v ∷ []))))) none ≡ get_or (u ∷ l) (cond b 0 (suc (place p l))) none
    go true ih = refl
    go false ih = ih

-- the one that it sees
seen : (p : Verdict → Bool) (l : List Verdict) (i : ℕ) (v : Verdict) → i < length l → p v ≡ true → count p l ≡ 0
    → get_or (set l i v) (place p (set l i v)) none ≡ v
unfolding place
seen p [] i v k e z = absurd (omega arith)
seen p (u ∷ l) zero v k e z = rw e
seen p (u ∷ l) (suc i) v k e z = go (p u) z (seen p l i v (omega arith) e)
  where
    go : (b : Bool) → bit b + count p l ≡ 0 → (count p l ≡ 0 → get_or (set l i v) (place p (set l i v)) none ≡ v)
        → get_or (u ∷ set l i v) (cond b 0 (suc (place p (set l i v)))) none ≡ v
    go true z ih = absurd (omega arith)
    go false z ih = ih (omega arith)

-- ## After some ends

-- m, after es ended in l
pub record More (l : List Verdict) (es : List Past) (m : List Verdict) : Type 0 where
  pub told : pasts m ≡ pasts l ++ es
  pub numbered : Numbered m

behind-none : (a : List Past) → a ≡ a ++ []
behind-none [] = refl
behind-none (e ∷ a) = ap (λ x. e ∷ x) (behind-none a)

behind-both : (a b c : List Past) → (a ++ b) ++ c ≡ a ++ (b ++ c)
behind-both [] b c = refl
behind-both (e ∷ a) b c = ap (λ x. e ∷ x) (behind-both a b c)

pub more-none : (l : List Verdict) → Numbered l → More l [] l
more-none l o = record { told = behind-none (pasts l); numbered = o }

pub more-then : (l m n : List Verdict) (a b : List Past) → More l a m → More m b n → More l (a ++ b) n
more-then l m n a b f g =
    record { told = g.told ∙ (ap (λ x. x ++ b) f.told ∙ behind-both (pasts l) a b); numbered = g.numbered }

not-it : (n : ℕ) (f : Phase) → has_ended f ≡ false → is_end n f ≡ false
not-it n Out e = refl
not-it n Waits e = refl
not-it n Started e = refl
not-it n (Ended m r) e = absurd (clash true refl e)

-- the verdict of call i, which had not ended, becomes v
module _ (l : List Verdict) (i : ℕ) (v : Verdict) (k : i < length l) (was : has_ended (get_or l i none).phase ≡ false) (o : Numbered l)
  where
    below-same : (n : ℕ) → ((a : ℕ) → a < n → is_end a v.phase ≡ false) → ends_below n (set l i v) ≡ ends_below n l
    below-same zero f = refl
    below-same (suc n) f =
        ap₂ (λ x y. x ++ (y ∷ [])) (below-same n (λ a h. f a (omega arith)))
        (ap past_of (unseen (ended_as n) l i v (f n (omega arith)) (not-it n (get_or l i none).phase was)))

    -- and has not
    pub more-set : has_ended v.phase ≡ false → More l [] (set l i v)
    more-set e =
        record {
          told = rw same_ends (below-same (ends l) (λ a h. not-it a v.phase e) ∙ behind-none (pasts l));
          numbered = λ n h. omega (
            arith,
            same_ends,
            count_set (ended_as n) l i v k,
            ap bit (not-it n (get_or l i none).phase was),
            ap bit (not-it n v.phase e),
            o n (omega (arith, same_ends)),
          );
        }
      where
        same_ends : ends (set l i v) ≡ ends l
        same_ends = omega (arith, count_set (λ u. has_ended u.phase) l i v k, ap bit was, ap bit e)

    -- and has, as the next of all
    more-next : has_ended v.phase ≡ true → ((n : ℕ) → is_end n v.phase ≡ eqb n (ends l)) → More l (past_of v ∷ []) (set l i v)
    more-next e f =
        record {
          told = rw one_more
              (ap₂ (λ x y. x ++ (y ∷ [])) (below-same (ends l) (λ a h. f a ∙ ne_eqb a (ends l) (λ g. omega arith)))
              (ap past_of (seen (ended_as (ends l)) l i v k (f (ends l) ∙ eq-eqb (ends l) (ends l) refl) (o (ends l) (omega arith)))));
          numbered = λ n h. omega (
            arith,
            one_more,
            count_set (ended_as n) l i v k,
            ap bit (not-it n (get_or l i none).phase was),
            ap bit (f n ∙ ne_eqb n (ends l) (λ g. omega (arith, one_more))),
            o n (omega (arith, one_more)),
          );
        }
      where
        one_more : ends (set l i v) ≡ suc (ends l)
        one_more = omega (arith, count_set (λ u. has_ended u.phase) l i v k, ap bit was, ap bit e)

-- the session of call i ends
pub more-over : (how : Ending) (l : List Verdict) (i : ℕ) → i < length l → has_ended (get_or l i none).phase ≡ false → Numbered l
    → More l (past how (session_of l i) ∷ []) (over how i l)
more-over how l i k was o = more-next l i (verdict (as_ended how (session_of l i) l) (session_of l i)) k was o refl (λ n. refl)

-- one more that has not ended
pub more-append : (l : List Verdict) (v : Verdict) → has_ended v.phase ≡ false → Numbered l → More l [] (l ++ (v ∷ []))
more-append l v e o =
    record {
      told = rw same_ends (below (ends l) ∙ behind-none (pasts l));
      numbered = λ n h. omega (
        arith,
        same_ends,
        count-more (ended_as n) l v,
        ap bit (not-it n v.phase e),
        o n (omega (arith, same_ends)),
      );
    }
  where
    same_ends : ends (l ++ (v ∷ [])) ≡ ends l
    same_ends = omega (arith, count-more (λ u. has_ended u.phase) l v, ap bit e)

    below : (n : ℕ) → ends_below n (l ++ (v ∷ [])) ≡ ends_below n l
    below zero = refl
    below (suc n) = ap₂ (λ x y. x ++ (y ∷ [])) (below n) (ap past_of (unseen-more (ended_as n) l v (not-it n v.phase e)))

-- ## Those that leave

abbrev pub Unended : (Phase → Bool) → Type 0
Unended h = (f : Phase) → h f ≡ true → has_ended f ≡ false

pub waiting-unended : Unended is_waiting
waiting-unended Out e = refl
waiting-unended Waits e = refl
waiting-unended Started e = refl
waiting-unended (Ended n r) e = sym e

pub started-unended : Unended has_started
started-unended Out e = refl
started-unended Waits e = refl
started-unended Started e = refl
started-unended (Ended n r) e = sym e

-- one that stands so and is found has not ended
pub found-unended : (h : Phase → Bool) (p : Session → Bool) (l : List Verdict) → Unended h → which h p l < length l
    → has_ended (get_or l (which h p l) none).phase ≡ false
found-unended h p l u k =
    u (get_or l (which h p l) none).phase (and_both (h (get_or l (which h p l) none).phase) (p (session_of l (which h p l)))
    (place-holds (stands h p) l none k)).0

pub more-walk : (how : Ending) (n c x : ℕ) (l : List Verdict) → Numbered l
    → More l (map (past how) (walk how n c x l).gone) (walk how n c x l).left
unfolding walk
more-walk how zero c x l o = more-none l o
more-walk how (suc n) c x l o =
    by (λ (w : Walk). More l (map (past how) w.gone) w.left) (ltb i (length l)) _ _
    (λ e. let k = ltb-true i (length l) e in
    let a = more-over how l i k (found-unended is_waiting (follows c x) l waiting-unended k) o in
    more-then l (over how i l) _ _ _ a (more-walk how n c (session_of l i).id (over how i l) a.numbered))
    (λ e. more-none l o)
  where
    i : ℕ
    i = which is_waiting (follows c x) l

pub more-leaving : (h : Phase → Bool) (before : Session → Session → Bool) (p : Session → Bool) (how : Session → Ending) → Unended h
    → (n : ℕ) (l : List Verdict) → Numbered l → let f = leaving h before p how n l in More l (map (λ s. past (how s) s) f.gone) f.left
unfolding leaving
more-leaving h before p how u zero l o = more-none l o
more-leaving h before p how u (suc n) l o =
    by (λ (w : Walk). More l (map (λ s. past (how s) s) w.gone) w.left) (ltb i (length l)) _ _
    (λ e. let k = ltb-true i (length l) e in
    let a = more-over (how (session_of l i)) l i k (found-unended h (first h before p l) l u k) o in
    more-then l (over (how (session_of l i)) i l) _ _ _ a (more-leaving h before p how u n (over (how (session_of l i)) i l) a.numbered))
    (λ e. more-none l o)
  where
    i : ℕ
    i = which h (first h before p l) l

pub more-started : (p : Session → Bool) (how : Session → Ending) (l : List Verdict) → Numbered l
    → let f = started_ones p how l in More l (map (λ s. past (how s) s) f.gone) f.left
unfolding started_ones
more-started p how l o = more-leaving has_started higher p how started-unended (length l) l o

pub more-waiting : (p : Session → Bool) (how : Ending) (l : List Verdict) → Numbered l
    → let f = waiting_ones p how l in More l (map (past how) f.gone) f.left
unfolding waiting_ones
more-waiting p how l o = more-leaving is_waiting earlier p (λ s. how) waiting-unended (length l) l o

-- ## What is kept

-- the ends are kept behind those before
pub kept_more : (l m : List Verdict) (q : Queue) (es : List Past) → Shows l q → More l es m
    → remembered_all es q.lately ≡ remembered_all (pasts m) none_ended
kept_more l m q es e a = ap (remembered_all es) e.lately ∙ (sym (remembered-append (pasts l) es none_ended)
    ∙ ap (λ x. remembered_all x none_ended) (sym a.told))

pub kept_same : (l m : List Verdict) (q : Queue) → Shows l q → More l [] m → q.lately ≡ remembered_all (pasts m) none_ended
unfolding remembered_all
kept_same l m q e a = kept_more l m q [] e a

record Ring (r : Lately) : Type 0 where
  sixteen : length r.places ≡ most_kept
  next : r.next < most_kept

ring-all : (es : List Past) (r : Lately) → Ring r → Ring (remembered_all es r)
unfolding remembered_all remembered
ring-all [] r h = h
ring-all (e ∷ es) r h = ring-all es (remembered e r) (record {
  sixteen = length-set r.places r.next e ∙ h.sixteen;
  next =
      omega arith;
})

shorter : (k n : ℕ) (l : List Verdict) → take k (lately_from (suc k) n l) ≡ lately_from k n l
unfolding lately_from
shorter zero zero l = refl
shorter zero (suc n) l = refl
shorter (suc k) zero l = ap (λ x. unused ∷ x) (shorter k zero l)
shorter (suc k) (suc n) l = ap (λ x. nth_end n l ∷ x) (shorter k n l)

recent-below : (n : ℕ) (l : List Verdict) → lately.recent (remembered_all (ends_below n l) none_ended) ≡ lately_from most_kept n l
unfolding remembered_all lately.recent recent_from lately.recent_at lately_from
recent-below zero l = refl
recent-below (suc n) l =
    let r = remembered_all (ends_below n l) none_ended in
    let h = ring-all (ends_below n l) none_ended (record { sixteen = refl; next = omega arith }) in
    ap lately.recent (remembered-append (ends_below n l) (nth_end n l ∷ []) none_ended)
    ∙ (recent-next (nth_end n l) r h.sixteen h.next
    ∙ (ap (λ x. take most_kept (nth_end n l ∷ x)) (recent-below n l) ∙ ap (λ x. nth_end n l ∷ x) (shorter 15 n l)))

-- the ended verdicts with the latest ends are those that are kept
pub recent-same : (l : List Verdict) (q : Queue) → Shows l q → lately.recent q.lately ≡ recent l
recent-same l q e = ap lately.recent e.lately ∙ recent-below (ends l) l

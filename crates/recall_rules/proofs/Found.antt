-- A call that is found is the session that the ordered list has there; what a changed verdict does to the counts. Assumes nothing.
use mathlib.Core.Path.{◌≡◌, refl, sym, ap, ◌∙◌}
use mathlib.Core.Bool.{Bool, true, false, ◌&&◌, ◌||◌}
use mathlib.Core.List.{List, [], ◌∷◌, ◌++◌}
use Prim.Native.Nat.{ℕ, zero, suc, ◌+◌, ◌≤◌, ◌<◌}
use native.Mathlib.Omega.{arith}
use lib.Dec.{ltb}
use lib.ListN.{length, get_or, set}
use borrow.Author.Tests.{ltb-true, lt-ltb}
use Rattle.rules.specs.declared.Session.{Session}
use Rattle.rules.specs.Lists.{bit, put, some, count, place, remove_at}
use Rattle.rules.specs.State.{Queue, empty, held}
use Rattle.rules.proofs.Tests.{and_both, both-and}
use Rattle.rules.proofs.Count.{count-put, count-append, count-remove_at, place-holds, some-place}
use Rattle.recall_rules.specs.Verdicts.{Phase, Out, Waits, Started, Ended, is_waiting, has_started, is_held, Verdict, none, verdict}
use Rattle.recall_rules.specs.Verdicts.{standing, stands, which, session_of, turned, Same, Shows}
use Rattle.recall_rules.proofs.Same.{same_some, same-one}

module _ (h : Phase → Bool) where
  some-put : (p : Session → Bool) (b : Bool) (s : Session) (l : List Session) → some p (put b s l) ≡ ((b && p s) || some p l)
  some-put p true s l = refl
  some-put p false s l = refl

  -- looking through the calls is looking through those that stand so
  pub some-stands : (p : Session → Bool) (l : List Verdict) → some (stands h p) l ≡ some p (standing h l)
  some-stands p [] = refl
  some-stands p (v ∷ l) = rw (some-put p (h v.phase) v.session (standing h l), some-stands p l)

  pub length-standing : (l : List Verdict) → length (standing h l) ≤ length l
  length-standing [] = omega arith
  length-standing (v ∷ l) = go (h v.phase) (length-standing l)
    where
      go : (b : Bool) → length (standing h l) ≤ length l → length (put b v.session (standing h l)) ≤ suc (length l)
      go true ih = omega arith
      go false ih = omega arith

  pub count-appended : (r : Session → Bool) (l : List Verdict) (v : Verdict)
      → count r (standing h (l ++ (v ∷ []))) ≡ bit (h v.phase && r v.session) + count r (standing h l)
  count-appended r [] v = count-put r (h v.phase) v.session []
  count-appended r (u ∷ l) v = omega (
    arith,
    count-put r (h u.phase) u.session (standing h (l ++ (v ∷ []))),
    count-put r (h u.phase) u.session (standing h l),
    count-appended r l v,
  )

  -- the verdict of call i becomes v
  pub count_set : (r : Session → Bool) (l : List Verdict) (i : ℕ) (v : Verdict) → i < length l
      → bit (stands h r (get_or l i none)) + count r (standing h (set l i v)) ≡ bit (stands h r v) + count r (standing h l)
  count_set r [] i v k = absurd (omega arith)
  count_set r (u ∷ l) zero v k = omega (
    arith,
    count-put r (h u.phase) u.session (standing h l),
    count-put r (h v.phase) v.session (standing h l),
  )
  count_set r (u ∷ l) (suc i) v k =
      omega (
        arith,
        count-put r (h u.phase) u.session (standing h l),
        count-put r (h u.phase) u.session (standing h (set l i v)),
        count_set r l i v (omega arith),
      )

  -- call i is among those that stand so
  pub counted-at : (r : Session → Bool) (l : List Verdict) (i : ℕ) → i < length l → stands h r (get_or l i none) ≡ true
      → 0 < count r (standing h l)
  counted-at r [] i k e = absurd (omega arith)
  counted-at r (v ∷ l) zero k e = omega (arith, count-put r (h v.phase) v.session (standing h l), ap bit e)
  counted-at r (v ∷ l) (suc i) k e = omega (arith, count-put r (h v.phase) v.session (standing h l), counted-at r l i (omega arith) e)

  -- ## The one that passes p, where at most one does
  module _ (p : Session → Bool) (l : List Verdict) (w : List Session) (e : Same (standing h l) w) where
    pub found : ltb (which h p l) (length l) ≡ ltb (place p w) (length w)
    found = sym (some-place (stands h p) l) ∙ (some-stands p l ∙ (same_some p (standing h l) w e ∙ some-place p w))

    module _ (one : count p w ≤ 1) (k : which h p l < length l) where
      pub passes : (h (get_or l (which h p l) none).phase ≡ true) × (p (session_of l (which h p l)) ≡ true)
      passes = and_both (h (get_or l (which h p l) none).phase) (p (session_of l (which h p l))) (place-holds (stands h p) l none k)

      pub there : place p w < length w
      there = ltb-true (place p w) (length w) (sym found ∙ lt-ltb (which h p l) (length l) k)

      pub same : get_or w (place p w) empty ≡ session_of l (which h p l)
      same = same-one p (standing h l) w e one (session_of l (which h p l)) counted passes.1
        where
          counted : (r : Session → Bool) → r (session_of l (which h p l)) ≡ true → 0 < count r (standing h l)
          counted r g = counted-at r l (which h p l) k (both-and (h (get_or l (which h p l) none).phase) (r (session_of l (which h p l)))
              passes.0 g)

      -- once its verdict is another, it is not among them
      pub left : (f : Phase) → h f ≡ false → Same (standing h (turned (which h p l) f l)) (remove_at (place p w) w)
      left f z r =
          omega (
            arith,
            e r,
            count_set r l (which h p l) (verdict f (session_of l (which h p l))) k,
            count-remove_at r (place p w) w empty there,
            ap (λ y. bit (r y)) same,
            was,
            is-not,
          )
        where
          was : bit (stands h r (get_or l (which h p l) none)) ≡ bit (r (session_of l (which h p l)))
          was = rw passes.0

          is-not : bit (h f && r (session_of l (which h p l))) ≡ 0
          is-not = rw z

-- those that stand otherwise before and after are as they were
pub others : (h g : Phase → Bool) (p : Session → Bool) (l : List Verdict) (v : Verdict) → ((f : Phase) → h f ≡ true → g f ≡ false)
    → which h p l < length l
    → (r : Session → Bool) → count r (standing g (set l (which h p l) v)) ≡ bit (stands g r v) + count r (standing g l)
others h g p l v apart k r = omega (arith, count_set g r l (which h p l) v k, was)
  where
    i : ℕ
    i = which h p l

    was : bit (stands g r (get_or l i none)) ≡ 0
    was = rw (apart (get_or l i none).phase (and_both (h (get_or l i none).phase) (p (session_of l i))
        (place-holds (stands h p) l none k)).0)

-- those that are held are those that wait and those that have started
pub shows-held : (l : List Verdict) (q : Queue) → Shows l q → Same (standing is_held l) (held q)
shows-held l q e r = omega (arith, parts l, e.waiting r, e.started r, count-append r q.waiting q.started)
  where
    parts : (l : List Verdict) → count r (standing is_held l) ≡ count r (standing is_waiting l) + count r (standing has_started l)
    parts [] = refl
    parts (v ∷ l) = go v.phase (parts l)
      where
        go : (f : Phase) → count r (standing is_held l) ≡ count r (standing is_waiting l) + count r (standing has_started l)
            → count r (put (is_held f) v.session (standing is_held l)) ≡ count r (put (is_waiting f) v.session (standing is_waiting l))
            + count r (put (has_started f) v.session (standing has_started l))
        go Out ih = ih
        go Waits ih = omega arith
        go Started ih = omega arith
        go (Ended n k) ih = ih

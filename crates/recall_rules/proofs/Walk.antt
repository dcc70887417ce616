-- Followers, from call to call, are 01's followers. Assumes nothing.
use mathlib.Core.Path.{◌≡◌, refl, sym, ap}
use mathlib.Core.Bool.{Bool, true, false, cond}
use mathlib.Core.List.{List, [], ◌∷◌}
use Prim.Native.Nat.{ℕ, zero, suc, ◌≤◌, ◌<◌}
use native.Mathlib.Omega.{arith}
use lib.Dec.{eqb, ltb}
use lib.ListN.{length, get_or}
use borrow.Author.Tests.{ltb-true, le-ltb}
use Rattle.rules.specs.declared.Session.{Session}
use Rattle.rules.specs.declared.Ending.{Ending}
use Rattle.rules.specs.Lists.{count, place, remove_at}
use Rattle.rules.specs.Request.{nobody}
use Rattle.rules.specs.State.{empty, follows}
use Rattle.rules.specs.Ends as ends
use Rattle.rules.specs.Follows.Sound.{Proper}
use Rattle.rules.proofs.Count.{length-remove_at}
use Rattle.rules.proofs.Every.{all_get_d, fewer-remove_at}
use Rattle.rules.proofs.Priors.{Orderly, orderly-fewer}
use Rattle.recall_rules.specs.Verdicts.{Phase, Out, Waits, Started, Ended, is_waiting, has_started, Verdict, verdict, standing, which}
use Rattle.recall_rules.specs.Verdicts.{session_of, as_ended, over, Same}
use Rattle.recall_rules.specs.Work.{Walk, walk}
use Rattle.recall_rules.proofs.Same.{same_length}
use Rattle.recall_rules.proofs.Found.{length-standing, found, same, there, left, others}

-- those of h that went, those of h that are left, and those of g as they were
pub record SameWalk (h g : Phase → Bool) (l : List Verdict) (a : Walk) (b : ends.Walk) : Type 0 where
  pub gone : a.gone ≡ b.gone
  pub left : Same (standing h a.left) b.left
  pub others : (r : Session → Bool) → count r (standing g a.left) ≡ count r (standing g l)

pub waiting-apart : (f : Phase) → is_waiting f ≡ true → has_started f ≡ false
waiting-apart Out e = refl
waiting-apart Waits e = refl
waiting-apart Started e = sym e
waiting-apart (Ended n r) e = refl

walk_same : (how : Ending) (n c x : ℕ) (l : List Verdict) (w : List Session) → Same (standing is_waiting l) w → Orderly w
    → eqb x nobody ≡ false
    → SameWalk is_waiting has_started l (walk how n c x l) (ends.walk n c x w)
unfolding walk ends.walk
walk_same how zero c x l w e o z = record { gone = refl; left = e; others = λ r. refl }
walk_same how (suc n) c x l w e o z =
    rw (← (found is_waiting (follows c x) l w e)) (go (ltb i (length l)) refl
    (λ a b. walk_same how n c s.id (over how i l) (remove_at j w) a (orderly-fewer w (remove_at j w) (fewer-remove_at j w) o) b))
  where
    i : ℕ
    i = which is_waiting (follows c x) l

    j : ℕ
    j = place (follows c x) w

    s : Session
    s = session_of l i

    u : Session
    u = get_or w j empty

    go : (b : Bool) → ltb i (length l) ≡ b
        → (Same (standing is_waiting (over how i l)) (remove_at j w) → eqb s.id nobody ≡ false
        → SameWalk is_waiting has_started (over how i l) (walk how n c s.id (over how i l)) (ends.walk n c s.id (remove_at j w)))
        → SameWalk is_waiting has_started l
        (cond b (record { gone = s ∷ (walk how n c s.id (over how i l)).gone; left = (walk how n c s.id (over how i l)).left })
        (record { gone = []; left = l }))
        (cond b (record { gone = u ∷ (ends.walk n c u.id (remove_at j w)).gone; left = (ends.walk n c u.id (remove_at j w)).left })
        (record { gone = []; left = w }))
    go true f ih =
        let k = ltb-true i (length l) f in
        let one = o.single c x z in
        let y = same is_waiting (follows c x) l w e one k in
        let p = all_get_d Proper w j empty (there is_waiting (follows c x) l w e one k) o.proper in
        let on = ih (left is_waiting (follows c x) l w e one k (as_ended how s l) refl) (rw (← y) p.somebody) in
        rw y (record {
          gone = ap (λ m. s ∷ m) on.gone;
          left = on.left;
          others =
              λ r. omega (
                arith,
                on.others r,
                others is_waiting has_started (follows c x) l (verdict (as_ended how s l) s) waiting-apart k
                    r,
              );
        })
    go false f ih = record { gone = refl; left = e; others = λ r. refl }

-- more links than sessions change nothing
walk-enough : (m n c x : ℕ) (w : List Session) → length w ≤ m → length w ≤ n → ends.walk m c x w ≡ ends.walk n c x w
unfolding ends.walk
walk-enough zero zero c x w f g = refl
walk-enough zero (suc n) c x w f g = rw (le-ltb (place (follows c x) w) (length w) (omega arith))
walk-enough (suc m) zero c x w f g = rw (le-ltb (place (follows c x) w) (length w) (omega arith))
walk-enough (suc m) (suc n) c x w f g =
    let i = place (follows c x) w in
    go (ltb i (length w)) refl (λ k. let z = length-remove_at i w k in
    walk-enough m n c (get_or w i empty).id (remove_at i w) (omega arith) (omega arith))
  where
    go : (b : Bool) → ltb (place (follows c x) w) (length w) ≡ b
        → (place (follows c x) w < length w → ends.walk m c (get_or w (place (follows c x) w) empty).id
        (remove_at (place (follows c x) w) w)
        ≡ ends.walk n c (get_or w (place (follows c x) w) empty).id (remove_at (place (follows c x) w) w))
        → ends.walk (suc m) c x w ≡ ends.walk (suc n) c x w
    go true e ih = rw (ih (ltb-true (place (follows c x) w) (length w) e))
    go false e ih = rw e

pub followers-same : (how : Ending) (c x : ℕ) (l : List Verdict) (w : List Session) → Same (standing is_waiting l) w → Orderly w
    → eqb x nobody ≡ false
    → SameWalk is_waiting has_started l (walk how (length l) c x l) (ends.followers c x w)
unfolding ends.followers
followers-same how c x l w e o z =
    rw (walk-enough (length w) (length l) c x w (omega arith) (omega (
      arith,
      length-standing is_waiting l,
      same_length (standing is_waiting l) w e,
    ))) (walk_same how (length l) c x l w e o z)

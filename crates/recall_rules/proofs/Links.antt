-- Followers, a link at a time: more links than wait change nothing. Assumes nothing.
use mathlib.Core.Path.{◌≡◌, refl, ap, ◌∙◌}
use mathlib.Core.Bool.{Bool, true, false}
use mathlib.Core.List.{List, [], ◌∷◌}
use Prim.Native.Nat.{ℕ, zero, suc, ◌≤◌, ◌<◌}
use native.Mathlib.Omega.{arith}
use lib.Dec.{ltb}
use lib.ListN.{length, get_or, length-set}
use borrow.Author.Tests.{ltb-true, lt-ltb, le-ltb}
use Rattle.rules.specs.declared.Session.{Session}
use Rattle.rules.specs.declared.Ending.{Ending}
use Rattle.rules.specs.declared.Ending.TheVariants.{Response}
use Rattle.rules.specs.Lists.{bit, count}
use Rattle.rules.specs.State.{follows}
use Rattle.rules.specs.Ends.{ended}
use Rattle.rules.proofs.Tests.{and_both, both-and}
use Rattle.rules.proofs.Count.{place-holds, count≤length}
use Rattle.recall_rules.specs.Verdicts.{is_waiting, Verdict, none, verdict, standing, stands, which, session_of, as_ended, over}
use Rattle.recall_rules.specs.Work.{quiet, writes, and_then, walk, dismissed}
use Rattle.recall_rules.proofs.Found.{length-standing, count_set, counted-at}

-- how many wait
abbrev pub waiting_in : List Verdict → ℕ
waiting_in l = count (λ s. true) (standing is_waiting l)

module _ (p : Session → Bool) (l : List Verdict) (k : which is_waiting p l < length l) where
  waits_there : stands is_waiting (λ s. true) (get_or l (which is_waiting p l) none) ≡ true
  waits_there =
      let e = and_both (is_waiting (get_or l (which is_waiting p l) none).phase) (p (session_of l (which is_waiting p l)))
      (place-holds (stands is_waiting p) l none k) in
      both-and (is_waiting (get_or l (which is_waiting p l) none).phase) true e.0 refl

  pub some-wait : 0 < waiting_in l
  some-wait = counted-at is_waiting (λ s. true) l (which is_waiting p l) k waits_there

  -- one that ends no longer waits
  pub one_less : (how : Ending) → suc (waiting_in (over how (which is_waiting p l) l)) ≡ waiting_in l
  one_less how =
      let i = which is_waiting p l in
      omega (arith, count_set is_waiting (λ s. true) l i (verdict (as_ended how (session_of l i) l) (session_of l i)) k, ap bit waits_there)

walk-enough : (how : Ending) (m n c x : ℕ) (l : List Verdict) → waiting_in l ≤ m → waiting_in l ≤ n → walk how m c x l ≡ walk how n c x l
unfolding walk
walk-enough how zero zero c x l f g = refl
walk-enough how zero (suc n) c x l f g = none_found (ltb (which is_waiting (follows c x) l) (length l)) refl
  where
    none_found : (b : Bool) → ltb (which is_waiting (follows c x) l) (length l) ≡ b → walk how zero c x l ≡ walk how (suc n) c x l
    none_found true e = absurd (omega (arith, some-wait (follows c x) l (ltb-true _ _ e)))
    none_found false e = rw e
walk-enough how (suc m) zero c x l f g = none_found (ltb (which is_waiting (follows c x) l) (length l)) refl
  where
    none_found : (b : Bool) → ltb (which is_waiting (follows c x) l) (length l) ≡ b → walk how (suc m) c x l ≡ walk how zero c x l
    none_found true e = absurd (omega (arith, some-wait (follows c x) l (ltb-true _ _ e)))
    none_found false e = rw e
walk-enough how (suc m) (suc n) c x l f g =
    let i = which is_waiting (follows c x) l in
    go (ltb i (length l)) refl (λ k. let z = one_less (follows c x) l k how in
    walk-enough how m n c (session_of l i).id (over how i l) (omega arith) (omega arith))
  where
    i : ℕ
    i = which is_waiting (follows c x) l

    go : (b : Bool) → ltb i (length l) ≡ b → (i < length l → walk how m c (session_of l i).id (over how i l)
        ≡ walk how n c (session_of l i).id (over how i l))
        → walk how (suc m) c x l ≡ walk how (suc n) c x l
    go true e ih = rw (ih (ltb-true i (length l) e))
    go false e ih = rw e

module _ (how : Ending) (c x : ℕ) (l : List Verdict) where
  walk_none : (n : ℕ) → length l ≤ which is_waiting (follows c x) l → walk how n c x l ≡ record { gone = []; left = l }
  unfolding walk
  walk_none zero k = refl
  walk_none (suc n) k = rw (le-ltb (which is_waiting (follows c x) l) (length l) k)

  walk_more : which is_waiting (follows c x) l < length l → let i = which is_waiting (follows c x) l in let on =
      walk how (length (over how i l)) c (session_of l i).id (over how i l) in
      walk how (length l) c x l ≡ record { gone = session_of l i ∷ on.gone; left = on.left }
  unfolding walk
  walk_more k =
      let i = which is_waiting (follows c x) l in
      let few : waiting_in l ≤ length l = omega (arith, count≤length (λ s. true) (standing is_waiting l), length-standing is_waiting l) in
      walk-enough how (length l) (suc (length l)) c x l few (omega arith)
      ∙ rw (lt-ltb i (length l) k, length-set l i (verdict (as_ended how (session_of l i) l) (session_of l i))) refl

module _ (r c x : ℕ) (l : List Verdict) where
  -- no link further
  pub dismissed-none : length l ≤ which is_waiting (follows c x) l → dismissed r c x l ≡ quiet l
  unfolding dismissed
  dismissed-none k = rw (walk_none (Response r) c x l (length l) k) refl

  -- one link, and on from there
  pub dismissed-more : which is_waiting (follows c x) l < length l → let i = which is_waiting (follows c x) l in
      dismissed r c x l ≡ and_then (writes (ended (Response r) (session_of l i) ∷ []) (over (Response r) i l))
      (dismissed r c (session_of l i).id)
  unfolding dismissed and_then
  dismissed-more k = rw (walk_more (Response r) c x l k) refl

-- Those that leave one by one, each time the one that none comes before, leave in the order of the list. Assumes nothing.
use mathlib.Core.Path.{◌≡◌, refl, sym, ap, fun_ext, ◌∙◌}
use mathlib.Core.Bool.{Bool, true, false, cond, not, ◌&&◌, ◌||◌}
use mathlib.Core.List.{List, [], ◌∷◌}
use Prim.Native.Nat.{ℕ, zero, suc, ◌+◌, ◌≤◌, ◌<◌}
use native.Mathlib.Omega.{arith}
use lib.Dec.{ltb}
use lib.ListN.{length, get_or}
use borrow.Author.Tests.{ltb-true, ltb-false, lt-ltb, le-ltb}
use Rattle.rules.specs.declared.Session.{Session}
use Rattle.rules.specs.declared.Ending.{Ending}
use Rattle.rules.specs.Lists.{All, bit, put, keep, omit, some, count, place, remove_at}
use Rattle.rules.specs.State.{empty}
use Rattle.rules.specs.Follows.Wires.{Sorted}
use Rattle.rules.specs.Follows.Sound.{Falling}
use Rattle.rules.proofs.All.{all-into}
use Rattle.rules.proofs.Count.{count≤length, count-remove_at, place-holds, place_none}
use Rattle.rules.proofs.Every.{none-all, none-some, Fewer, fewer-remove_at, fewer-all, none, less, stay}
use Rattle.recall_rules.specs.Verdicts.{Phase, Out, Waits, Started, Ended, is_waiting, has_started, Verdict, verdict, standing, which}
use Rattle.recall_rules.specs.Verdicts.{session_of, as_ended, over, first, Same}
use Rattle.recall_rules.specs.Work.{Walk, leaving, earlier, higher, started_ones, waiting_ones}
use Rattle.recall_rules.proofs.Same.{same_some, same_length}
use Rattle.recall_rules.proofs.Found.{length-standing, found, same, there, left, others}
use Rattle.recall_rules.proofs.Walk.{SameWalk, waiting-apart}

module _ {A : Type 0} (p : A → Bool) (d : A) where
  -- the first that passes is the first of those that pass
  keep-first : (w : List A) → place p w < length w → (keep p w ≡ get_or w (place p w) d ∷ keep p (remove_at (place p w) w)) ×
      (omit p w ≡ omit p (remove_at (place p w) w))
  unfolding place remove_at
  keep-first [] k = absurd (omega arith)
  keep-first (x ∷ w) k = go (p x) refl k (keep-first w)
    where
      go : (b : Bool) → p x ≡ b → cond b 0 (suc (place p w)) < suc (length w)
          → (place p w < length w → (keep p w ≡ get_or w (place p w) d ∷ keep p (remove_at (place p w) w)) ×
          (omit p w ≡ omit p (remove_at (place p w) w)))
          → (put b x (keep p w) ≡ get_or (x ∷ w) (cond b 0 (suc (place p w))) d ∷ keep p (remove_at (cond b 0 (suc (place p w))) (x ∷ w)))
          × (put (not b) x (omit p w) ≡ omit p (remove_at (cond b 0 (suc (place p w))) (x ∷ w)))
      go true e k ih = (refl, refl)
      go false e k ih = let g = ih (omega arith) in (rw e g.0, rw e (ap (λ m. x ∷ m) g.1))

  keep-none : (w : List A) → count p w ≡ 0 → (keep p w ≡ []) × (omit p w ≡ w)
  keep-none [] e = (refl, refl)
  keep-none (x ∷ w) e = go (p x) e (keep-none w)
    where
      go : (b : Bool) → bit b + count p w ≡ 0 → (count p w ≡ 0 → (keep p w ≡ []) × (omit p w ≡ w))
          → (put b x (keep p w) ≡ []) × (put (not b) x (omit p w) ≡ x ∷ w)
      go true e ih = absurd (omega arith)
      go false e ih = let g = ih (omega arith) in (g.0, ap (λ m. x ∷ m) g.1)

-- each comes before all behind it
abbrev pub Ordered : (Session → Session → Bool) → List Session → Type 0
Ordered before [] = Unit {0}
Ordered before (s ∷ w) = All (λ u. (before s u ≡ true) × (before u s ≡ false)) w × Ordered before w

module _ (before : Session → Session → Bool) where
  fewer-ordered : {w v : List Session} → Fewer w v → Ordered before w → Ordered before v
  fewer-ordered none o = tt
  fewer-ordered (less f) o = fewer-ordered f o.1
  fewer-ordered (stay {x = s} f) o = (fewer-all (λ u. (before s u ≡ true) × (before u s ≡ false)) f o.0, fewer-ordered f o.1)

  module _ (calm : (s : Session) → before s s ≡ false) (p : Session → Bool) where
    abbrev pub leads : List Session → Session → Bool
    leads w s = p s && not (some (λ u. p u && before u s) w)

    -- of an ordered list, the first that passes, and no other
    pub leads-first : (w : List Session) → Ordered before w → (place (leads w) w ≡ place p w) × (count (leads w) w ≤ 1)
    unfolding place
    leads-first [] o = (refl, omega arith)
    leads-first (s ∷ w) o = go (p s) (leads-first w o.1)
      where
        led : Bool → Session → Bool
        led b u = p u && not ((b && before s u) || some (λ y. p y && before y u) w)

        and-false : (b : Bool) → (b && false) ≡ false
        and-false true = refl
        and-false false = refl

        behind : some (λ u. p u && before u s) w ≡ false
        behind = none-some (λ u. p u && before u s) w (all-into (λ u. (before s u ≡ true) × (before u s ≡ false))
            (λ u. (p u && before u s) ≡ false) (λ u g. rw g.1 (and-false (p u))) w o.0)

        rest : count (led true) w ≡ 0
        rest = none-all (led true) w (all-into (λ u. (before s u ≡ true) × (before u s ≡ false)) (λ u. led true u ≡ false)
            (λ u g. rw g.0 (and-false (p u))) w o.0)

        go : (b : Bool) → (place (leads w) w ≡ place p w) × (count (leads w) w ≤ 1)
            → (cond (b && not ((b && before s s) || some (λ u. p u && before u s) w)) 0 (suc (place (led b) w))
            ≡ cond b 0 (suc (place p w)))
            × (bit (b && not ((b && before s s) || some (λ u. p u && before u s) w)) + count (led b) w ≤ 1)
        go true ih = (rw (calm s, behind), rw (calm s, behind) (omega (arith, rest)))
        go false ih = (ap suc ih.0, omega (arith, ih.1))

    module _ (h g : Phase → Bool) (apart : (f : Phase) → h f ≡ true → g f ≡ false) (shut : (n r : ℕ) → h (Ended n r) ≡ false)
        (also : (n r : ℕ) → g (Ended n r) ≡ false) (how : Session → Ending) where
      pub leaving-same : (n : ℕ) (l : List Verdict) (w : List Session) → Same (standing h l) w → Ordered before w → count p w ≤ n
          → SameWalk h g l (leaving h before p how n l) (record { gone = keep p w; left = omit p w })
      unfolding leaving
      leaving-same zero l w e o c = let z = keep-none p empty w (omega arith) in
          rw (z.0, z.1) (record { gone = refl; left = e; others = λ r. refl })
      leaving-same (suc n) l w e o c = go (ltb i (length l)) refl (leaving-same n (over (how s) i l) (remove_at j w))
        where
          t : Session → Bool
          t = first h before p l

          i : ℕ
          i = which h t l

          j : ℕ
          j = place p w

          s : Session
          s = session_of l i

          leads-same : t ≡ leads w
          leads-same = fun_ext (λ y. ap (λ b. p y && not b) (same_some (λ u. p u && before u y) (standing h l) w e))

          at : place t w ≡ j
          at = rw leads-same (leads-first w o).0

          one : count t w ≤ 1
          one = rw leads-same (leads-first w o).1

          Goal : Walk → Type 0
          Goal a = SameWalk h g l a (record { gone = keep p w; left = omit p w })

          go : (b : Bool) → ltb i (length l) ≡ b
              → (Same (standing h (over (how s) i l)) (remove_at j w) → Ordered before (remove_at j w) → count p (remove_at j w) ≤ n
              → SameWalk h g (over (how s) i l) (leaving h before p how n (over (how s) i l))
              (record { gone = keep p (remove_at j w); left = omit p (remove_at j w) }))
              → Goal (cond b (record {
                gone = s ∷ (leaving h before p how n (over (how s) i l)).gone;
                left =
                    (leaving h before p how n (over (how s) i l)).left;
              }) (record { gone = []; left = l }))
          go true f ih =
              let k = ltb-true i (length l) f in
              let m : j < length w = rw at at (there h t l w e one k) in
              let v = keep-first p empty w m in
              let x = rw at at (same h t l w e one k) in
              let on = ih (rw at at (left h t l w e one k (as_ended (how s) s l) (shut _ _))) (fewer-ordered (fewer-remove_at j w) o)
              (omega (arith, count-remove_at p j w empty m, ap bit (place-holds p w empty m))) in
              rw (v.0, v.1, x)
              (record {
                gone = ap (λ y. s ∷ y) on.gone;
                left = on.left;
                others =
                    λ r. omega (arith, on.others r, others h g t l (verdict (as_ended (how s) s l) s) apart k r, shut-count r);
              })
            where
              shut-count : (r : Session → Bool) → bit (g (as_ended (how s) s l) && r s) ≡ 0
              shut-count r = rw (also _ _)
          go false f ih =
              let k : length w ≤ j = ltb-false j (length w) (rw at at (sym (found h t l w e) ∙ f)) in
              let z = keep-none p empty w (place_none p w k) in
              rw (z.0, z.1) (record { gone = refl; left = e; others = λ r. refl })

-- ## The two orders

pub started-apart : (f : Phase) → has_started f ≡ true → is_waiting f ≡ false
started-apart Out e = refl
started-apart Waits e = sym e
started-apart Started e = refl
started-apart (Ended n r) e = refl

pub same_not : (n : ℕ) → ltb n n ≡ false
same_not n = le-ltb n n (omega arith)

sorted-ordered : (w : List Session) → Sorted w → Ordered earlier w
sorted-ordered [] o = tt
sorted-ordered (s ∷ w) o = (
  all-into (λ u. s.start.0 < u.start.0) (λ u. (earlier s u ≡ true) × (earlier u s ≡ false))
      (λ u k. (lt-ltb s.start.0 u.start.0 k, le-ltb u.start.0 s.start.0 (omega arith))) w o.0,
  sorted-ordered w o.1,
)

pub falling-ordered : (w : List Session) → Falling w → Ordered higher w
falling-ordered [] o = tt
falling-ordered (s ∷ w) o = (
  all-into (λ u. u.access < s.access) (λ u. (higher s u ≡ true) × (higher u s ≡ false))
      (λ u k. (lt-ltb u.access s.access k, le-ltb s.access u.access (omega arith))) w o.0,
  falling-ordered w o.1,
)

module _ (p : Session → Bool) (l : List Verdict) (w : List Session) where
  few : (h : Phase → Bool) → Same (standing h l) w → count p w ≤ length l
  few h e = omega (arith, count≤length p w, same_length (standing h l) w e, length-standing h l)

  pub waiting-same : (e : Ending) → Same (standing is_waiting l) w → Sorted w
      → SameWalk is_waiting has_started l (waiting_ones p e l) (record { gone = keep p w; left = omit p w })
  unfolding waiting_ones
  waiting-same e f o = leaving-same earlier (λ s. same_not s.start.0) p is_waiting has_started waiting-apart (λ n r. refl) (λ n r. refl)
      (λ s. e) (length l) l w f (sorted-ordered w o) (few is_waiting f)

  pub started-same : (how : Session → Ending) → Same (standing has_started l) w → Falling w
      → SameWalk has_started is_waiting l (started_ones p how l) (record { gone = keep p w; left = omit p w })
  unfolding started_ones
  started-same how e o = leaving-same higher (λ s. same_not s.access) p has_started is_waiting started-apart (λ n r. refl) (λ n r. refl)
      how (length l) l w e (falling-ordered w o) (few has_started e)

-- A scan that keeps the best of the first i finds the first that none comes before; where it finds none, none is there. Assumes nothing.
use mathlib.Core.Path.{◌≡◌, refl, sym, ap, subst, ◌∙◌}
use mathlib.Core.Bool.{Bool, true, false, not, ◌&&◌, ◌||◌}
use mathlib.Core.List.{List, [], ◌∷◌}
use mathlib.Core.Logic.{◌⊎◌, inl, inr}
use Prim.Native.Nat.{ℕ, zero, suc, ◌+◌, ◌≤◌, ◌<◌}
use native.Mathlib.Omega.{arith}
use lib.Dec.{eqb, ltb}
use lib.ListN.{length, get_or}
use borrow.Author.Tests.{eqb-true, eqb-false, ltb-true, ltb-false, lt-ltb, le-ltb}
use Rattle.rules.specs.declared.Session.{Session}
use Rattle.rules.specs.Lists.{some, count, place}
use Rattle.rules.proofs.Tests.{clash, failed, and_both, both-and}
use Rattle.rules.proofs.Count.{some-none, some-place, place-holds}
use Rattle.recall_rows.specs.declared.Test.{Test}
use Rattle.recall_rows.specs.declared.Order.{Order}
use Rattle.recall_rows.specs.declared.Order.TheVariants.{Highest, Earliest, Ending}
use Rattle.recall_rules.specs.declared.Phase.{Phase}
use Rattle.recall_rules.specs.declared.Verdict.{Verdict}
use Rattle.recall_rules.specs.Verdicts.{none, standing, stands, which, session_of, first}
use Rattle.recall_rows.specs.Scans.{session_test, order_stand, order_test, is_better}
use Rattle.recall_rules.proofs.Found.{some-stands, counted-at}

-- an order by a number
pub record Strict (before : Session → Session → Bool) : Type 0 where
  pub calm : (a : Session) → before a a ≡ false
  pub under : (a b c : Session) → before a b ≡ true → before c b ≡ false → before c a ≡ false
  pub over : (a b c : Session) → before a b ≡ true → before c b ≡ false → before a c ≡ true

by_number : (f : Session → ℕ) → Strict (λ u s. ltb (f u) (f s))
by_number f =
    record {
      calm = λ a. le-ltb (f a) (f a) (omega arith);
      under = λ a b c e g. le-ltb (f c) (f a) (omega (arith, ltb-true (f a) (f b) e, ltb-false (f c) (f b) g));
      over = λ a b c e g. lt-ltb (f a) (f c) (omega (arith, ltb-true (f a) (f b) e, ltb-false (f c) (f b) g));
    }

by-number-down : (f : Session → ℕ) → Strict (λ u s. ltb (f s) (f u))
by-number-down f =
    record {
      calm = λ a. le-ltb (f a) (f a) (omega arith);
      under = λ a b c e g. le-ltb (f a) (f c) (omega (arith, ltb-true (f b) (f a) e, ltb-false (f b) (f c) g));
      over = λ a b c e g. lt-ltb (f c) (f a) (omega (arith, ltb-true (f b) (f a) e, ltb-false (f b) (f c) g));
    }

pub strict : (o : Order) → Strict (order_test o)
strict Highest = by-number-down (λ s. s.access)
strict Earliest = by_number (λ s. s.start.0)
strict Ending = by_number (λ s. s.end.0)

-- ## Places

module _ (p : Verdict → Bool) where
  place-first : (l : List Verdict) (b : ℕ) → b < length l → p (get_or l b none) ≡ true → ((j : ℕ) → j < b → p (get_or l j none) ≡ false)
      → place p l ≡ b
  unfolding place
  place-first [] b h e f = absurd (omega arith)
  place-first (v ∷ l) zero h e f = rw e
  place-first (v ∷ l) (suc b) h e f = rw (f 0 (omega arith)) (ap suc (place-first l b (omega arith) e (λ j k. f (suc j) (omega arith))))

  place-nowhere : (l : List Verdict) → ((j : ℕ) → j < length l → p (get_or l j none) ≡ false) → place p l ≡ length l
  unfolding place
  place-nowhere [] f = refl
  place-nowhere (v ∷ l) f = rw (f 0 (omega arith)) (ap suc (place-nowhere l (λ j k. f (suc j) (omega arith))))

  some-nowhere : (l : List Verdict) → ((j : ℕ) → j < length l → p (get_or l j none) ≡ false) → some p l ≡ false
  some-nowhere [] f = refl
  some-nowhere (v ∷ l) f = rw (f 0 (omega arith)) (some-nowhere l (λ j k. f (suc j) (omega arith)))

-- ## The best of the first i

module _ (h : Phase → Bool) (before : Session → Session → Bool) (o : Strict before) (p : Session → Bool) (l : List Verdict) where
  abbrev one : ℕ → Bool
  one j = stands h p (get_or l j none)

  -- call b is one, none of the first i comes before it, and it comes before those in front of it
  pub record Best (i b : ℕ) : Type 0 where
    pub among : b < i
    pub is : one b ≡ true
    pub least : (j : ℕ) → j < i → one j ≡ true → before (session_of l j) (session_of l b) ≡ false
    pub front : (j : ℕ) → j < b → one j ≡ true → before (session_of l b) (session_of l j) ≡ true

  abbrev None : ℕ → ℕ → Type 0
  None i b = (b ≡ length l) × ((j : ℕ) → j < i → one j ≡ false)

  abbrev pub Leading : ℕ → ℕ → Type 0
  Leading i b = None i b ⊎ Best i b

  pub leading-none : Leading 0 (length l)
  leading-none = inl (refl, λ j k. absurd (omega arith))

  -- j is below i + 1: below i, or i
  below_next : (P : ℕ → Type 0) (i : ℕ) → P i → ((j : ℕ) → j < i → P j) → (j : ℕ) → j < i + 1 → P j
  below_next P i a f j k = go (eqb j i) refl
    where
      go : (b : Bool) → eqb j i ≡ b → P j
      go true e = rw (eqb-true j i e) a
      go false e = f j (let n = eqb-false j i e in omega (arith, n))

  -- call i is better
  pub leading-next : (i b : ℕ) → i < length l → one i ≡ true → (b < length l → before (session_of l i) (session_of l b) ≡ true)
      → Leading i b → Leading (i + 1) i
  leading-next i b k e f (inl n) =
      inr (record {
        among = omega arith;
        is = e;
        least = below_next (λ j. one j ≡ true → before (session_of l j) (session_of l i) ≡ false) i (λ g. o.calm (session_of l i))
            (λ j g y. absurd (clash (one j) y (n.1 j g)));
        front = λ j g y. absurd (clash (one j) y (n.1 j g));
      })
  leading-next i b k e f (inr m) =
      let g = f (omega (arith, m.among)) in
      inr (record {
        among = omega arith;
        is = e;
        least = below_next (λ j. one j ≡ true → before (session_of l j) (session_of l i) ≡ false) i (λ y. o.calm (session_of l i))
            (λ j z y. o.under (session_of l i) (session_of l b) (session_of l j) g (m.least j z y));
        front = λ j z y. o.over (session_of l i) (session_of l b) (session_of l j) g (m.least j z y);
      })

  -- it is not
  pub leading-stays : (i b : ℕ) → i < length l → (one i ≡ true → (b < length l) × (before (session_of l i) (session_of l b) ≡ false))
      → Leading i b → Leading (i + 1) b
  leading-stays i b k f (inl n) =
      inl (n.0, below_next (λ j. one j ≡ false) i (failed (one i) (λ e. omega (arith, (f e).0, n.0))) n.1)
  leading-stays i b k f (inr m) =
      inr (record {
        among = omega (arith, m.among);
        is = m.is;
        least = below_next (λ j. one j ≡ true → before (session_of l j) (session_of l b) ≡ false) i (λ e. (f e).1) m.least;
        front = m.front;
      })

  abbrev led : Session → Bool
  led s = p s && not (some (λ u. p u && before u s) (standing h l))

  -- one that leads stands so and passes
  led-one : (v : Verdict) → stands h p v ≡ false → stands h led v ≡ false
  led-one v e = go (h v.phase) (p v.session) e
    where
      go : (a b : Bool) → (a && b) ≡ false → (a && (b && not (some (λ u. p u && before u v.session) (standing h l)))) ≡ false
      go true false e = refl
      go false b e = refl
      go true true e = absurd (clash true refl e)

  pub leading-out : (b : ℕ) → Leading (length l) b → b ≡ which h (first h before p l) l
  leading-out b (inl n) = n.0 ∙ sym (place-nowhere (stands h led) l (λ j k. led-one (get_or l j none) (n.1 j k)))
  leading-out b (inr m) =
      sym (place-first (stands h led) l b m.among (lead (and_both (h (get_or l b none).phase) (p (session_of l b)) m.is))
      (λ j k. behind j k (one j) refl))
    where
      s : Session
      s = session_of l b

      -- none comes before it
      nobody : some (λ u. p u && before u s) (standing h l) ≡ false
      nobody =
          sym (some-stands h (λ u. p u && before u s) l)
          ∙ some-nowhere (stands h (λ u. p u && before u s)) l
          (λ j k. apart (h (get_or l j none).phase) (p (session_of l j)) (before (session_of l j) s) (m.least j k))
        where
          apart : (a c d : Bool) → ((a && c) ≡ true → d ≡ false) → (a && (c && d)) ≡ false
          apart true true d f = f refl
          apart true false d f = refl
          apart false c d f = refl

      lead : (h (get_or l b none).phase ≡ true) × (p s ≡ true) → stands h led (get_or l b none) ≡ true
      lead e = rw (e.0, e.1, nobody)

      -- it comes before each that stands in front of it
      behind : (j : ℕ) → j < b → (v : Bool) → one j ≡ v → stands h led (get_or l j none) ≡ false
      behind j k false e = led-one (get_or l j none) e
      behind j k true e = go (some (λ u. p u && before u (session_of l j)) (standing h l)) refl
        where
          go : (v : Bool) → some (λ u. p u && before u (session_of l j)) (standing h l) ≡ v
              → (h (get_or l j none).phase && (p (session_of l j) && not v)) ≡ false
          go true g = last (h (get_or l j none).phase) (p (session_of l j))
            where
              last : (a c : Bool) → (a && (c && false)) ≡ false
              last true true = refl
              last true false = refl
              last false c = refl
          go false g =
              let w = and_both (h (get_or l b none).phase) (p s) m.is in
              let y = both-and (p s) (before s (session_of l j)) w.1 (m.front j k e) in
              absurd (omega (
                arith,
                some-none (λ u. p u && before u (session_of l j)) (standing h l) g,
                counted-at h (λ u. p u && before u (session_of l j)) l b m.among
                    (both-and (h (get_or l b none).phase) (p s && before s (session_of l j)) w.0 y),
              ))

-- ## What a scan in an order finds: it is one, and none comes before it; where none is found, none stands so

module _ (h : Phase → Bool) (before : Session → Session → Bool) (o : Strict before) (p : Session → Bool) (l : List Verdict) where
  record Led (i : ℕ) : Type 0 where
    call : ℕ
    leads : Leading h before o p l i call

  -- of the first i one leads, or none is one
  led-by : (i : ℕ) → i ≤ length l → Led i
  led-by zero k = record { call = length l; leads = leading-none h before o p l }
  led-by (suc i) k = go (led-by i (omega arith)) (one h before o p l i) refl
    where
      next : i + 1 ≡ suc i
      next = omega arith

      to : (b : ℕ) → Leading h before o p l (i + 1) b → Led (suc i)
      to b x = record { call = b; leads = subst (λ (j : ℕ). Leading h before o p l j b) next x }

      go : Led i → (a : Bool) → one h before o p l i ≡ a → Led (suc i)
      go y false e =
          to y.call (leading-stays h before o p l i y.call (omega arith) (λ f. absurd (clash (one h before o p l i) f e)) y.leads)
      go y true e = among (ltb y.call (length l)) refl (before (session_of l i) (session_of l y.call)) refl
        where
          among : (c : Bool) → ltb y.call (length l) ≡ c → (d : Bool) → before (session_of l i) (session_of l y.call) ≡ d → Led (suc i)
          among c f true g = to i (leading-next h before o p l i y.call (omega arith) e (λ k. g) y.leads)
          among true f false g = to y.call (leading-stays h before o p l i y.call (omega arith)
              (λ z. (ltb-true y.call (length l) f, g)) y.leads)
          among false f false g =
              to i (leading-next h before o p l i y.call (omega arith) e (λ k. absurd (omega (arith, ltb-false y.call (length l) f)))
              y.leads)

  abbrev at : ℕ
  at = which h (first h before p l) l

  -- none h before o p l is found: none stands so and passes
  pub none_found : length l ≤ at → some p (standing h l) ≡ false
  none_found k = sym (some-stands h p l) ∙ failed (some (stands h p) l)
      (λ e. out (led-by (length l) (omega arith)) (ltb-true (place (stands h p) l) (length l) (sym (some-place (stands h p) l) ∙ e)))
    where
      out : Led (length l) → place (stands h p) l < length l → ⊥
      out y m = ends y.leads
        where
          here : y.call ≡ at
          here = leading-out h before o p l y.call y.leads

          ends : Leading h before o p l (length l) y.call → ⊥
          ends (inl n) =
              clash (one h before o p l (place (stands h p) l)) (place-holds (stands h p) l none m) (n.1 (place (stands h p) l) m)
          ends (inr b) = omega (arith, b.among, here)

  module _ (k : at < length l) where
    leader : (h (get_or l at none).phase ≡ true) × (first h before p l (session_of l at) ≡ true)
    leader = and_both (h (get_or l at none).phase) (first h before p l (session_of l at))
        (place-holds (stands h (first h before p l)) l none k)

    -- it is counted
    pub is-there : (r : Session → Bool) → r (session_of l at) ≡ true → 0 < count r (standing h l)
    is-there r e = counted-at h r l at k (both-and (h (get_or l at none).phase) (r (session_of l at)) leader.0 e)

    -- none comes before it
    pub none_before : some (λ u. p u && before u (session_of l at)) (standing h l) ≡ false
    none_before = flip (some (λ u. p u && before u (session_of l at)) (standing h l)) (and_both (p (session_of l at)) _ leader.1).1
      where
        flip : (b : Bool) → not b ≡ true → b ≡ false
        flip true e = absurd (clash false e refl)
        flip false e = refl

-- ## A better one

module _ (o : Order) (t : Test) (l : List Verdict) (i best : ℕ) where
  module _ (h : Phase → Bool) (same : h ≡ order_stand o) where
    as-order : (b : Bool) → b ≡ stands h (session_test t) (get_or l i none) → stands (order_stand o) (session_test t) (get_or l i none) ≡ b
    as-order b e = ap (λ g. stands g (session_test t) (get_or l i none)) (sym same) ∙ sym e

    pub better-is : (b r : Bool) → b ≡ stands h (session_test t) (get_or l i none) → b ≡ true → best < length l
        → r ≡ order_test o (session_of l i) (session_of l best) → r ≡ is_better o t l i best
    better-is b r e f k g = rw (as-order b e ∙ f, lt-ltb best (length l) k) g

  abbrev is_one : Bool
  is_one = stands (order_stand o) (session_test t) (get_or l i none)

  abbrev comes : Bool
  comes = order_test o (session_of l i) (session_of l best)

  pub better-true : is_better o t l i best ≡ true → (is_one ≡ true) × (best < length l → comes ≡ true)
  better-true e =
      let a = and_both is_one (not (ltb best (length l)) || comes) e in
      (a.0, λ k. shown (ltb best (length l)) comes (lt-ltb best (length l) k) a.1)
    where
      shown : (b c : Bool) → b ≡ true → (not b || c) ≡ true → c ≡ true
      shown true c f g = g
      shown false c f g = absurd (clash false f refl)

  pub better-false : is_better o t l i best ≡ false → is_one ≡ true → (best < length l) × (comes ≡ false)
  better-false e f = go (ltb best (length l)) refl comes refl (rw f at e)
    where
      go : (b : Bool) → ltb best (length l) ≡ b → (c : Bool) → comes ≡ c → (not b || c) ≡ false → (best < length l) × (c ≡ false)
      go true g c k z = (ltb-true best (length l) g, z)
      go false g c k z = absurd (clash true refl z)

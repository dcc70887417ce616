-- From the call that a scan in an order finds: the earliest of a list, and who may start over the one on air. Assumes nothing.
use mathlib.Core.Path.{◌≡◌, refl, sym, ap, ◌∙◌}
use mathlib.Core.Bool.{Bool, true, false, not, ◌&&◌, ◌||◌}
use mathlib.Core.List.{List, [], ◌∷◌}
use Prim.Native.Nat.{ℕ, ◌+◌, ◌≤◌, ◌<◌}
use native.Mathlib.Omega.{arith}
use lib.Dec.{eqb, leb, ltb}
use lib.ListN.{length, get_or}
use borrow.Author.Tests.{eqb-true, eqb-false, ltb-false, lt-ltb, le-ltb, le-leb, lt-leb}
use Rattle.rules.specs.declared.Ninths.{Ninths}
use Rattle.std.specs.declared.option.Option.{Option}
use Rattle.std.specs.declared.option.Option.TheVariants.{Some, None}
use Rattle.rules.specs.declared.Session.{Session}
use Rattle.rules.specs.Lists.{bit, some, count}
use Rattle.rules.specs.State.{sooner, earliest}
use Rattle.rules.specs.Instants.{outranks}
use Rattle.rules.proofs.Tests.{tests, by, clash, eqb_same}
use Rattle.rules.proofs.Count.{some-none}
use Rattle.recall_rules.specs.declared.Verdict.{Verdict}
use Rattle.recall_rules.specs.Verdicts.{has_started, none, standing, session_of}
use Rattle.recall_rules.specs.Work.{higher, on_air, may_start}
use Rattle.recall_rows.specs.declared.Order.{Order}
use Rattle.recall_rows.specs.declared.Order.TheVariants.{Highest}
use Rattle.recall_rows.specs.declared.Test.TheVariants.{Any}
use Rattle.recall_rows.specs.Scans.{order_stand, order_test, place_in, first_in}
use Rattle.recall_rows.proofs.Scans.{found, missing}
use Rattle.recall_rows.proofs.Best.{strict, none_found, is-there, none_before}

-- ## The earliest

module _ (f : Session → Ninths) where
  pub earliest-none : (k : List Session) → some (λ s. true) k ≡ false → earliest f k ≡ None
  earliest-none [] e = refl
  earliest-none (s ∷ k) e = absurd (clash true refl e)

  abbrev From : ℕ → Option Ninths → Type 0
  From n None = Unit {0}
  From n (Some u) = n ≤ u.0

  split : (a b : Bool) → (a || b) ≡ false → (a ≡ false) × (b ≡ false)
  split true b e = absurd (clash true refl e)
  split false b e = (refl, e)

  earliest-from : (n : ℕ) (k : List Session) → some (λ u. ltb (f u).0 n) k ≡ false → From n (earliest f k)
  earliest-from n [] e = tt
  earliest-from n (s ∷ k) e =
      let a = split (ltb (f s).0 n) (some (λ u. ltb (f u).0 n) k) e in
      go (earliest f k) (ltb-false (f s).0 n a.0) (earliest-from n k a.1)
    where
      go : (w : Option Ninths) → n ≤ (f s).0 → From n w → From n (sooner (Some (f s)) w)
      go None g i = g
      go (Some u) g i = by (From n) (leb (f s).0 u.0) _ _ (λ e. g) (λ e. i)

  pub earliest-is : (t : Ninths) (k : List Session) → some (λ u. ltb (f u).0 t.0) k ≡ false → 0 < count (λ u. eqb (f u).0 t.0) k
      → earliest f k ≡ Some t
  earliest-is t [] e c = absurd (omega arith)
  earliest-is t (s ∷ k) e c =
      let a = split (ltb (f s).0 t.0) (some (λ u. ltb (f u).0 t.0) k) e in
      go (eqb (f s).0 t.0) refl (ltb-false (f s).0 t.0 a.0) a.1 c (earliest-is t k a.1)
    where
      go : (b : Bool) → eqb (f s).0 t.0 ≡ b → t.0 ≤ (f s).0 → some (λ u. ltb (f u).0 t.0) k ≡ false
          → 0 < bit b + count (λ u. eqb (f u).0 t.0) k
          → (0 < count (λ u. eqb (f u).0 t.0) k → earliest f k ≡ Some t) → sooner (Some (f s)) (earliest f k) ≡ Some t
      go true g m r c ih =
          let same : f s ≡ t = ap (λ (n : ℕ). record { 0 = n }) (eqb-true (f s).0 t.0 g) in
          last (earliest f k) (earliest-from t.0 k r) ∙ ap Some same
        where
          last : (w : Option Ninths) → From t.0 w → sooner (Some (f s)) w ≡ Some (f s)
          last None i = refl
          last (Some u) i = rw (le-leb (f s).0 u.0 (omega (arith, eqb-true (f s).0 t.0 g)))
      go false g m r c ih =
          let n = eqb-false (f s).0 t.0 g in
          ap (sooner (Some (f s))) (ih (omega arith)) ∙ rw (lt-leb (f s).0 t.0 (omega (arith, n))) refl

-- of an order by f: the first f of those that it looks through, as a scan finds it
module _ (o : Order) (f : Session → Ninths) (by_f : order_test o ≡ (λ u s. ltb (f u).0 (f s).0)) (l : List Verdict) {r : Option ℕ}
    (e : r ≡ place_in l (first_in o Any l)) where
  abbrev all-such : List Session
  all-such = standing (order_stand o) l

  pub next-found : {i : ℕ} {v : Verdict} → r ≡ Some i → v ≡ get_or l i none → Some (f v.session) ≡ earliest f all-such
  next-found g y =
      let j = first_in o Any l in
      let k = found l e g in
      let m : j < length l = omega (arith, k) in
      let s = session_of l j in
      ap (λ (w : Verdict). Some (f w.session)) (y ∙ ap (λ (n : ℕ). get_or l n none) k.0)
      ∙ sym (earliest-is f (f s) all-such
      (ap (λ (b : Session → Session → Bool). some (λ u. b u s) all-such) (sym by_f)
      ∙ none_before (order_stand o) (order_test o) (strict o) (λ s. true) l m)
      (is-there (order_stand o) (order_test o) (strict o) (λ s. true) l m (λ u. eqb (f u).0 (f s).0) (eqb_same (f s).0)))

  pub next-none : r ≡ None → None ≡ earliest f all-such
  next-none g = sym (earliest-none f all-such (none_found (order_stand o) (order_test o) (strict o) (λ s. true) l (missing l e g)))

-- ## Who may start

some-into : (p q : Session → Bool) → ((u : Session) → p u ≡ true → q u ≡ true) → (k : List Session) → some q k ≡ false → some p k ≡ false
some-into p q i [] e = refl
some-into p q i (u ∷ k) e = go (p u) refl (q u) refl (some-into p q i k) e
  where
    go : (a : Bool) → p u ≡ a → (b : Bool) → q u ≡ b → (some q k ≡ false → some p k ≡ false) → (b || some q k) ≡ false
        → (a || some p k) ≡ false
    go a f true g ih e = absurd (clash true refl e)
    go true f false g ih e = absurd (clash (q u) (i u f) g)
    go false f false g ih e = ih e

not_none : (p : Session → Bool) (k : List Session) → 0 < count p k → some p k ≡ true
not_none p k c = go (some p k) refl
  where
    go : (b : Bool) → some p k ≡ b → b ≡ true
    go true e = refl
    go false e = absurd (omega (arith, some-none p k e))

module _ (s : Session) (l : List Verdict) where
  abbrev all-started : List Session
  all-started = standing has_started l

  pub may_none : length l ≤ on_air l → true ≡ may_start s l
  unfolding may_start
  may_none k = rw (none_found has_started higher (strict Highest) (λ s. true) l k) refl

  -- it is not below the highest
  pub may-over : on_air l < length l → (eqb s.overrides 1 && leb (session_of l (on_air l)).access s.access) ≡ may_start s l
  unfolding may_start
  may-over k =
      let there = is-there has_started higher (strict Highest) (λ s. true) l k in
      rw (not_none (λ u. true) all-started (there (λ u. true) refl))
      (go (eqb s.overrides 1) refl (leb air.access s.access) refl there)
    where
      air : Session
      air = session_of l (on_air l)

      go : (a : Bool) → eqb s.overrides 1 ≡ a → (b : Bool) → leb air.access s.access ≡ b
          → ((r : Session → Bool) → r air ≡ true → 0 < count r all-started)
          → (a && b) ≡ (a && not (some (λ u. not (outranks s u)) all-started))
      go false e b f t = refl
      go true e true f t =
          let one = eqb-true s.overrides 1 e in
          sym (ap not (some-into (λ u. not (outranks s u)) (λ u. higher u air)
          (λ u g. lt-ltb air.access u.access (omega (arith, tests, one, f, below u g))) all-started
          (none_before has_started higher (strict Highest) (λ s. true) l k)))
        where
          below : (u : Session) → not (outranks s u) ≡ true → s.access + s.overrides ≤ u.access
          below u g = ltb-false u.access (s.access + s.overrides) (flip (outranks s u) g)
            where
              flip : (b : Bool) → not b ≡ true → b ≡ false
              flip true e = absurd (clash false e refl)
              flip false e = refl
      go true e false f t =
          let one = eqb-true s.overrides 1 e in
          let g : not (outranks s air) ≡ true = rw (le-ltb air.access (s.access + s.overrides) (omega (arith, tests, one, f))) refl in
          sym (ap not (not_none (λ u. not (outranks s u)) all-started (t (λ u. not (outranks s u)) g)))

  -- so says the verdict of the one on air
  pub may-by : (i : ℕ) (v : Verdict) → (i ≡ on_air l) × (i < length l) → v ≡ get_or l i none
      → (eqb s.overrides 1 && leb v.session.access s.access) ≡ may_start s l
  may-by i v e f =
      ap (λ (w : Verdict). eqb s.overrides 1 && leb w.session.access s.access) (f ∙ ap (λ (j : ℕ). get_or l j none) e.0)
      ∙ may-over (omega (arith, e))

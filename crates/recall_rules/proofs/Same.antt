-- The same sessions in another order: what does not depend on the order. Assumes nothing.
use mathlib.Core.Path.{◌≡◌, refl, sym, ap, ◌∙◌}
use mathlib.Core.Bool.{Bool, true, false, cond, ◌&&◌}
use mathlib.Core.List.{List, [], ◌∷◌}
use Prim.Native.Nat.{ℕ, zero, suc, ◌+◌, ◌≤◌, ◌<◌}
use native.Mathlib.Omega.{arith}
use lib.Dec.{eqb, ltb, leb}
use lib.ListN.{length, get_or}
use borrow.Author.Tests.{eqb-true}
use Rattle.rules.specs.declared.Ninths.{Ninths}
use Rattle.rules.specs.declared.Session.{Session}
use Rattle.rules.specs.Lists.{bit, some, count, place}
use Rattle.rules.specs.State.{empty, sooner, earliest}
use Rattle.rules.proofs.Tests.{tests, by, eqb_same, and_both, both-and}
use Rattle.rules.proofs.Tick.{By}
use Rattle.rules.proofs.Count.{count-remove_at, some-none, some_one, place-holds, place_none}
use Rattle.recall_rules.specs.Verdicts.{Same}
use Rattle.std.specs.Prelude.{None, Option, Some}

-- whether some passes
pub same_some : (p : Session → Bool) (l m : List Session) → Same l m → some p l ≡ some p m
same_some p l m h = go (some p l) (some p m) refl refl
  where
    go : (a b : Bool) → some p l ≡ a → some p m ≡ b → a ≡ b
    go true true e f = refl
    go false false e f = refl
    go true false e f = absurd (omega (arith, some_one p l e, some-none p m f, h p))
    go false true e f = absurd (omega (arith, some-none p l e, some_one p m f, h p))

pub same_length : (l m : List Session) → Same l m → length l ≡ length m
same_length l m h = sym (whole l) ∙ (h (λ s. true) ∙ whole m)
  where
    whole : (l : List Session) → count (λ s. true) l ≡ length l
    whole [] = refl
    whole (s ∷ l) = omega (arith, whole l)

-- the earliest: it is not later than t exactly when some is not
module _ (f : Session → Ninths) where
  abbrev until : ℕ → Session → Bool
  until t s = leb (f s).0 t

  earliest-counted : (t : ℕ) (l : List Session) → By (earliest f l) t → 0 < count (until t) l
  earliest-counted t [] h = absurd h
  earliest-counted t (s ∷ l) h = go (until t s) refl (earliest f l) (earliest-counted t l) h
    where
      go : (b : Bool) → until t s ≡ b → (a : Option Ninths) → (By a t → 0 < count (until t) l) → By (sooner (Some (f s)) a) t
          → 0 < bit b + count (until t) l
      go true e a ih h = omega arith
      go false e None ih h = absurd (omega (arith, tests))
      go false e (Some u) ih h = omega (
        arith,
        by (λ w. By w t → 0 < count (until t) l) (leb (f s).0 u.0) _ _
            (λ g k. absurd (omega (arith, tests))) (λ g k. ih k) h,
      )

  counted-earliest : (t : ℕ) (l : List Session) → 0 < count (until t) l → By (earliest f l) t
  counted-earliest t [] h = absurd (omega arith)
  counted-earliest t (s ∷ l) h = go (until t s) refl (earliest f l) (counted-earliest t l) h
    where
      go : (b : Bool) → until t s ≡ b → (a : Option Ninths) → (0 < count (until t) l → By a t) → 0 < bit b + count (until t) l
          → By (sooner (Some (f s)) a) t
      go true e None ih h = omega (arith, tests)
      go true e (Some u) ih h = by (λ w. By w t) (leb (f s).0 u.0) _ _ (λ g. omega (arith, tests)) (λ g. omega (arith, tests))
      go false e None ih h = absurd (ih (omega arith))
      go false e (Some u) ih h = let k = ih (omega arith) in by (λ w. By w t) (leb (f s).0 u.0) _ _ (λ g. omega (arith, tests)) (λ g. k)

  pub same-earliest : (l m : List Session) → Same l m → earliest f l ≡ earliest f m
  same-earliest l m h =
      go (earliest f l) (earliest f m) (λ t k. counted-earliest t m (omega (arith, earliest-counted t l k, h (until t))))
      (λ t k. counted-earliest t l (omega (arith, earliest-counted t m k, h (until t))))
    where
      go : (a b : Option Ninths) → ((t : ℕ) → By a t → By b t) → ((t : ℕ) → By b t → By a t) → a ≡ b
      go None None i j = refl
      go None (Some u) i j = absurd (j u.0 (omega arith))
      go (Some t) None i j = absurd (i t.0 (omega arith))
      go (Some t) (Some u) i j = let e : t.0 ≡ u.0 = omega (arith, i t.0 (omega arith), j u.0 (omega arith)) in
          ap (λ n. Some (record { 0 = n })) e

-- ## The one that passes

-- where only one passes, the place is its own
pub only-place : (p : Session → Bool) (m : List Session) (j : ℕ) → count p m ≤ 1 → j < length m → p (get_or m j empty) ≡ true
    → place p m ≡ j
unfolding place
only-place p [] j u h e = absurd (omega arith)
only-place p (s ∷ m) zero u h e = rw e
only-place p (s ∷ m) (suc j) u h e = go (p s) refl (λ v. only-place p m j v (omega arith) e) u
  where
    here : (k : ℕ) (l : List Session) → k < length l → p (get_or l k empty) ≡ true → 0 < count p l
    here k l a b = omega (arith, count-remove_at p k l empty a, ap bit b)

    go : (b : Bool) → p s ≡ b → (count p m ≤ 1 → place p m ≡ j) → bit b + count p m ≤ 1 → cond b 0 (suc (place p m)) ≡ suc j
    go true f ih v = absurd (omega (arith, here j m (omega arith) e))
    go false f ih v = ap suc (ih (omega arith))

-- all that is said of a session
abbrev alike : Session → Session → Bool
alike a s =
    eqb a.conn s.conn && (eqb a.id s.id && (eqb a.prior s.prior &&
    (eqb a.start.0 s.start.0 && (eqb a.end.0 s.end.0
    && (eqb a.access s.access && (eqb a.overrides s.overrides &&
    (eqb a.mux s.mux && (eqb a.event s.event && eqb a.played.0 s.played.0))))))))

alike_self : (a : Session) → alike a a ≡ true
alike_self a = simp eqb_same

fields : ℕ → ℕ → ℕ → ℕ → ℕ → ℕ → ℕ → ℕ → ℕ → ℕ → Session
fields c i p t e a o m v d =
    record {
      conn = c;
      id = i;
      prior = p;
      start = record { 0 = t };
      end = record { 0 = e };
      access = a;
      overrides = o;
      mux = m;
      event = v;
      played = record { 0 = d };
    }

alike_same : (a s : Session) → alike a s ≡ true → s ≡ a
unfolding fields
alike_same a s e =
    let b1 = and_both (eqb a.conn s.conn) _ e in
    let b2 = and_both (eqb a.id s.id) _ b1.1 in
    let b3 = and_both (eqb a.prior s.prior) _ b2.1 in
    let b4 = and_both (eqb a.start.0 s.start.0) _ b3.1 in
    let b5 = and_both (eqb a.end.0 s.end.0) _ b4.1 in
    let b6 = and_both (eqb a.access s.access) _ b5.1 in
    let b7 = and_both (eqb a.overrides s.overrides) _ b6.1 in
    let b8 = and_both (eqb a.mux s.mux) _ b7.1 in
    let b9 = and_both (eqb a.event s.event) _ b8.1 in
    made (eqb-true _ _ b1.0) (eqb-true _ _ b2.0) (eqb-true _ _ b3.0) (eqb-true _ _ b4.0) (eqb-true _ _ b5.0)
    (eqb-true _ _ b6.0) (eqb-true _ _ b7.0)
    (eqb-true _ _ b8.0) (eqb-true _ _ b9.0) (eqb-true _ _ b9.1)
  where
    made : a.conn ≡ s.conn → a.id ≡ s.id → a.prior ≡ s.prior → a.start.0 ≡ s.start.0 → a.end.0 ≡ s.end.0
        → a.access ≡ s.access
        → a.overrides ≡ s.overrides → a.mux ≡ s.mux → a.event ≡ s.event → a.played.0 ≡ s.played.0 → s ≡ a
    made c1 c2 c3 c4 c5 c6 c7 c8 c9 c10 =
        let g : ◌≡◌ {A = Session} (fields s.conn s.id s.prior s.start.0 s.end.0 s.access s.overrides s.mux
        s.event s.played.0)
        (fields a.conn a.id a.prior a.start.0 a.end.0 a.access a.overrides a.mux a.event a.played.0) =
        rw (c1, c2, c3, c4, c5, c6, c7, c8, c9, c10) in g

-- where only one passes, both orders have the same one
pub same-one : (p : Session → Bool) (l m : List Session) → Same l m → count p m ≤ 1 → (x : Session)
    → ((r : Session → Bool) → r x ≡ true → 0 < count r l) → p x ≡ true
    → get_or m (place p m) empty ≡ x
same-one p l m h u x b e =
    let r : Session → Bool = λ s. p s && alike x s in
    let c : 0 < count r l = b r (both-and (p x) (alike x x) e (alike_self x)) in
    let j = place r m in
    let k : j < length m = found r c in
    let g = and_both (p (get_or m j empty)) (alike x (get_or m j empty)) (place-holds r m empty k) in
    ap (λ n. get_or m n empty) (only-place p m j u k g.0) ∙ alike_same x (get_or m j empty) g.1
  where
    found : (r : Session → Bool) → 0 < count r l → place r m < length m
    found r c = go (ltb (place r m) (length m)) refl
      where
        go : (t : Bool) → ltb (place r m) (length m) ≡ t → place r m < length m
        go true f = omega (arith, tests)
        go false f = absurd (omega (arith, h r, place_none r m (omega (arith, tests))))

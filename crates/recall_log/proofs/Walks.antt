-- From call to call through a log: how many are allowed does not matter, so what is in a log is what stands first and what is in the rest.
-- Rests on `begins` of Firsts: a call takes two bytes or more of the log.
use mathlib.Core.Path.{◌≡◌, refl, sym, subst, ap, ◌∙◌}
use mathlib.Core.List.{List, [], ◌∷◌}
use Prim.Native.Nat.{ℕ, zero, suc, ◌+◌, ◌-◌, ◌*◌, ◌≤◌}
use native.Mathlib.Omega.{arith}
use lib.ListN.{length, drop, length-drop}
use lib.Seq.{drop-drop}
use Rattle.rules.specs.Calls.{Call}
use Rattle.rules.specs.Card.{Next, calls, ends, stops, next}
use Rattle.recall_log.specs.Log.{stepped, calls_in, bytes_in, kept_calls, taken}
use Rattle.recall_log.proofs.Firsts.{first}

-- no call stands first
abbrev pub NoCall : Next → Type 0
NoCall (calls k m) = ⊥
NoCall (ends k) = Unit {0}
NoCall stops = Unit {0}

-- what is behind the first call
module _ (l : List ℕ) {k : Call} {m : List ℕ} (e : next l ≡ calls k m) where
  pub rest-long : length m + (first l e).size ≡ length l
  rest-long = let f = first l e in omega (arith, ap length f.rest, length-drop f.size l, f.there)

  pub rest-shorter : 2 + length m ≤ length l
  rest-shorter = omega (arith, rest-long, (first l e).two)

-- ## How many calls are allowed

fuel : (n m : ℕ) (l : List ℕ) → length l ≤ n → length l ≤ m → (calls_in n l ≡ calls_in m l) × (bytes_in n l ≡ bytes_in m l)
unfolding calls_in bytes_in stepped next
fuel zero zero l h i = (refl, refl)
fuel zero (suc m) [] h i = (refl, refl)
fuel zero (suc m) (b ∷ l) h i = absurd (omega arith)
fuel (suc n) zero [] h i = (refl, refl)
fuel (suc n) zero (b ∷ l) h i = absurd (omega arith)
fuel (suc n) (suc m) l h i = go (next l) refl (λ r f. fuel n m r (omega arith) (omega arith))
  where
    go : (x : Next) → next l ≡ x → ((r : List ℕ) → 2 + length r ≤ length l → (calls_in n r ≡ calls_in m r) × (bytes_in n r ≡ bytes_in m r))
        → (stepped [] (λ k r. k ∷ calls_in n r) x ≡ stepped [] (λ k r. k ∷ calls_in m r) x)
        × (stepped 0 (λ k r. (length l - length r) + bytes_in n r) x ≡ stepped 0 (λ k r. (length l - length r) + bytes_in m r) x)
    go (calls k r) e ih =
        let g = ih r (rest-shorter l e) in
        (ap (λ y. k ∷ y) g.0, ap (λ y. (length l - length r) + y) g.1)
    go (ends k) e ih = (refl, refl)
    go stops e ih = (refl, refl)

-- ## The first call, and the rest

pub calls-none : (l : List ℕ) → NoCall (next l) → kept_calls l ≡ []
unfolding kept_calls calls_in stepped next
calls-none [] f = refl
calls-none (b ∷ l) f = go (next (b ∷ l)) f
  where
    go : (x : Next) → NoCall x → stepped [] (λ k r. k ∷ calls_in (length l) r) x ≡ []
    go (calls k r) f = absurd f
    go (ends k) f = refl
    go stops f = refl

pub taken_none : (l : List ℕ) → NoCall (next l) → taken l ≡ 0
unfolding taken bytes_in stepped next
taken_none [] f = refl
taken_none (b ∷ l) f = go (next (b ∷ l)) f
  where
    go : (x : Next) → NoCall x → stepped 0 (λ k r. (suc (length l) - length r) + bytes_in (length l) r) x ≡ 0
    go (calls k r) f = absurd f
    go (ends k) f = refl
    go stops f = refl

module _ (l : List ℕ) {k : Call} {m : List ℕ} (e : next l ≡ calls k m) where
  pub calls-more : kept_calls l ≡ k ∷ kept_calls m
  unfolding kept_calls calls_in stepped
  calls-more =
      (fuel (length l) (suc (length l)) l (omega arith) (omega arith)).0
      ∙ rw e (ap (λ y. k ∷ y) (fuel (length l) (length m) m (omega (arith, rest-shorter l e)) (omega arith)).0)

  pub taken_more : taken l ≡ (first l e).size + taken m
  unfolding taken bytes_in stepped
  taken_more =
      let f = first l e in
      (fuel (length l) (suc (length l)) l (omega arith) (omega arith)).1
      ∙ rw e (omega (arith, rest-long l e, (fuel (length l) (length m) m (omega (arith, rest-shorter l e)) (omega arith)).1))

-- ## A fact of every log

module _ (P : List ℕ → Type 0) (none : (l : List ℕ) → NoCall (next l) → P l)
    (more : (l : List ℕ) (k : Call) (m : List ℕ) → next l ≡ calls k m → P m → P l) where
  through-by : (n : ℕ) (l : List ℕ) → length l ≤ n → P l
  unfolding next
  through-by zero [] h = none [] tt
  through-by zero (b ∷ l) h = absurd (omega arith)
  through-by (suc n) l h = go (next l) refl (λ m i. through-by n m (omega arith))
    where
      go : (x : Next) → next l ≡ x → ((m : List ℕ) → 2 + length m ≤ length l → P m) → P l
      go (calls k m) e ih = more l k m e (ih m (rest-shorter l e))
      go (ends k) e ih = none l (subst NoCall (sym e) tt)
      go stops e ih = none l (subst NoCall (sym e) tt)

  pub through : (l : List ℕ) → P l
  through l = through-by (length l) l (omega arith)

-- the calls lie within the log, two bytes or more each
pub within : (l : List ℕ) → (2 * length (kept_calls l) ≤ taken l) × (taken l ≤ length l)
within =
    through (λ l. (2 * length (kept_calls l) ≤ taken l) × (taken l ≤ length l))
    (λ l f. (omega (arith, ap length (calls-none l f)), omega (arith, taken_none l f)))
    (λ l k m e i. (
      omega (arith, ap length (calls-more l e), taken_more l e, (first l e).two, i.0),
      omega (arith, taken_more l e, rest-long l e, i.1),
    ))

-- and behind them stands none
pub none-behind : (l : List ℕ) → NoCall (next (drop (taken l) l))
none-behind =
    through (λ l. NoCall (next (drop (taken l) l)))
    (λ l f. subst (λ n. NoCall (next (drop n l))) (sym (taken_none l f)) f)
    (λ l k m e i. let g = first l e in
    subst (λ x. NoCall (next x)) (ap (drop (taken m)) g.rest ∙ drop-drop (taken m) g.size l
    ∙ ap (λ n. drop n l) (sym (taken_more l e))) i)

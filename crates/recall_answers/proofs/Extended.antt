-- 02, CR 8: the end of a number, the latest of a connection's number, and what is told of it.
-- Rests on what recall_rows and recall_ends promise of the rows, and on rules' laws of records' lengths.
use mathlib.Core.Path.{◌≡◌, refl, sym, ap, ap₂, subst, ◌∙◌}
use mathlib.Core.Bool.{Bool, true, false}
use mathlib.Core.List.{List, ◌∷◌}
use Prim.Native.Nat.{ℕ, zero, suc, ◌+◌, ◌-◌, ◌≤◌, ◌<◌}
use native.Mathlib.Omega.{arith}
use lib.ListN.{length, get_or, get_or-eq_default}
use borrow.Author.Tests.{eq-eqb, ne_eqb}
use Rattle.rules.specs.declared.Past.{Past}
use Rattle.rules.specs.Units.{to_ticks}
use Rattle.rules.specs.Lists.{place}
use Rattle.rules.specs.State.{empty}
use Rattle.rules.specs.Recent.{most_kept, unused, is_kept}
use Rattle.rules.specs.Records.{ExtendedFound, ExtendedNone}
use Rattle.rules.specs.Answers.{is_past, latest}
use Rattle.recall_rules.specs.declared.Verdict.{Verdict}
use Rattle.recall_rules.specs.Verdicts.{none, ends, ended_as, result_in, past_of, nth_end, lately_from, recent}
use Rattle.recall_rules.specs.Work.{extended_response}
use Rattle.writing.specs.Puts.{Puts}
use Rattle.recall_ends.proofs.Laws.{tells_first}
use Rattle.recall_answers.specs.Replies.{Says}

-- ## The end of a number

-- i: the verdict whose end has the number n, or how many there are
module _ (n i : ℕ) (l : List Verdict) (f : i ≡ place (ended_as n) l) where
  -- r, p: its result and its time on air
  pub nth-found : (v : Verdict) {r p : ℕ} → v ≡ get_or l i none → r ≡ result_in v.phase → p ≡ (to_ticks v.session.played).0 →
      record { conn = v.session.conn; id = v.session.id; event = v.session.event; result = r; played = p } ≡ nth_end n l
  nth-found v e q t =
      ap₂ (λ (r p : ℕ). record { conn = v.session.conn; id = v.session.id; event = v.session.event; result = r; played = p }) q t
      ∙ ap past_of (e ∙ ap (λ (j : ℕ). get_or l j none) f)

  pub nth-none : length l ≤ i → unused ≡ nth_end n l
  unfolding empty
  nth-none h = ap past_of (sym (get_or-eq_default l none h) ∙ ap (λ (j : ℕ). get_or l j none) f)

-- all 0
pub unused-by : (e : Past) → (e.conn ≡ 0) × ((e.id ≡ 0) × ((e.event ≡ 0) × ((e.result ≡ 0) × (e.played ≡ 0)))) → e ≡ unused
unused-by e p = λ i. record { conn = p.0 i; id = p.1.0 i; event = p.1.1.0 i; result = p.1.1.1.0 i; played = p.1.1.1.1 i }

-- ## The latest, from the newest down

-- the k ends before number n decide
abbrev pub Seeking : (c x : ℕ) → List Verdict → (n k : ℕ) → Type 0
Seeking c x l n k = latest c x (recent l) ≡ latest c x (lately_from k n l)

module _ (c x : ℕ) where
  passed_over : (e : Past) (m : List Past) → is_past c x e ≡ false → latest c x (e ∷ m) ≡ latest c x m
  unfolding latest place
  passed_over e m h = rw h refl

  hit : (e : Past) (m : List Past) → is_past c x e ≡ true → latest c x (e ∷ m) ≡ e
  unfolding latest place
  hit e m h = rw h refl

  -- where none has ended nothing is found
  none_left : (k : ℕ) (l : List Verdict) → latest c x (lately_from k zero l) ≡ unused
  unfolding lately_from latest place
  none_left zero l = refl
  none_left (suc k) l = passed_over unused (lately_from k zero l) refl ∙ none_left k l

  module _ (l : List Verdict) where
    next : (n k : ℕ) → 0 < n → 0 < k → lately_from k n l ≡ nth_end (n - 1) l ∷ lately_from (k - 1) (n - 1) l
    unfolding lately_from
    next zero k h g = absurd (omega arith)
    next (suc n) zero h g = absurd (omega arith)
    next (suc n) (suc k) h g =
        let a : suc n - 1 ≡ n = omega arith in
        let b : suc k - 1 ≡ k = omega arith in
        rw (a, b) refl

    pub seek-none : {n : ℕ} → n ≡ ends l → Seeking c x l n most_kept
    seek-none e = ap (λ (n : ℕ). latest c x (lately_from most_kept n l)) (sym e)

    -- e: the next end
    module _ (n k : ℕ) (h : 0 < n) (g : 0 < k) (s : Seeking c x l n k) {e : Past} (q : e ≡ nth_end (n - 1) l) where
      pub seek-more : is_past c x e ≡ false → Seeking c x l (n - 1) (k - 1)
      seek-more p = s ∙ ap (latest c x) (next n k h g) ∙ passed_over (nth_end (n - 1) l) (lately_from (k - 1) (n - 1) l)
          (ap (is_past c x) (sym q) ∙ p)

      pub seek_hit : is_past c x e ≡ true → e ≡ latest c x (recent l)
      seek_hit p =
          q ∙ sym (s ∙ ap (latest c x) (next n k h g) ∙ hit (nth_end (n - 1) l) (lately_from (k - 1) (n - 1) l)
          (ap (is_past c x) (sym q) ∙ p))

    -- all sixteen were looked at, or all that ended
    pub seek-full : (n k : ℕ) → k ≡ 0 → Seeking c x l n k → unused ≡ latest c x (recent l)
    unfolding lately_from latest place
    seek-full n k e s = sym (s ∙ ap (λ (k : ℕ). latest c x (lately_from k n l)) e)

    pub seek-out : (n k : ℕ) → n ≡ 0 → Seeking c x l n k → unused ≡ latest c x (recent l)
    seek-out n k e s = sym (s ∙ ap (λ (n : ℕ). latest c x (lately_from k n l)) e ∙ none_left k l)

    -- at the end, the ends being `ended`
    pub seek-end : (n k ended : ℕ) → n ≤ ended - most_kept → k ≡ n + most_kept - ended → Seeking c x l n k → unused ≡ latest c x (recent l)
    seek-end n zero ended h f s = seek-full n zero refl s
    seek-end n (suc k) ended h f s = seek-out n (suc k) (omega (arith, h, f)) s

-- ## What is told

-- y: what was found; o: the buffer that held e
module _ (c x : ℕ) (l : List Verdict) {y : Past} (f : y ≡ latest c x (recent l)) where
  found-kept : {t : Bool} → is_kept y ≡ t → is_kept (latest c x (recent l)) ≡ t
  found-kept h = ap is_kept (sym f) ∙ h

  pub extended_none : {e o : List ℕ} {len : ℕ} → y.result ≡ 0 → Puts (ExtendedNone c x) e len o → Says (extended_response c x l) e len o
  unfolding extended_response
  extended_none h b = rw (found-kept {t = false} (rw (eq-eqb y.result 0 h))) (tells_first b)

  pub extended-found : {e o : List ℕ} {len : ℕ} → (y.result ≡ 0 → ⊥)
      → Puts (ExtendedFound c x y.event y.result y.played) e len o →
      Says (extended_response c x l) e len o
  unfolding extended_response
  extended-found {e} {o} {len} h b =
      rw (found-kept {t = true} (rw (ne_eqb y.result 0 h)))
      (subst (λ (z : Past). Says (ExtendedFound c x z.event z.result z.played) e len o) f (tells_first b))

-- 02, CR 8: the answer to an ExtendedData_Request: it has one of two lengths, it is of the first of the number in what ended lately, newest
-- first, and none is found exactly when there is none. Rests on Lately's sizes of what is kept.
use mathlib.Core.Path.{◌≡◌, refl, sym, ap, ◌∙◌}
use mathlib.Core.Bool.{Bool, true, false}
use mathlib.Core.List.{List, [], ◌∷◌}
use Prim.Native.Nat.{ℕ, zero, suc, ◌+◌, ◌-◌, ◌%◌, ◌≤◌, ◌<◌}
use native.Mathlib.Omega.{arith}
use lib.ListN.{length, get_or}
use borrow.Author.Tests.{ltb-true, ltb-false}
use Rattle.rules.specs.declared.Past.{Past}
use Rattle.rules.specs.Lists.{All, some, place}
use Rattle.rules.specs.State.{Lately, Queue}
use Rattle.rules.specs.Recent.{most_kept, unused, is_kept, recent_at, recent_from, recent}
use Rattle.rules.specs.Records.{Record, ExtendedFound, ExtendedNone}
use Rattle.rules.specs.Answers.{is_past, latest, extended_response}
use Rattle.rules.specs.Follows.Sound.{Noted, Recalled}
use Rattle.rules.proofs.Tests.{by, and_both}
use Rattle.rules.proofs.Count.{place-holds, some-place}
use Rattle.rules.proofs.Lately.{unused-noted}

-- a fact of it, from the fact of each length
pub by-recall : (P : Record → Type 0) (c x : ℕ) (q : Queue) →
    (let e = latest c x (recent q.lately) in is_kept e ≡ true → P (ExtendedFound c x e.event e.result e.played)) →
    P (ExtendedNone c x) → P (extended_response c x q)
unfolding extended_response
by-recall P c x q f g = by P (is_kept (latest c x (recent q.lately))) _ _ f (λ k. g)

-- ## What is found has the sizes of its fields

or-default : (P : Past → Type 0) (d : Past) → P d → (l : List Past) (i : ℕ) → All P l → P (get_or l i d)
or-default P d h [] i a = h
or-default P d h (e ∷ l) zero a = a.0
or-default P d h (e ∷ l) (suc i) a = or-default P d h l i a.1

pub noted-at : (l : Lately) → Recalled l → (i : ℕ) → Noted (recent_at i l)
unfolding recent_at
noted-at l r i = or-default Noted unused unused-noted l.places ((l.next + (most_kept - 1 - i)) % most_kept) r.noted

recent-noted : (l : Lately) → Recalled l → (i n : ℕ) → All Noted (recent_from i n l)
unfolding recent_from
recent-noted l r i zero = tt
recent-noted l r i (suc n) = (noted-at l r i, recent-noted l r (suc i) n)

pub latest-noted : (c x : ℕ) (l : Lately) → Recalled l → Noted (latest c x (recent l))
unfolding latest recent
latest-noted c x l r = or-default Noted unused unused-noted (recent l) (place (is_past c x) (recent l)) (recent-noted l r 0 most_kept)

-- ## Found exactly when one is kept

module _ (c x : ℕ) (l : List Past) where
  -- one of l is of the number: the first such is found
  pub recall-found : some (is_past c x) l ≡ true → (place (is_past c x) l < length l) × (is_past c x (latest c x l) ≡ true)
  unfolding latest
  recall-found h =
      let i : place (is_past c x) l < length l = ltb-true (place (is_past c x) l) (length l) (sym (some-place (is_past c x) l) ∙ h) in
      (i, place-holds (is_past c x) l unused i)

  -- none is
  pub recall-none : some (is_past c x) l ≡ false → latest c x l ≡ unused
  unfolding latest
  recall-none h =
      let i : length l ≤ place (is_past c x) l = ltb-false (place (is_past c x) l) (length l) (sym (some-place (is_past c x) l) ∙ h) in
      beyond l (place (is_past c x) l) i
    where
      beyond : (m : List Past) (i : ℕ) → length m ≤ i → get_or m i unused ≡ unused
      beyond [] i h = refl
      beyond (e ∷ m) zero h = absurd (omega arith)
      beyond (e ∷ m) (suc i) h = beyond m i (omega arith)

  pub recalled-kept : is_kept (latest c x l) ≡ some (is_past c x) l
  recalled-kept = go (some (is_past c x) l) refl
    where
      go : (b : Bool) → some (is_past c x) l ≡ b → is_kept (latest c x l) ≡ b
      go true h = (and_both (is_kept (latest c x l)) _ (recall-found h).1).0
      go false h = ap is_kept (recall-none h)

-- "the asking connection's latest ended session of that number"
pub answers-latest : (c x : ℕ) (q : Queue) → some (is_past c x) (recent q.lately) ≡ true →
    let e = latest c x (recent q.lately) in
    extended_response c x q ≡ ExtendedFound c x e.event e.result e.played
unfolding extended_response
answers-latest c x q h = rw (recalled-kept c x (recent q.lately) ∙ h)

-- "121 with the SessionID alone where none is kept"
pub answers-none : (c x : ℕ) (q : Queue) → some (is_past c x) (recent q.lately) ≡ false → extended_response c x q ≡ ExtendedNone c x
unfolding extended_response
answers-none c x q h = rw (recalled-kept c x (recent q.lately) ∙ h)

-- ## A search from the newest down

-- none of the newest i is of the number: what is found is among the others
abbrev pub Seeking : (c x : ℕ) → Lately → ℕ → Type 0
Seeking c x l i = latest c x (recent l) ≡ latest c x (recent_from i (most_kept - i) l)

module _ (c x : ℕ) (l : Lately) where
  pub seek-none : Seeking c x l 0
  unfolding recent
  seek-none = refl

  -- the next of them is not, or is
  seek-next : (i n : ℕ) → most_kept - i ≡ suc n → recent_from i (most_kept - i) l ≡ recent_at i l ∷ recent_from (suc i) n l
  unfolding recent_from
  seek-next i n e = ap (λ (k : ℕ). recent_from i k l) e

  passed_over : (e : Past) (m : List Past) → is_past c x e ≡ false → latest c x (e ∷ m) ≡ latest c x m
  unfolding latest place
  passed_over e m h = rw h refl

  pub seek-more : (i : ℕ) → i < most_kept → is_past c x (recent_at i l) ≡ false → Seeking c x l i → Seeking c x l (i + 1)
  seek-more i h e s =
      let n = most_kept - suc i in
      let k : i + 1 ≡ suc i = omega arith in
      rw k (s ∙ ap (latest c x) (seek-next i n (omega arith)) ∙ passed_over (recent_at i l) (recent_from (suc i) n l) e)

  pub seek_hit : (i : ℕ) → i < most_kept → is_past c x (recent_at i l) ≡ true → Seeking c x l i → recent_at i l ≡ latest c x (recent l)
  unfolding latest place
  seek_hit i h e s = let n = most_kept - suc i in sym (s ∙ ap (latest c x) (seek-next i n (omega arith)) ∙ rw e refl)

  pub seek-out : (i : ℕ) → most_kept ≤ i → Seeking c x l i → unused ≡ latest c x (recent l)
  unfolding latest place recent_from
  seek-out i h s = let none : most_kept - i ≡ zero = omega arith in sym (s ∙ ap (λ (k : ℕ). latest c x (recent_from i k l)) none)

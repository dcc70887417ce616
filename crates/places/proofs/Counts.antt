-- 02, CR 11: but for the places that an acceptance shifts, and its own, none changes.
-- Rests on Laws (a list in its places, padded) and on Ring (turned by one more the first goes behind the last).
use mathlib.Core.Path.{◌≡◌, sym, ap, ◌∙◌}
use mathlib.Core.List.{List, [], ◌∷◌, ◌++◌, append_assoc}
use Prim.Native.Nat.{ℕ, suc, ◌+◌, ◌-◌, ◌≤◌, ◌<◌}
use native.Mathlib.Omega.{arith}
use lib.ListN.{length, take, drop, get_or, replicate, length-replicate}
use lib.Seq.{take_at, take-append-add, take-append-le, length-take-le}
use Rattle.rules.specs.declared.Session.{Session}
use Rattle.rules.specs.Lists.{insert_at}
use Rattle.rules.specs.State.{empty}
use Rattle.rules.proofs.Count.{length-insert_at}
use Rattle.places.specs.Places.{capacity, round, turned, next, lot, places, used, Good, Made}
use Rattle.places.proofs.Words.{length-places}
use Rattle.places.proofs.Ring.{size, turned-next}
use Rattle.places.proofs.Laws.{pad, padded, length-used}

insert-front : (at : ℕ) (x : Session) (u : List Session) → at ≤ length u → take at (insert_at at x u) ≡ take at u
unfolding insert_at
insert-front at x u h = take_at (take at u) (x ∷ drop at u) at (length-take-le at u h)

front : (k at : ℕ) (v : List Session) → take (k + at) (replicate k empty ++ v) ≡ replicate k empty ++ take at v
front k at v = ap (λ (j : ℕ). take (j + at) (replicate k empty ++ v)) (sym (length-replicate k empty))
    ∙ take-append-add (replicate k empty) v at

-- of the words p and of the words o that an acceptance makes of them: of the places, from the ring's new end on, all but the last m + 1
-- hold what they held, where m of the n that wait are shifted
pub stays : (p o : List ℕ) (e n at m : ℕ) (x : Session) → capacity p ≡ round → capacity o ≡ round → e < round → n < round → at ≤ n
    → m ≡ n - at →
    Good (lot p e n) → Made p o (next e) (n + 1) (insert_at at x (used (lot p e n))) →
    take (round - (m + 1)) (turned (next e) (places o)) ≡ take (round - (m + 1)) (turned (next e) (places p))
unfolding pad
stays p o e n at m x l r h i a f g d =
    let u = used (lot p e n) in
    let k = round - 1 - n in
    let c : length u ≡ n = length-used (lot p e n) g in
    let w : length (turned e (places p)) ≡ round = size p e ∙ l in
    let v : length (turned (next e) (places o)) ≡ round = size o (next e) ∙ r in
    let z : length (turned e (places p)) - length u ≡ suc k = omega arith in
    let y : length (turned (next e) (places o)) - length (insert_at at x u) ≡ k = omega (arith, length-insert_at at x u) in
    let first = get_or (turned e (places p)) 0 empty in
    let b : turned e (places p) ≡ empty ∷ (replicate k empty ++ u) = padded (lot p e n) g ∙ ap (λ (j : ℕ). replicate j empty ++ u) z in
    let before : turned (next e) (places p) ≡ replicate k empty ++ (u ++ (first ∷ [])) =
    turned-next e (places p) empty (length-places p ∙ l) h ∙ ap (λ v. drop 1 v ++ (first ∷ [])) b
    ∙ append_assoc (replicate k empty) u (first ∷ []) in
    let after : turned (next e) (places o) ≡ replicate k empty ++ insert_at at x u =
    padded (lot o (next e) (n + 1)) d.good
    ∙ ap (λ v. replicate (length (turned (next e) (places o)) - length v) empty ++ v) d.list
    ∙ ap (λ (j : ℕ). replicate j empty ++ insert_at at x u) y in
    let q : round - (m + 1) ≡ k + at = omega arith in
    rw q
    (ap (take (k + at)) after
    ∙ front k at (insert_at at x u)
    ∙ ap (λ v. replicate k empty ++ v) (insert-front at x u (omega arith) ∙ sym (take-append-le at u (first ∷ []) (omega arith)))
    ∙ sym (ap (take (k + at)) before ∙ front k at (u ++ (first ∷ []))))

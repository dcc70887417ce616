-- Laws of the walk over descriptors: each answer of a step, and what each says of the rest.
-- Rests on rules' laws of the fuel, `mux-end` and `mux-step`.
use mathlib.Core.Bool.{Bool, true, false, cond, not, ◌&&◌}
use mathlib.Core.List.{List}
use mathlib.Core.Path.{◌≡◌, refl, ap, ◌∙◌}
use Prim.Native.Nat.{ℕ, ◌+◌, ◌≤◌, ◌<◌}
use native.Mathlib.Omega.{arith}
use borrow.Author.Tests.{eq-eqb, eqb-true, eqb-false, leb-true}
use lib.Dec.{eqb, leb}
use lib.ListN.{length, drop, length-drop}
use Rattle.std.specs.Prelude.{Some, None}
use Rattle.rules.specs.Descriptors.{descriptor_length, descriptor_fits, is_mux, mux_value, bad_mux, good_descriptor, mux_after}
use Rattle.rules.proofs.Descriptors.{mux_rest, mux-end, mux-step}
use Rattle.rules.proofs.Tests.{and_both}
use Rattle.reading.specs.declared.descriptors.Descriptor.{Descriptor}
use Rattle.reading.specs.declared.descriptors.Descriptor.TheVariants.{Mux, Foreign, End, Bad}
use Rattle.reading.specs.Walk.{step_at}

-- ## The answers of a step

pub step_end : (l : List ℕ) (at : ℕ) → length l ≤ at → step_at l at ≡ End
unfolding step_at
step_end l at h = rw (eq-eqb (length (drop at l)) 0 (length-drop at l ∙ omega arith))

-- ## What the rest is, by the answer

-- what an answer at the place `at` says of the descriptors from there on, whatever is asked before them
abbrev pub Says : List ℕ → ℕ → Descriptor → Type 0
Says l at (Mux x n) = (at < n) × (n ≤ length l) × ((v : ℕ) → mux_rest v (drop at l) ≡ mux_rest x (drop n l))
Says l at (Foreign n) = (at < n) × (n ≤ length l) × ((v : ℕ) → mux_rest v (drop at l) ≡ mux_rest v (drop n l))
Says l at End = (v : ℕ) → mux_rest v (drop at l) ≡ Some v
Says l at Bad = (v : ℕ) → mux_rest v (drop at l) ≡ None

fits-within : (l : List ℕ) (at : ℕ) → descriptor_fits (drop at l) ≡ true → at + (2 + descriptor_length (drop at l)) ≤ length l
fits-within l at f =
    let d = descriptor_length (drop at l) in
    let g = and_both (leb 4 d) (leb d 254 && leb (2 + d) (length (drop at l))) f in
    let h = and_both (leb d 254) (leb (2 + d) (length (drop at l))) g.1 in
    omega (arith, leb-true (2 + d) (length (drop at l)) h.1, length-drop at l)

pub step-says : (l : List ℕ) (at : ℕ) → Says l at (step_at l at)
unfolding step_at
step-says l at = go (eqb (length d) 0) refl (good_descriptor d) refl (is_mux d) refl
  where
    d : List ℕ
    d = drop at l

    n : ℕ
    n = at + (2 + descriptor_length d)

    inside : eqb (length d) 0 ≡ false → at < length l
    inside e = omega (arith, eqb-false (length d) 0 e, length-drop at l)

    within : good_descriptor d ≡ true → n ≤ length l
    within g = fits-within l at (and_both (descriptor_fits d) (not (is_mux d && bad_mux d)) g).0

    rest : eqb (length d) 0 ≡ false → (g : Bool) → good_descriptor d ≡ g → (v : ℕ)
        → mux_rest v d ≡ cond g (mux_rest (mux_after v d) (drop n l)) None
    rest e g q v = mux-step l at v (inside e) ∙ ap (λ t. cond t (mux_rest (mux_after v d) (drop n l)) None) q

    go : (b : Bool) → eqb (length d) 0 ≡ b → (g : Bool) → good_descriptor d ≡ g → (m : Bool) → is_mux d ≡ m
        → Says l at (cond b End (cond g (cond m (Mux (mux_value d) n) (Foreign n)) Bad))
    go true e g q m p = λ v. mux-end l at v (omega (arith, eqb-true (length d) 0 e, length-drop at l))
    go false e true q true p = (omega arith, within q, λ v. rest e true q v ∙ ap (λ t. mux_rest (cond t (mux_value d) v) (drop n l)) p)
    go false e true q false p = (omega arith, within q, λ v. rest e true q v ∙ ap (λ t. mux_rest (cond t (mux_value d) v) (drop n l)) p)
    go false e false q m p = rest e false q

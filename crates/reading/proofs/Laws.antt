-- Laws for the readers and their callers: what is said of a part, and the lengths that an answer grants.
-- Rests on nothing but the definitions.
use mathlib.Core.Bool.{Bool, true, false}
use mathlib.Core.List.{List}
use mathlib.Core.Path.{◌≡◌, sym, ap, subst, ◌∙◌}
use mathlib.Core.Logic.{◌⊎◌, inl, inr}
use Prim.Native.Nat.{ℕ, ◌+◌, ◌-◌, ◌≤◌}
use native.Mathlib.Omega.{arith}
use borrow.Author.Tests.{ne_eqb, ltb-false}
use lib.Dec.{eqb, ltb}
use lib.ListN.{length, take, drop, length-drop}
use lib.Seq.{take_all}
use Rattle.std.specs.Prelude.{Result, Ok, Err}
use Rattle.rules.specs.declared.Header.{Header}
use Rattle.rules.specs.declared.Refusal.{Refusal}
use Rattle.rules.specs.declared.Message.{Message}
use Rattle.rules.specs.declared.Message.TheVariants.{Init, Alive, Splice, Abort, Config, Extended}
use Rattle.rules.specs.Bytes.{message_size, oversize}
use Rattle.rules.specs.Calls.{framing}
use Rattle.rules.specs.Reading.{init_request, alive_request, splice_request, abort_request, config_request}
use Rattle.rules.specs.Hardware.{hardware_place, hardware_length}
use Rattle.rules.specs.Hardware.{longest_hardware, bad_hardware}
use Rattle.rules.specs.Reading.{extended_request, bad_init, bad_extended, read_init, read_alive, read_abort}
use Rattle.rules.specs.Reading.{read_config, read_extended, is_read, read}
use Rattle.rules.specs.Request.{tail_of, bad_splice, read_whole, read_splice}
use Rattle.rules.proofs.Tests.{by, or-none}
use Rattle.std.specs.Prelude.{None, Option, Some}

-- what was said of a part
pub said : (f : List ℕ → Bool) {x y : List ℕ} {b n : Bool} → b ≡ f x → x ≡ y → b ≡ n → f y ≡ n
said f e p g = ap f (sym p) ∙ sym e ∙ g

-- `&l[a..]` is all that stands from the place a on
pub behind : (a : ℕ) (l : List ℕ) → take (length l - a) (drop a l) ≡ drop a l
behind a l = take_all (length l - a) (drop a l) (simp length-drop (omega arith))

-- ## The list of those that are read

-- as code asks it
abbrev Listed : ℕ → Type 0
Listed id =
    (id ≡ init_request) ⊎ ((id ≡ extended_request) ⊎ ((id ≡ alive_request) ⊎
    ((id ≡ splice_request) ⊎ ((id ≡ config_request) ⊎ (id ≡ abort_request)))))

pub read-yes : (id : ℕ) → Listed id → true ≡ is_read id
read-yes id (inl e) = rw e
read-yes id (inr (inl e)) = rw e
read-yes id (inr (inr (inl e))) = rw e
read-yes id (inr (inr (inr (inl e)))) = rw e
read-yes id (inr (inr (inr (inr (inl e))))) = rw e
read-yes id (inr (inr (inr (inr (inr e))))) = rw e

pub read_no : (id : ℕ) → (Listed id → ⊥) → false ≡ is_read id
read_no id n =
    rw (
      ne_eqb id init_request (λ e. n (inl e)),
      ne_eqb id alive_request (λ e. n (inr (inr (inl e)))),
      ne_eqb id splice_request (λ e. n (inr (inr (inr (inl e))))),
      ne_eqb id abort_request (λ e. n (inr (inr (inr (inr (inr e)))))),
      ne_eqb id extended_request (λ e. n (inr (inl e))),
      ne_eqb id config_request (λ e. n (inr (inr (inr (inr (inl e)))))),
    )

-- ## What callers go on with

-- a framed message's data is there, and its size is not over 4,088
abbrev Frames : List ℕ → Result Header Refusal → Type 0
Frames l (Err n) = Unit {0}
Frames l (Ok h) = (8 + h.size ≤ length l) × (h.size ≤ 4088)

frames : (l : List ℕ) → Frames l (framing l)
unfolding framing
frames l =
    by (Frames l) (ltb (length l) 8) _ _ (λ e. tt)
    (λ e. by (Frames l) (oversize l) _ _ (λ f. tt)
    (λ f. by (Frames l) (ltb (length l) (8 + message_size l)) _ _ (λ g. tt)
    (λ g. (ltb-false (length l) (8 + message_size l) g, ltb-false 4088 (message_size l) f))))

pub framed : (l : List ℕ) (h : Header) → framing l ≡ Ok h → (8 + h.size ≤ length l) × (h.size ≤ 4088)
framed l h e = subst (Frames l) e (frames l)

-- an Init_Request that was read has its names and its Hardware_Config
abbrev Holds : List ℕ → Option Message → Type 0
Holds d (Some (Init revision)) = bad_init d ≡ false
Holds d (Some Alive) = Unit {0}
Holds d (Some (Splice r)) = Unit {0}
Holds d (Some (Abort x)) = Unit {0}
Holds d (Some (Extended x)) = Unit {0}
Holds d (Some Config) = Unit {0}
Holds d None = Unit {0}

holds : (id : ℕ) (d : List ℕ) → Holds d (read id d)
unfolding read read_init read_alive read_whole read_splice read_abort read_config read_extended
holds id d =
    by (Holds d) (eqb id init_request) _ _
    (λ e. by (Holds d) (bad_init d) _ _ (λ f. tt) (λ f. f))
    (λ e. by (Holds d) (eqb id alive_request) _ _ (λ f. by (Holds d) (eqb (length d) 8) _ _ (λ g. tt) (λ g. tt))
    (λ f. by (Holds d) (eqb id splice_request) _ _
    (λ g. by (Holds d) (ltb (length d) 18) _ _ (λ h. tt)
    (λ h. by (Holds d) (bad_splice d (tail_of d)) _ _ (λ i. tt) (λ i. tt)))
    (λ g. by (Holds d) (eqb id abort_request) _ _ (λ h. by (Holds d) (eqb (length d) 4) _ _ (λ i. tt) (λ i. tt))
    (λ h. by (Holds d) (eqb id extended_request) _ _ (λ i. by (Holds d) (bad_extended d) _ _ (λ j. tt) (λ j. tt))
    (λ i. by (Holds d) (eqb id config_request) _ _ (λ j. by (Holds d) (eqb (length d) 0) _ _ (λ k. tt) (λ k. tt)) (λ j. tt))))))

pub init-good : (id : ℕ) (d : List ℕ) (revision : ℕ) → read id d ≡ Some (Init revision) → bad_init d ≡ false
init-good id d revision e = subst (Holds d) e (holds id d)

-- which therefore ends within the data, and is not over 256 bytes
pub hardware-fits : (d : List ℕ) → bad_init d ≡ false → (2 + hardware_length d ≤ longest_hardware) × (68 + hardware_length d ≤ length d)
hardware-fits d e =
    let n = hardware_length d in
    let o = (or-none (ltb (length d) (hardware_place + 2)) _ (or-none (bad_hardware d) _ e).0).1 in
    let p = or-none (ltb longest_hardware (2 + n)) _ o in
    (ltb-false longest_hardware (2 + n) p.0, ltb-false (length d) (hardware_place + 2 + n) p.1)

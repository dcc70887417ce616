-- What is found is what the definition finds in the whole input.
-- Rests on recording's law of a longer recording.
use mathlib.Core.Path.{◌≡◌, refl, sym, subst, ap, ◌∙◌}
use mathlib.Core.Bool.{Bool, true, false}
use mathlib.Core.List.{List, [], ◌∷◌, ◌++◌, append-nil}
use Prim.Native.Nat.{ℕ, ◌≤◌, ◌<◌}
use native.Mathlib.Omega.{arith}
use lib.Dec.{ltb}
use lib.ListN.{length, length-append}
use borrow.Author.Tests.{ltb-true, ltb-false}
use Rattle.std.specs.Prelude.{Option, Some, None}
use Rattle.recording.specs.Recording.{longest, checked}
use Rattle.recording.proofs.Refusing.{long-is}
use Rattle.checker.specs.declared.Judged.{Judged}
use Rattle.checker.specs.declared.stdio.Came.{Came}
use Rattle.checker.specs.Input.{found_in, is_longer, Asks, Judges}

-- l: the bytes read, m: those behind them; only behind a full read is one more tried
pub found-whole : (l m : List ℕ) → (m ≡ [] → ⊥) → length l ≡ longest → found_in true l ≡ checked (l ++ m)
found-whole l [] f h = absurd (f refl)
found-whole l (x ∷ m) f h = sym (long-is (l ++ (x ∷ m)) (omega (arith, length-append l (x ∷ m))))

pub found_all : (l : List ℕ) → found_in false l ≡ checked (l ++ [])
found_all l = ap checked (sym (append-nil l))

-- ## The whole program

-- what is trusted of the reads, with m the input behind the bytes that came first: a short read is the whole input, and the byte that is
-- tried comes if there is one
abbrev Tries : Option Came → List ℕ → Type 0
Tries None m = Unit {0}
Tries (Some c) m = (0 < c.count → m ≡ [] → ⊥) × (c.count ≡ 0 → m ≡ [])

pub record Unread (r : Judged) (m : List ℕ) : Type 0 where
  pub short : r.read.count < longest → m ≡ []
  pub tries : Tries r.behind m

-- it can be so: at the end of the input behind a short read, and behind a full one with as much behind it as one likes
pub unread-met : (r : Judged) → r.behind ≡ None → Unread r []
unread-met r e = record { short = λ _. refl; tries = subst (λ (b : Option Came). Tries b []) (sym e) tt }

pub unread-behind : (r : Judged) (c : Came) (x : ℕ) (m : List ℕ) → r.behind ≡ Some c → 0 < c.count → longest ≤ r.read.count
    → Unread r (x ∷ m)
unread-behind r c x m e h full =
    record {
      short = λ s. absurd (omega (arith, s, full));
      tries = subst (λ (b : Option Came). Tries b (x ∷ m)) (sym e) (
        (λ _ n. absurd (omega (arith, ap length n))),
        λ z. absurd (omega (arith, h, z)),
      );
    }

-- what is found is what the definition finds in the whole input
pub program-finds : (r : Judged) (j : Judges r) (m : List ℕ) → Unread r m → r.finding ≡ checked (j.bytes ++ m)
program-finds r j m u = j.finding ∙ go r.behind j.asks u.tries
  where
    whole : m ≡ [] → found_in false j.bytes ≡ checked (j.bytes ++ m)
    whole e = found_all j.bytes ∙ ap (λ x. checked (j.bytes ++ x)) (sym e)

    -- behind a short read there is nothing
    full : (m ≡ [] → ⊥) → (v : Bool) → ltb r.read.count longest ≡ v → length j.bytes ≡ longest
    full some true e = absurd (some (u.short (ltb-true r.read.count longest e)))
    full some false e = omega (arith, ltb-false r.read.count longest e, j.count, j.within)

    tried : (c : Came) → Tries (Some c) m → (v : Bool) → ltb 0 c.count ≡ v → found_in v j.bytes ≡ checked (j.bytes ++ m)
    tried c t false e = let none = ltb-false 0 c.count e in whole (t.1 (omega arith))
    tried c t true e =
        let some = t.0 (ltb-true 0 c.count e) in found-whole j.bytes m some (full some (ltb r.read.count longest) refl)

    go : (b : Option Came) → Asks r.read.count b → Tries b m → found_in (is_longer b) j.bytes ≡ checked (j.bytes ++ m)
    go None a t = whole (u.short a)
    go (Some c) a t = tried c t (ltb 0 c.count) refl

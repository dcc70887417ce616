-- The words of the two reads for drivers, from what their code finds. Assumes nothing.
use mathlib.Core.Path.{◌≡◌, refl, sym, ap, ◌∙◌}
use mathlib.Core.List.{List, [], ◌∷◌}
use Prim.Native.Nat.{ℕ, ◌*◌, ◌/◌, ◌%◌, ◌≤◌, ◌<◌}
use native.Mathlib.Omega.{arith}
use lib.ListN.{length, get_or}
use borrow.Author.Tests.{le-leb, lt-leb}
use Rattle.rules.specs.declared.Ninths.{Ninths}
use Rattle.std.specs.Prelude.{Option, Some, None}
use Rattle.rules.specs.declared.Session.{Session}
use Rattle.rules.specs.Units.{up_micros}
use Rattle.rules.specs.State.{empty}
use Rattle.rules.specs.Answers.{air_feed, air_row}
use Rattle.rules.specs.Calls.{due_row}
use Rattle.rules.specs.Units.{horizon}

pub air-none : (l : List Session) → length l ≡ 0 → 0 ∷ 0 ∷ 0 ∷ 0 ∷ 0 ∷ 0 ∷ 0 ∷ 0 ∷ 0 ∷ [] ≡ air_row l
unfolding air_row
air-none [] h = refl
air-none (x ∷ l) h = absurd (omega arith)

-- the same of the feed that is on air
pub air-silent : (l : List Session) → air_feed l ≡ 0 → 0 ∷ 0 ∷ 0 ∷ 0 ∷ 0 ∷ 0 ∷ 0 ∷ 0 ∷ 0 ∷ [] ≡ air_row l
unfolding air_row air_feed
air-silent [] h = refl
air-silent (x ∷ l) h = absurd (omega (arith, h))

abbrev row_of : Session → List ℕ
row_of s = 1 ∷ s.conn ∷ s.id ∷ s.start.0 ∷ s.end.0 ∷ s.played.0 ∷ s.event ∷ s.access ∷ s.mux ∷ []

pub air-first : (l : List Session) (s : Session) → s ≡ get_or l 0 empty → 0 < length l
    → row_of s ≡ air_row l
unfolding air_row
air-first [] s e h = absurd (omega arith)
air-first (x ∷ l) s e h = ap row_of e

pub due-never : (w : Option Ninths) → w ≡ None → 0 ∷ 0 ∷ 0 ∷ 0 ∷ [] ≡ due_row w
unfolding due_row
due-never w e = sym (ap due_row e)

-- the instant, and its microsecond rounded up
module _ (w : Option Ninths) (t : Ninths) (e : w ≡ Some t) (up : ℕ) (u : up ≡ up_micros t.0) where
  pub due-beyond : 4294967296000000 ≤ up → 1 ∷ t.0 ∷ 0 ∷ 0 ∷ [] ≡ due_row w
  unfolding due_row
  due-beyond h = sym (ap due_row e ∙ rw (le-leb horizon (up_micros t.0 * 9) (omega arith)))

  pub due-reached : up < 4294967296000000 → 2 ∷ t.0 ∷ up / 1000000 ∷ up % 1000000 ∷ [] ≡ due_row w
  unfolding due_row
  due-reached h =
      ap (λ (n : ℕ). 2 ∷ t.0 ∷ n / 1000000 ∷ n % 1000000 ∷ []) u
      ∙ sym (ap due_row e ∙ rw (lt-leb horizon (up_micros t.0 * 9) (omega arith)))

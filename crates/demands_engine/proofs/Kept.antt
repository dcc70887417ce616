-- 02, CR 6: the bytes of a connection that keeps nothing. Rests on memory's kept_at.
use mathlib.Core.Path.{◌≡◌, refl, ap, sym, ◌∙◌}
use mathlib.Core.Bool.{Bool, true, false, cond}
use mathlib.Core.List.{List}
use Prim.Native.Nat.{ℕ, ◌≤◌}
use native.Mathlib.Omega.{arith}
use lib.ListN.{get_or, replicate}
use borrow.Author.Tests.{ltb-false}
use Rattle.rules.specs.Hardware.{longest_hardware}
use Rattle.rules.specs.State.{Splicer, no_hardware}
use Rattle.rules.specs.HouseNumbers.{no_connection, no_room, not_open}
use Rattle.rules.specs.Calls.{closes}
use Rattle.memory.specs.Memory.{kept_bytes, kept_of, spread, Stored}
use Rattle.memory.proofs.Laws.{kept_at}
use Rattle.demands.specs.Told.{first_number, checks}

-- a good close is of one of the four
pub close-low : (c room : ℕ) (s : Splicer) → first_number (checks (closes c room) s) ≡ 0 → c ≤ 3
unfolding first_number checks
close-low c room s = go (no_connection c) refl
  where
    go : (b : Bool) → no_connection c ≡ b → ◌≡◌ {A = ℕ} (cond b 1 (cond (no_room room) 2 (cond (not_open c s) 7 0))) 0 → c ≤ 3
    go true e z = absurd (omega arith)
    go false e z = ltb-false 3 c e

pub forgotten : (c : ℕ) (b : List ℕ) → c ≤ 3 → Stored b → get_or (kept_of b) c no_hardware ≡ no_hardware
    → kept_bytes c b ≡ replicate longest_hardware 0
forgotten c b low s e = (s.kept c low).zeros ∙ ap spread (sym (kept_at b c low) ∙ e)

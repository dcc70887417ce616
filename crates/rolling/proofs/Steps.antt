-- After how many ticks of the counter a reading would do anything, from the words of the engine's read. Rests on demands' proofs/Due.
use Rattle.std.proofs.Common.{◌≡◌, ℕ, ◌+◌, ◌-◌, ◌*◌, ◌<◌, ◌≤◌, cond, eqb, List, [], ◌∷◌, get_or, sym, refl, ap, ◌∙◌}
use Rattle.std.proofs.Common.{subst, arith, le-ltb, lt-ltb, ne_eqb, le-leb}
use borrow.Author.Tests.{lt-leb}
use Rattle.std.specs.Prelude.{Option, Some, None}
use Rattle.rules.specs.declared.Ninths.{Ninths}
use Rattle.rules.specs.Units.{up_ticks}
use Rattle.rules.specs.State.{due}
use Rattle.rules.specs.Calls.{beyond, due_row}
use Rattle.rules.specs.Units.{horizon}
use Rattle.rules.specs.Rolling.{Last, none, at, within, step_row}
use Rattle.rules.proofs.Tests.{by}
use Rattle.rules.proofs.Sound.{reached-sound}
use Rattle.demands.specs.Due.{NotBefore}
use Rattle.demands.proofs.Due.{due-after}
use Rattle.memory.specs.Memory.{see, shown}
use Rattle.engine.specs.Lent.{Lent, ReadsDue}
use Rattle.rolling.specs.LentRolling.{last_of, ReadsStep}

step-ungiven : (clock : ℕ) (w : Option Ninths) → 0 ∷ 8100000 ∷ [] ≡ step_row none clock w
unfolding step_row
step-ungiven clock w = refl

step-none : (k : Last) (clock : ℕ) (w : Option Ninths) → get_or (due_row w) 0 0 ≡ 0 → 0 ∷ 8100000 ∷ [] ≡ step_row k clock w
unfolding due_row step_row
step-none none clock w e = refl
step-none (at x) clock None e = refl
step-none (at x) clock (Some t) e =
    absurd (by (λ (r : List ℕ). get_or r 0 0 ≡ 0 → ⊥) (beyond t.0) _ _ (λ f i. omega (arith, i)) (λ f i. omega (arith, i)) e)

step-some : (x clock : ℕ) (w : Option Ninths) → (get_or (due_row w) 0 0 ≡ 0 → ⊥)
    → step_row (at x) clock w ≡ within clock (up_ticks (get_or (due_row w) 1 0 - clock))
unfolding due_row step_row
step-some x clock None e = absurd (e refl)
step-some x clock (Some t) e =
    by (λ (r : List ℕ). within clock (up_ticks (t.0 - clock)) ≡ within clock (up_ticks (get_or r 1 0 - clock))) (beyond t.0) _ _
    (λ f. refl) (λ f. refl)

pub lent_below : {m b : List ℕ} → Lent m b → (see m).clock < horizon
lent_below {m} {b} l = (reached-sound (shown m b) l.reached).clock

-- the instant is not given
pub reads-ungiven : (m b k : List ℕ) → get_or k 0 0 ≡ 0 → ReadsStep m b k (0 ∷ 8100000 ∷ [])
unfolding last_of
reads-ungiven m b k e =
    step-ungiven (see m).clock (due (shown m b).queue)
    ∙ sym (ap (λ (n : ℕ). step_row (cond (eqb n 0) none (at (get_or k 1 0))) (see m).clock (due (shown m b).queue)) e)

given : (k : List ℕ) → (get_or k 0 0 ≡ 0 → ⊥) → last_of k ≡ at (get_or k 1 0)
unfolding last_of
given k e = rw (ne_eqb (get_or k 0 0) 0 e)

-- the words r are what the engine's read gives
module _ {m b : List ℕ} (l : Lent m b) (k r : List ℕ) (reads : ReadsDue m b r) where
  pub reads_none : get_or r 0 0 ≡ 0 → ReadsStep m b k (0 ∷ 8100000 ∷ [])
  reads_none e = step-none (last_of k) (see m).clock (due (shown m b).queue) (ap (λ (v : List ℕ). get_or v 0 0) (sym reads) ∙ e)

  module _ (some : get_or r 0 0 ≡ 0 → ⊥) where
    -- what is due is after the clock
    pub reads-later : (see m).clock < get_or r 1 0
    reads-later =
        due-after (shown m b) (reached-sound (shown m b) l.reached).holding.timed (get_or r 1 0)
        (subst (λ (v : List ℕ). NotBefore v (get_or r 1 0)) reads (omega (arith, some), omega arith))

    module _ (is-given : get_or k 0 0 ≡ 0 → ⊥) (n : ℕ) (up : n ≡ up_ticks (get_or r 1 0 - (see m).clock)) where
      is : step_row (last_of k) (see m).clock (due (shown m b).queue) ≡ within (see m).clock n
      is =
          ap (λ (x : Last). step_row x (see m).clock (due (shown m b).queue)) (given k is-given)
          ∙ step-some (get_or k 1 0) (see m).clock (due (shown m b).queue) (λ e. some (ap (λ (v : List ℕ). get_or v 0 0) reads ∙ e))
          ∙ ap (λ (v : List ℕ). within (see m).clock (up_ticks (get_or v 1 0 - (see m).clock))) (sym reads)
          ∙ ap (within (see m).clock) (sym up)

      pub reads_over : 8100000 < n → ReadsStep m b k (0 ∷ 8100000 ∷ [])
      reads_over h = sym (is ∙ rw (lt-ltb 8100000 n h))

      pub reads-past : n ≤ 8100000 → horizon ≤ (see m).clock + n * 100 → ReadsStep m b k (0 ∷ 8100000 ∷ [])
      reads-past h p = sym (is ∙ rw (le-ltb 8100000 n h, le-leb horizon ((see m).clock + n * 100) p))

      pub reads-step : n ≤ 8100000 → (see m).clock + n * 100 < horizon → ReadsStep m b k (1 ∷ n ∷ [])
      reads-step h p = sym (is ∙ rw (le-ltb 8100000 n h, lt-leb horizon ((see m).clock + n * 100) p))

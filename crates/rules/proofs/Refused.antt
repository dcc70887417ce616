-- A refused call leaves the splicer as it was. Assumes nothing.
use mathlib.Core.Path.{◌≡◌, refl}
use mathlib.Core.List.{List}
use Prim.Native.Nat.{ℕ}
use native.Mathlib.Omega.{arith}
use Rattle.rules.specs.declared.Refusal.{Refusal}
use Rattle.rules.specs.State.{Splicer}
use Rattle.rules.specs.Records.{Record}
use Rattle.rules.specs.HouseNumbers.{refused, good, Called}
use Rattle.rules.specs.Calls.{ticked, Call, call}
use Rattle.rules.proofs.Cases.{cases}

module _ (s : Splicer) where
  -- r: what came of a call to s
  abbrev Same : Call → Called → Type 0
  Same k r = (n : Refusal) → r.answer ≡ refused n → r.splicer ≡ s

  good-other : {n : Refusal} {consumed : ℕ} {rs : List Record} {A : Type 0} → good consumed rs ≡ refused n → A
  good-other e = let z : ◌≡◌ {A = ℕ} 0 1 = cc in absurd (omega arith)

  pub unchanged : (k : Call) (n : Refusal) → (call k s).answer ≡ refused n → (call k s).splicer ≡ s
  unfolding ticked
  unchanged =
      cases s Same (record {
        refusing = λ k n m e. refl;
        opening = λ c low i n e. good-other e;
        closing = λ c room low i n e. good-other e;
        answering = λ c l loans low i short. record {
          silent = λ f n e. good-other e;
          general = λ r g n e. good-other e;
          naming = λ r g f h n e. good-other e;
          alive = λ f n e. good-other e;
          telling = λ f n e. good-other e;
          unknown = λ x f g n e. good-other e;
          aborting = λ x f g h n e. good-other e;
          recalling = λ x f g n e. good-other e;
          declining = λ r v f g h i n e. good-other e;
          accepting = λ r f g h n e. good-other e;
        };
        bringing = λ k until b le n e. good-other e;
        cueing = λ l pts seconds micros room i n e. good-other e;
      })

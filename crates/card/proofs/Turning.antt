-- The program's turns, one behind the other: whatever the turns from here on give, it is what they give from the beginning.
-- Rests on `Turned`, what one turn promises.
use mathlib.Core.Path.{◌≡◌, sym, subst, ◌∙◌}
use mathlib.Core.Bool.{true, false}
use mathlib.Core.List.{List, [], ◌∷◌, ◌++◌}
use Prim.Native.Nat.{ℕ, suc, ◌≤◌}
use native.Mathlib.Omega.{arith}
use lib.ListN.{length, take}
use Rattle.rules.specs.State.{Splicer}
use Rattle.memory.specs.Memory.{shown}
use Rattle.engine.specs.Lent.{Lent}
use Rattle.card.specs.declared.Left.{Left}
use Rattle.card.specs.declared.Stop.{Stop}
use Rattle.card.specs.declared.Stop.TheVariants.{Over, Unwritten, Counted}
use Rattle.card.specs.Ran.{Turned, Fed, over, failed, counted, goes, Turns, most, Stopped}

-- from the splicer s on, with `left` turns to come
pub record Turning (s : Splicer) (left : ℕ) (m b input : List ℕ) (have : ℕ) : Type 0 where
  pub lent : Lent m b
  pub within : have ≤ length input
  pub on : (h : Stop) → Turns left h (shown m b) (take have input) → Stopped s h

pub turning-none : (m b input : List ℕ) → Lent m b → Turning (shown m b) most m b input 0
turning-none m b input l = record { lent = l; within = omega arith; on = λ h t. t }

pub turning-counted : {s : Splicer} {left : ℕ} {m b input : List ℕ} {have : ℕ} → Turning s left m b input have → left ≡ 0
    → Stopped s Counted
turning-counted {s} {left} {m} {b} {input} {have} g e =
    g.on Counted
    (subst (λ n. Turns n Counted (shown m b) (take have input)) (sym e) (record { reads = []; output = []; fed = λ unread. counted }))

-- one turn, and those behind it
module _ {s : Splicer} {left : ℕ} {m b input : List ℕ} {have : ℕ} (g : Turning s left m b input have) (others : ℕ) (one : suc others ≡ left)
    {r : Left} {n c i o : List ℕ} (t : Turned (shown m b) (take have input) r n c i o) where
  last : (h : Stop) → Turns (suc others) h (shown m b) (take have input) → Stopped s h
  last h x =
      g.on h (subst (λ k. Turns k h (shown m b) (take have input)) one x)

  pub turning-over : r.more ≡ false → Stopped s Over
  turning-over e = last Over (record { reads = t.piece ∷ []; output = _; fed = λ unread. over t.ran (sym t.more ∙ e) })

  pub turning-failed : r.written.whole ≡ false → Stopped s (Unwritten r.written)
  turning-failed e =
      last (Unwritten r.written) (record { reads = t.piece ∷ []; output = _; fed = λ unread. failed t.ran e })

  pub turning-more : r.more ≡ true → Turning s others n c i r.have
  turning-more e =
      record {
        lent = t.ran.runs.lent;
        within = t.within;
        on = λ h x. last h
            (record {
              reads = t.piece ∷ x.reads;
              output = _;
              fed = λ unread. goes t.ran (sym t.more ∙ e)
                  (subst (λ k. Fed others h (shown n c) k (x.reads ++ unread) x.output) t.left (x.fed unread));
            });
      }

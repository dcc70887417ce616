-- Work that goes on, a piece at a time: what is done so far, and what is left. Rests on `turns_then`.
use mathlib.Core.Path.{◌≡◌, refl, sym, ap, subst, ◌∙◌}
use mathlib.Core.List.{List, ◌++◌}
use Prim.Native.Nat.{ℕ, ◌+◌, ◌≤◌}
use native.Mathlib.Omega.{arith}
use lib.ListN.{length}
use Rattle.rules.specs.Records.{output}
use Rattle.recall_rules.specs.declared.Verdict.{Verdict}
use Rattle.recall_rules.specs.Work.{Turn, quiet, and_then}
use Rattle.recall_ends.specs.Does.{all, Turns, Does, Room}
use Rattle.recall_ends.proofs.Laws.{tells_none, turns_then, length-then}
use Rattle.recall_ends.proofs.Stages.{then-then}

module _ (work : List Verdict → Turn) (m e : List ℕ) (len : ℕ) where
  -- the words are k by now, and the buffer o is written up to `to`
  pub record Going (k o : List ℕ) (to : ℕ) : Type 0 where
    pub done : Turn
    pub so : Turns e len done k to o
    pub rest : work (all m) ≡ and_then done work
    pub rows : length k ≡ length m
    pub long : length o ≡ length e

  pub going-none : Going m e len
  unfolding and_then
  going-none = record { done = quiet (all m); so = record { holds = refl; tells = tells_none }; rest = refl; rows = refl; long = refl }

  -- all that is written fits
  fits : {k o : List ℕ} {to : ℕ} → Room work len m e → (g : Going k o to)
      → len + (length (output g.done.written) + length (output (work g.done.verdicts).written)) ≤ length e
  fits room g = omega (arith, room, ap (λ (t : Turn). length (output t.written)) g.rest, length-then g.done work)

  pub going-room : {k o : List ℕ} {to : ℕ} → Room work len m e → Going k o to → Room work to k o
  going-room {k} {o} {to} room g =
      subst (λ (v : List Verdict). to + length (output (work v).written) ≤ length o) (sym g.so.holds)
      (omega (arith, fits room g, g.long, g.so.tells.count))

  module _ {k o : List ℕ} {to : ℕ} (room : Room work len m e) (g : Going k o to) (one : List Verdict → Turn)
      (more : work (all k) ≡ and_then (one (all k)) work) where
    pub going-one : Room one to k o
    going-one = omega (arith, going-room room g, ap (λ (t : Turn). length (output t.written)) more, length-then (one (all k)) work)

    at : (t : Turn) → t.verdicts ≡ all k → and_then t work ≡ and_then t (λ l. and_then (one l) work)
    unfolding and_then
    at t f =
        let q = subst (λ (v : List Verdict). work v ≡ and_then (one v) work) (sym f) more in
        ap (λ (z : Turn). record { verdicts = z.verdicts; written = t.written ++ z.written }) q

    pub going_on : {k' o' : List ℕ} {to' : ℕ} → Does one to k o to' k' o' → length k' ≡ length k → length o' ≡ length o → Going k' o' to'
    going_on d a b =
        record {
          done = and_then g.done one;
          so = turns_then g.done one (omega (arith, fits room g)) g.so d;
          rest = g.rest ∙ at g.done (sym g.so.holds) ∙ sym (then-then g.done one work);
          rows = a ∙ g.rows;
          long = b ∙ g.long;
        }

  pub going_end : {k o : List ℕ} {to : ℕ} → Going k o to → work (all k) ≡ quiet (all k) → Room work len m e → Does work len m e to k o
  going_end {k} {o} {to} g q room =
      subst (λ (t : Turn). Turns e len t k to o) (sym g.rest)
      (turns_then g.done work (omega (arith, fits room g)) g.so
      (subst (λ (t : Turn). Turns o to t k to o) (sym q) (record { holds = refl; tells = tells_none })))

use mathlib.Core.Path.{sym, subst, ◌∙◌}
use mathlib.Core.Bool.{true, false}
use Prim.Native.Nat.{ℕ, ◌+◌, ◌≤◌, ◌<◌}
use native.Mathlib.Omega.{arith}
use lib.ListN.{length}
use Rattle.recall_rules.specs.Verdicts.{none}
use Rattle.recall_rows.specs.Rows.{all}
use Rattle.recall_rows.specs.Scans.{stand_test, session_test}
use Rattle.recall_rows.proofs.Rows.{length-all}
use Rattle.recall_rows.proofs.Scans.{Counted, counted_none, counted-more, counted-out}
use Rattle.recall_rows.proofs.count.Goals as goal
use Rattle.recall_rows.proofs.count.Goals.{then-is_one, else-is_one}

pub loop-i-init : goal.loop-i-init
loop-i-init c = counted_none _ _ _

pub loop-i-preserved : goal.loop-i-preserved
loop-i-preserved c =
    let l = c.loop-i in
    let h = stand_test c.args.stand in
    let p = session_test c.args.test in
    let list = all c.args.m.now in
    let k : l.i < length list = omega (arith, length-all c.args.m.now, c.rows_in-i-end.ensures, c.loop-i-test.true) in
    let e = sym c.is_one.ensures in
    elim c.if-is_one.branch [
      | then-is_one w ↦ subst (λ (f : ℕ). Counted h p list (l.i + 1) f) (omega (arith, w.found-is))
          (counted-more h p list l.i l.found none true k (e ∙ w.if-is_one.true) l.invariant)
      | else-is_one w ↦ subst (λ (f : ℕ). Counted h p list (l.i + 1) f) (omega (arith, w.found-is))
          (counted-more h p list l.i l.found none false k (e ∙ w.if-is_one.false) l.invariant)
    ]

pub returns : goal.returns
returns c =
    let k : length (all c.args.m.now) ≤ c.loop-i.i = omega (arith, length-all c.args.m.now, c.rows_in-i-end.ensures, c.loop-i-test.false) in
    counted-out _ _ _ c.loop-i.i c.loop-i.found k c.loop-i.invariant

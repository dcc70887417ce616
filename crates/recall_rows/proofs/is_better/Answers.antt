-- One that is such is better if the order says so (`better-is`).
use mathlib.Core.Path.{ap₂, ◌∙◌}
use native.Mathlib.Omega.{arith}
use Rattle.recall_rules.specs.declared.Verdict.{Verdict}
use Rattle.recall_rows.specs.Rows.{all}
use Rattle.recall_rows.specs.Scans.{order_test}
use Rattle.recall_rows.proofs.Rows.{length-all}
use Rattle.recall_rows.proofs.Best.{better-is}
use Rattle.recall_rows.proofs.is_better.Goals as goal

pub returns-in-Some : goal.returns-in-Some
returns-in-Some c =
    let a = c.args in
    let k = rw c.in-Some.is at c.requires.best_in_bounds in
    rw c.in-Some.is
    (better-is a.order a.test (all a.m.now) a.i c.in-Some.b _ c.stand_of.ensures c.is_one.result c.comes_before.result c.is_one.ensures
    c.if-is_one.true (omega (arith, k, length-all a.m.now))
    (c.comes_before.ensures ∙ ap₂ (λ (v w : Verdict). order_test a.order v.session w.session) c.load.ensures c.load-in-Some.ensures))

use mathlib.Core.Path.{◌≡◌, sym, subst, ◌∙◌}
use Prim.Native.Nat.{ℕ, ◌<◌}
use native.Mathlib.Omega.{arith}
use lib.ListN.{length}
use Rattle.std.specs.Option.{IfSome}
use Rattle.recall_rows.specs.Rows.{all}
use Rattle.recall_rows.specs.Scans.{session_test, order_stand, order_test, or_length, first_in}
use Rattle.recall_rows.proofs.Rows.{length-all}
use Rattle.recall_rows.proofs.Scans.{best-place}
use Rattle.recall_rows.proofs.Best.{strict, Leading, leading-none, leading-next, leading-stays, leading-out, better-true}
use Rattle.recall_rows.proofs.Best.{better-false}
use Rattle.recall_rows.proofs.first_of.Goals as goal
use Rattle.recall_rows.proofs.first_of.Goals.{then-is_better, else-is_better}

pub loop-i-init : goal.loop-i-init
loop-i-init c =
    let o = c.args.order in
    (tt, leading-none (order_stand o) (order_test o) (strict o) (session_test c.args.test) (all c.args.m.now))

pub loop-i-preserved : goal.loop-i-preserved
loop-i-preserved c =
    let a = c.args in
    let o = c.args.order in
    let l = all a.m.now in
    let y = c.loop-i in
    let k : y.i < length l = omega (arith, length-all a.m.now, c.rows_in-i-end.ensures, c.loop-i-test.true) in
    let e = sym c.is_better.ensures in
    elim c.if-is_better.branch [
      | then-is_better w ↦ let t = better-true o a.test l y.i (or_length l y.best) (e ∙ w.if-is_better.true) in
          rw w.best-is (
            k,
            leading-next (order_stand o) (order_test o) (strict o) (session_test a.test) l y.i (or_length l y.best) k t.0 t.1
                y.invariant.1,
          )
      | else-is_better w ↦ rw w.best-is (
        y.invariant.0,
        leading-stays (order_stand o) (order_test o) (strict o) (session_test a.test) l y.i (or_length l y.best) k
            (better-false o a.test l y.i (or_length l y.best) (e ∙ w.if-is_better.false)) y.invariant.1,
      )
    ]

pub returns-clause-first : goal.returns-clause-first
returns-clause-first c =
    let a = c.args in
    let o = c.args.order in
    let l = all a.m.now in
    let y = c.loop-i in
    let end : y.i ≡ length l = omega (arith, length-all a.m.now, c.rows_in-i-end.ensures, c.loop-i-test.false, y.auto.i-end) in
    best-place l y.best (first_in o a.test l) y.invariant.0
    (leading-out (order_stand o) (order_test o) (strict o) (session_test a.test) l (or_length l y.best)
    (subst (λ (j : ℕ). Leading (order_stand o) (order_test o) (strict o) (session_test a.test) l j (or_length l y.best)) end y.invariant.1))

pub returns-clause-in_bounds : goal.returns-clause-in_bounds
returns-clause-in_bounds c =
    subst (λ (n : ℕ). IfSome c.loop-i.best (λ i. i < n)) (length-all c.args.m.now) c.loop-i.invariant.0

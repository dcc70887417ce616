use mathlib.Core.Path.{◌≡◌, sym, ap, subst, ◌∙◌}
use Prim.Native.Nat.{ℕ, suc, ◌+◌, ◌-◌, ◌*◌}
use native.Mathlib.Omega.{arith}
use Rattle.recall_rules.specs.Work.{run, run_all}
use Rattle.recall_ends.specs.Does.{all}
use Rattle.recall_instants.proofs.Running.{Running, running-first, running-last, running-next, instant-room, run_none, run-stop}
use Rattle.recall_instants.proofs.Running.{lasting, next-time, next-later, rests}
use Rattle.recall_instants.proofs.run.Goals as goal
use Rattle.recall_instants.proofs.run.Goals.{else-loop-test, then-loop-test+in_default}

pub loop-init : goal.loop-init
loop-init c =
    let a = c.args in
    let e : 2 * c.rows_in-end.result ≡ 2 * c.rows_in-end.result - 0 = omega arith in
    subst (λ (j : ℕ). Running a.until.0 (run_all a.clock.0 a.until.0 (all a.m.now)) a.out.now a.m.now a.clock.0 0 a.out.now j) e
    (running-first c.requires.keeps c.requires.clock_le_until.0 c.requires.room c.rows_in-end.ensures)

pub overflow_sub-next : goal.overflow_sub-next
overflow_sub-next c =
    let v = c.loop.invariant in
    omega (arith, next-later v.keeps c.args.until.0 _ (sym c.next_due.ensures ∙ c.in-Some.is))

pub elapse-requires : goal.elapse-requires
elapse-requires c =
    let v = c.loop.invariant in
    let d = sym c.next_due.ensures ∙ c.in-Some.is in
    let u = c.args.until.0 in
    lasting v.keeps _ (omega (arith, next-later v.keeps u _ d)) (omega (arith, next-time v.keeps u _ d, c.requires.clock_le_until.1))

pub at_instant-len-requires : goal.at_instant-len-requires
at_instant-len-requires c =
    let n = 2 * c.rows_in-end.result in
    let w : n - c.loop.counter ≡ suc (n - (c.loop.counter + 1)) = omega (arith, c.loop-test.true) in
    instant-room c.loop.invariant (n - (c.loop.counter + 1)) w _ (sym c.next_due.ensures ∙ c.in-Some.is) c.elapse.new.m c.elapse.ensures

pub loop-preserved : goal.loop-preserved
loop-preserved c =
    let n = 2 * c.rows_in-end.result in
    let w : n - c.loop.counter ≡ suc (n - (c.loop.counter + 1)) = omega (arith, c.loop-test.true) in
    running-next c.loop.invariant (n - (c.loop.counter + 1)) w _ (sym c.next_due.ensures ∙ c.in-Some.is) c.elapse.new.m c.elapse.ensures
    c.at_instant-len.ensures (omega (arith, c.at_instant-len.auto.out))

pub overflow_sub-until : goal.overflow_sub-until
overflow_sub-until c = c.loop.invariant.time

pub elapse-requires-2 : goal.elapse-requires-2
elapse-requires-2 c = lasting c.loop.invariant.keeps c.args.until.0 c.loop.invariant.time c.requires.clock_le_until.1

pub returns : goal.returns
returns c =
    let y = c.loop in
    let u = c.args.until.0 in
    let n = 2 * c.rows_in-end.result in
    let over : run (n - y.counter) y.t.0 u (all y.m) ≡ rests y.t.0 u (all y.m) =
    elim c.loop-test.branch [
      | else-loop-test w ↦ let z : n - y.counter ≡ 0 = omega (arith, w.loop-test.false) in
          ap (λ (j : ℕ). run j y.t.0 u (all y.m)) z ∙ run_none y.t.0 u (all y.m)
      | then-loop-test+in_default w ↦ run-stop y.t.0 u (all y.m) (n - y.counter) (sym w.next_due.ensures ∙ w.in_default.is)
    ] in
    running-last y.invariant over c.elapse-2.ensures

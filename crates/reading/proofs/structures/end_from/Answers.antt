use mathlib.Core.Path.{◌≡◌, sym, ap, ap₂, ◌∙◌}
use Prim.Native.Nat.{suc, ◌+◌, ◌-◌}
use native.Mathlib.Omega.{arith}
use Rattle.rules.specs.Streams.{bad_stream}
use Rattle.reading.specs.Structures.{end_from}
use Rattle.reading.proofs.Laws.{behind}
use Rattle.reading.proofs.Steps.{on-good, end_step, end-bad}
use Rattle.reading.proofs.structures.end_from.Goals as goal

pub returns-then-is_bad : goal.returns-then-is_bad
returns-then-is_bad c =
    let p = c.args.p.now in
    let at = c.loop.at in
    let k = c.args.n - c.loop.counter - 1 in
    let n : c.args.n - c.loop.counter ≡ suc k = omega arith in
    let b = ap bad_stream (sym (behind at p)) ∙ sym c.is_bad.ensures ∙ c.if-is_bad.true in
    sym (c.loop.invariant.1 ∙ ap (λ i. end_from i at p) n ∙ end-bad k at p b)

pub bounds-p-at : goal.bounds-p-at
bounds-p-at c =
    let p = c.args.p.now in
    let at = c.loop.at in
    let g = on-good p at (ap bad_stream (sym (behind at p)) ∙ sym c.is_bad.ensures ∙ c.if-is_bad.false) in
    omega (arith, g.inside)

pub overflow_add-at : goal.overflow_add-at
overflow_add-at c =
    let p = c.args.p.now in
    let at = c.loop.at in
    let g = on-good p at (ap bad_stream (sym (behind at p)) ∙ sym c.is_bad.ensures ∙ c.if-is_bad.false) in
    omega (arith, g.within)

pub loop-preserved : goal.loop-preserved
loop-preserved c =
    let p = c.args.p.now in
    let at = c.loop.at in
    let k = c.args.n - c.loop.counter - 1 in
    let n : c.args.n - c.loop.counter ≡ suc k = omega arith in
    let b = ap bad_stream (sym (behind at p)) ∙ sym c.is_bad.ensures ∙ c.if-is_bad.false in
    let g = on-good p at b in (
      omega (arith, g.within),
      c.loop.invariant.1 ∙ ap (λ i. end_from i at p) n
          ∙ end_step k at p b
          ∙ ap₂ (λ i k. end_from i (at + k) p) (omega arith) (sym c.from-at.ensures),
    )

pub returns : goal.returns
unfolding end_from
returns c =
    let p = c.args.p.now in
    let z : c.args.n - c.loop.counter ≡ 0 = omega arith in
    sym (c.loop.invariant.1 ∙ ap (λ i. end_from i c.loop.at p) z)

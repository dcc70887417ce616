use mathlib.Core.Path.{sym, ap, ◌∙◌}
use Prim.Native.Nat.{◌≤◌, ◌<◌}
use native.Mathlib.Omega.{arith}
use lib.ListN.{length}
use Rattle.recall_rules.specs.Verdicts.{none, ended_as}
use Rattle.recall_rows.specs.Rows.{all}
use Rattle.recall_rows.proofs.Rows.{length-all}
use Rattle.recall_rows.proofs.Scans.{place-some, place-none, sought-none, sought-more, sought-hit, sought-out}
use Rattle.recall_answers.proofs.find_end.Goals as goal

pub loop-i-init : goal.loop-i-init
loop-i-init c = sought-none _ _

pub returns-then-is_end-clause-first : goal.returns-then-is_end-clause-first
returns-then-is_end-clause-first c =
    let l = all c.args.m.now in
    let k : c.loop-i.i < length l = omega (arith, length-all c.args.m.now, c.rows_in-i-end.ensures, c.loop-i-test.true) in
    let at = ap (ended_as c.args.number) (sym c.load-v.ensures) ∙ sym c.is_end.ensures in
    place-some l c.loop-i.i _ (sought-hit _ l c.loop-i.i none k (at ∙ c.if-is_end.true) c.loop-i.invariant) k

pub loop-i-preserved : goal.loop-i-preserved
loop-i-preserved c =
    let l = all c.args.m.now in
    let k : c.loop-i.i < length l = omega (arith, length-all c.args.m.now, c.rows_in-i-end.ensures, c.loop-i-test.true) in
    let at = ap (ended_as c.args.number) (sym c.load-v.ensures) ∙ sym c.is_end.ensures in
    sought-more _ l c.loop-i.i none k (at ∙ c.if-is_end.false) c.loop-i.invariant

pub returns-clause-first : goal.returns-clause-first
returns-clause-first c =
    let l = all c.args.m.now in
    let k : length l ≤ c.loop-i.i = omega (arith, length-all c.args.m.now, c.rows_in-i-end.ensures, c.loop-i-test.false) in
    place-none l _ (omega (arith, k, sought-out _ l c.loop-i.i k c.loop-i.invariant))

use mathlib.Core.Path.{◌≡◌, refl, sym, subst, ◌∙◌}
use Prim.Native.Nat.{◌+◌, ◌-◌}
use native.Mathlib.Omega.{arith}
use Rattle.recall_rules.specs.Verdicts.{has_ended}
use Rattle.recall_rows.specs.Rows.{all}
use Rattle.recall_rows.proofs.Scans.{count-all}
use Rattle.recall_answers.proofs.Extended.{Seeking, seek-none, seek-more, seek_hit, seek-end, unused-by}
use Rattle.recall_answers.proofs.latest_end.Goals as goal

pub loop-number-init : goal.loop-number-init
loop-number-init c =
    let l = all c.args.m.now in
    let n = c.count-ended.result in
    let k : n + 16 - n ≡ 16 = omega arith in
    subst (Seeking c.args.conn c.args.id l n) (sym k) (seek-none c.args.conn c.args.id l (c.count-ended.ensures ∙ count-all has_ended l))

pub returns-then-is_past : goal.returns-then-is_past
returns-then-is_past c =
    let n = c.loop-number.number in
    seek_hit c.args.conn c.args.id (all c.args.m.now) n (n + 16 - c.count-ended.result) (omega arith)
    (omega (arith, c.saturating_sub-number-start.ensures, c.loop-number-test.true)) c.loop-number.invariant c.nth_end-e.ensures
    (sym c.is_past.ensures ∙ c.if-is_past.true)

pub loop-number-preserved : goal.loop-number-preserved
loop-number-preserved c =
    let l = all c.args.m.now in
    let n = c.loop-number.number in
    let ended = c.count-ended.result in
    let k : n + 16 - ended - 1 ≡ n - 1 + 16 - ended = omega (arith, c.saturating_sub-number-start.ensures, c.loop-number-test.true) in
    subst (Seeking c.args.conn c.args.id l (n - 1)) k
    (seek-more c.args.conn c.args.id l n (n + 16 - ended) (omega arith)
    (omega (arith, c.saturating_sub-number-start.ensures, c.loop-number-test.true)) c.loop-number.invariant c.nth_end-e.ensures
    (sym c.is_past.ensures ∙ c.if-is_past.false))

pub returns : goal.returns
returns c =
    let n = c.loop-number.number in
    unused-by c.default.result c.default.ensures
    ∙ seek-end c.args.conn c.args.id (all c.args.m.now) n (n + 16 - c.count-ended.result) c.count-ended.result
    (omega (arith, c.saturating_sub-number-start.ensures, c.loop-number-test.false)) refl c.loop-number.invariant

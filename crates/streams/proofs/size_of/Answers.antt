use mathlib.Core.Path.{sym, ◌∙◌}
use native.Mathlib.Omega.{arith}
use Rattle.streams.proofs.Laws.{sizing-begins, sizing-ends, sizing-bad, sizing-more}
use Rattle.streams.proofs.size_of.Goals as goal

pub loop-i-init : goal.loop-i-init
loop-i-init c =
    sizing-begins c.args.n c.args.words.now

pub returns-then-is_bad : goal.returns-then-is_bad
returns-then-is_bad c = sizing-bad c.loop-i.invariant c.loop-i-test.true
    (sym c.is_bad.ensures ∙ c.if-is_bad.true)

pub loop-i-preserved : goal.loop-i-preserved
loop-i-preserved c = let f =
    sizing-more c.loop-i.invariant c.loop-i-test.true
    (sym c.is_bad.ensures ∙ c.if-is_bad.false) in
    f

pub returns : goal.returns
returns c = sizing-ends c.loop-i.invariant (omega arith)

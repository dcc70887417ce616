use mathlib.Core.Path.{◌≡◌, sym, ap, ◌∙◌}
use mathlib.Core.Bool.{true, false}
use native.Mathlib.Omega.{arith}
use Rattle.rules.specs.Recent.{recent_at}
use Rattle.rules.specs.Answers.{is_past}
use Rattle.rules.proofs.Recall.{seek-none, seek-more, seek_hit, seek-out}
use Rattle.memory.specs.Memory.{see}
use Rattle.memory.proofs.Laws.{none-kept}
use Rattle.memory.proofs.recall.Goals as goal

pub loop-i-init : goal.loop-i-init
loop-i-init c = seek-none c.args.conn c.args.id (see c.args.m.now).queue.lately

pub recent_at-e-requires : goal.recent_at-e-requires
recent_at-e-requires c = record { form = c.requires; i_lt_most_kept = c.loop-i-test.true }

pub returns-then-is_past : goal.returns-then-is_past
returns-then-is_past c =
    let l = (see c.args.m.now).queue.lately in
    let i = c.loop-i in
    let e : is_past c.args.conn c.args.id (recent_at i.i l) ≡ true =
    sym (c.is_past.ensures ∙ ap (is_past c.args.conn c.args.id) c.recent_at-e.ensures)
    ∙ c.if-is_past.true in
    c.recent_at-e.ensures ∙ seek_hit c.args.conn c.args.id l i.i c.loop-i-test.true e
    i.invariant

pub loop-i-preserved : goal.loop-i-preserved
loop-i-preserved c =
    let l = (see c.args.m.now).queue.lately in
    let i = c.loop-i in
    let e : is_past c.args.conn c.args.id (recent_at i.i l) ≡ false =
    sym (c.is_past.ensures ∙ ap (is_past c.args.conn c.args.id) c.recent_at-e.ensures)
    ∙ c.if-is_past.false in
    seek-more c.args.conn c.args.id l i.i c.loop-i-test.true e i.invariant

pub returns : goal.returns
returns c =
    let i = c.loop-i in
    none-kept c.default.result c.default.ensures ∙ seek-out c.args.conn c.args.id (see c.args.m.now).queue.lately i.i (omega arith)
    i.invariant

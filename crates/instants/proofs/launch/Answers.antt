-- It goes on air once an equal one is out: there is a place for it (`on-placed`) and room for its record (`on_room`, `launched-on`); or it
-- fails (`launched-off`).
use mathlib.Core.Path.{sym, ◌∙◌}
use native.Mathlib.Omega.{arith}
use Rattle.rules.specs.Records.{SpliceComplete}
use Rattle.rules.proofs.Records.{length-record}
use Rattle.ends.proofs.Laws.{tells-part}
use Rattle.instants.proofs.Starts.{on-placed, on_room, launched-on, launched-off}
use Rattle.instants.proofs.launch.Goals as goal

pub oust-to-requires : goal.oust-to-requires
oust-to-requires c =
    record {
      form = c.requires.form;
      all = c.requires.all;
      ordered = c.requires.ordered;
      m_in_bounds = omega
          (arith, c.requires.m_in_bounds);
    }

pub slice_bounds-splice_complete-count : goal.slice_bounds-splice_complete-count
slice_bounds-splice_complete-count c =
    omega (arith, on_room c.args.x c.oust-to.ensures c.requires.m_in_bounds)

pub slice_bounds-splice_complete-start : goal.slice_bounds-splice_complete-start
slice_bounds-splice_complete-start c =
    omega (arith, on_room c.args.x c.oust-to.ensures c.requires.m_in_bounds)

pub splice_complete-requires : goal.splice_complete-requires
splice_complete-requires c =
    omega (arith, on_room c.args.x c.oust-to.ensures c.requires.m_in_bounds)

pub overflow_add-end : goal.overflow_add-end
overflow_add-end c =
    let x = c.args.x in
    let long = length-record (SpliceComplete x.conn 100 x.id 0 0) tt in
    omega (arith, on_room x c.oust-to.ensures c.requires.m_in_bounds, c.splice_complete.ensures.count, long)

pub push-requires : goal.push-requires
push-requires c =
    let f = sym c.may_start.ensures ∙ c.if-may_start.true in
    let d = c.oust-to.ensures in
    record { form = d.shows.form; m_len_bound = (on-placed c.args.x d f c.requires.placed.0, c.requires.placed.1) }

pub fail-requires : goal.fail-requires
fail-requires c = record { form = c.requires.form; ordered = c.requires.ordered; m_in_bounds = omega (arith, c.requires.m_in_bounds) }

pub returns-then-may_start : goal.returns-then-may_start
returns-then-may_start c =
    let f = sym c.may_start.ensures ∙ c.if-may_start.true in
    let d = c.oust-to.ensures in
    let room = c.requires.m_in_bounds in
    let wrote = c.splice_complete in
    launched-on c.args.x d f room c.push.ensures
    (tells-part (omega (arith, on_room c.args.x d room)) wrote.ensures)

pub returns-else-may_start : goal.returns-else-may_start
returns-else-may_start c =
    let f = sym c.may_start.ensures ∙ c.if-may_start.false in
    launched-off c.args.x f c.fail.ensures

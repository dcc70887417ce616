use mathlib.Core.Path.{refl, sym, ◌∙◌}
use native.Mathlib.Omega.{arith}
use Rattle.rules.specs.Follows.Wires.{Byte}
use Rattle.rules.proofs.All.{all-at}
use Rattle.recall_pass.proofs.Walks.{walking-first, walking-fits, walking-ready, walking-end, walking-record}
use Rattle.recall_pass.proofs.Walks.{walking-within, walking-next}
use Rattle.recall_pass.proofs.pass.Goals as goal

pub loop-record-init : goal.loop-record-init
loop-record-init c = (walking-first c.args.log.now c.args.m.now c.begun-h.ensures, refl, refl)

pub slice_bounds-record_at-count : goal.slice_bounds-record_at-count
slice_bounds-record_at-count c = omega (arith, c.loop-record.invariant.0.there)

pub slice_bounds-record_at-start : goal.slice_bounds-record_at-start
slice_bounds-record_at-start c = omega (arith, c.loop-record.invariant.0.there)

pub slice_bounds-record_at-end : goal.slice_bounds-record_at-end
slice_bounds-record_at-end c = omega (arith, c.loop-record.invariant.0.there)

pub overflow_add-at : goal.overflow_add-at
overflow_add-at c =
    let w = c.loop-record.invariant in
    omega (
      arith,
      (walking-within w.0 c.requires.log_len_bound (omega (arith, w.1, c.requires.width_in_bounds))
          (sym c.record_at.ensures ∙ c.in-Some.is) c.span_of-at.ensures).1,
    )

pub loop-record-smaller : goal.loop-record-smaller
loop-record-smaller c =
    let w = c.loop-record.invariant in
    let y = walking-within w.0 c.requires.log_len_bound (omega (arith, w.1, c.requires.width_in_bounds))
    (sym c.record_at.ensures ∙ c.in-Some.is) c.span_of-at.ensures in
    omega (arith, y.0, y.1)

pub loop-record-preserved : goal.loop-record-preserved
loop-record-preserved c =
    let w = c.loop-record.invariant in (
      walking-next w.0 c.requires.log_len_bound (omega (arith, w.1, c.requires.width_in_bounds))
          (sym c.record_at.ensures ∙ c.in-Some.is) c.span_of-at.ensures
          (all-at Byte 0 c.args.log.now (λ i. omega (arith, c.type_inv.log i))) c.play-h.ensures,
      c.play-h.auto.m ∙ w.1,
      c.play-h.auto.scratch ∙ w.2,
    )

pub returns : goal.returns
returns c =
    let w = c.loop-record.invariant in
    walking-end w.0 c.requires.log_len_bound (omega (arith, w.1, c.requires.width_in_bounds)) (sym c.record_at.ensures ∙ c.in_default.is)

pub slice_bounds-play-end : goal.slice_bounds-play-end
slice_bounds-play-end c = sym c.loop-record.invariant.2

pub play-h-requires : goal.play-h-requires
play-h-requires c =
    let w = c.loop-record.invariant in
    record {
      ready = walking-ready w.0 c.requires.log_len_bound (omega (arith, w.1, c.requires.width_in_bounds));
      fits = walking-fits w.0 c.requires.log_len_bound (omega (arith, w.1, c.requires.width_in_bounds));
      record_value = walking-record w.0 c.requires.log_len_bound (omega (arith, w.1, c.requires.width_in_bounds))
          (sym c.record_at.ensures ∙ c.in-Some.is);
      scratch_len = w.2;
    }

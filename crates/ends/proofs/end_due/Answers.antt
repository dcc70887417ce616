use native.Mathlib.Omega.{arith}
use mathlib.Core.Path.{sym, ap, ◌∙◌}
use Prim.Native.Nat.{◌<◌}
use borrow.Author.Tests.{eq-eqb, ne_eqb}
use lib.ListN.{length}
use Rattle.rules.specs.declared.Ninths.{Ninths}
use Rattle.rules.specs.State.{empty}
use Rattle.rules.proofs.Every.{all_get_d}
use Rattle.memory.specs.declared.Which.TheVariants.{Started}
use Rattle.memory.specs.Memory.{see}
use Rattle.ends.specs.Does.{Playable}
use Rattle.ends.proofs.Laws.{writable, one_less}
use Rattle.ends.proofs.Closing.{leaving-none, leaving-goes, leaving-stays, leaving-done, closing-room}
use Rattle.ends.proofs.end_due.Goals as goal

pub loop-i-init : goal.loop-i-init
loop-i-init c = leaving-none c.requires.form c.requires.all c.requires.m_in_bounds

pub count-requires : goal.count-requires
count-requires c = c.loop-i.invariant.form

pub end_at-end-requires : goal.end_at-end-requires
end_at-end-requires c =
    record { form = c.loop-i.invariant.form; at_in_bounds = omega (arith, c.loop-i-test.true, c.count.ensures) }

pub end_one_started-to-requires : goal.end_one_started-to-requires
end_one_started-to-requires c =
    let l = c.loop-i in
    let list = (see l.m).queue.started in
    let k : l.i < length list = omega (arith, c.loop-i-test.true, c.count.ensures) in
    let p = all_get_d Playable list l.i empty k l.invariant.playable in
    record {
      form = l.invariant.form;
      at_in_bounds = k;
      writable = writable l.how _ p;
      room_for_in_bounds = closing-room list l.i
          l.invariant.writes k;
    }

pub loop-i-smaller-then-t-end : goal.loop-i-smaller-then-t-end
loop-i-smaller-then-t-end c =
    let l = c.loop-i in
    let k : l.i < length (see l.m).queue.started = omega (arith, c.loop-i-test.true, c.count.ensures) in
    omega (arith, one_less Started l.i l.how l.m k c.end_one_started-to.ensures)

pub loop-i-preserved-then-t-end : goal.loop-i-preserved-then-t-end
loop-i-preserved-then-t-end c =
    let l = c.loop-i in
    leaving-goes l.invariant (omega (arith, c.loop-i-test.true, c.count.ensures))
    (eq-eqb _ _ (c.if-t-end.true ∙ ap (λ (t : Ninths). t.0) c.end_at-end.ensures)) c.end_one_started-to.ensures

pub loop-i-smaller : goal.loop-i-smaller
loop-i-smaller c =
    omega (arith, c.loop-i-test.true, c.count.ensures)

pub loop-i-preserved : goal.loop-i-preserved
loop-i-preserved c =
    let l = c.loop-i in
    leaving-stays l.invariant (omega (arith, c.loop-i-test.true, c.count.ensures))
    (ne_eqb _ _ (λ e. c.if-t-end.false (e ∙ sym (ap (λ (t : Ninths). t.0) c.end_at-end.ensures))))

pub shape_of-out : goal.shape_of-out
shape_of-out c = c.loop-i.invariant.writes.long

pub returns : goal.returns
returns c =
    leaving-done c.args.t c.loop-i.invariant (omega (arith, c.loop-i-test.false, c.count.ensures))

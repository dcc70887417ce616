-- None follows (`dismissed-none`), or the walk's flags say who does (`dismissed-flags`).
-- Rests on what `walk`, `end_flagged` and memory promise.
use mathlib.Core.Path.{◌≡◌, sym, subst}
use mathlib.Core.Bool.{true}
use Prim.Native.Nat.{ℕ, ◌<◌}
use mathlib.Core.List.{List}
use native.Mathlib.Omega.{arith}
use lib.ListN.{length}
use Rattle.rules.specs.Lists.{All, keep}
use Rattle.rules.specs.State.{of}
use Rattle.places.specs.Places.{flagged}
use Rattle.memory.specs.Memory.{see}
use Rattle.ends.proofs.Laws.{dismissed-none}
use Rattle.ends.proofs.Followers.{few-places, conn-small, flags-own, unflagged-last, dismissed-flags}
use Rattle.ends.proofs.dismiss.Goals as goal

pub end_flagged-requires : goal.end_flagged-requires
end_flagged-requires c =
    let a = c.args in
    let m = c.args.m.now in
    let w = (see m).queue.waiting in
    let h : c.find-i.result < length w = omega (arith, c.if-i-count.true, c.count.ensures) in
    let own =
    subst (λ (f : List ℕ). All (λ y. of a.conn y ≡ true) (keep (flagged f w) w)) (sym c.walk-end.ensures.marks)
    (flags-own a.conn a.id w c.requires.ordered (few-places m c.requires.form)) in record {
      form = c.requires.form;
      conn_bound = conn-small a.conn a.id m c.find-i.result c.requires.form c.find-i.ensures h;
      sorted
          = c.requires.ordered.sorted;
      unflagged = unflagged-last a.conn a.id w _ c.walk-end.result c.requires.ordered.sorted
          (few-places m c.requires.form)
          c.walk-end.ensures.marks c.walk-end.ensures.last;
      all = own;
      m_in_bounds = c.requires.m_in_bounds;
    }

pub returns-then-i-count : goal.returns-then-i-count
returns-then-i-count c =
    let a = c.args in
    dismissed-flags a.res a.conn a.id a.m.now _ c.requires.ordered (few-places a.m.now c.requires.form)
    c.walk-end.ensures.marks c.end_flagged.ensures

pub returns-else-i-count : goal.returns-else-i-count
returns-else-i-count c =
    dismissed-none c.args.res c.args.conn c.args.id c.find-i.result c.args.m.now c.find-i.ensures
    c.requires.form
    (omega (arith, c.if-i-count.false, c.count.ensures))

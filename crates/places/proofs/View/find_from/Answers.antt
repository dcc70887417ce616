use native.Mathlib.Omega.{arith}
use mathlib.Core.Path.{subst}
use Prim.Native.Nat.{◌≤◌, ◌<◌}
use Rattle.rules.specs.declared.Ninths.{Ninths}
use Rattle.places.specs.Places.{lot}
use Rattle.places.proofs.Laws.{halved-all, halved-low, halved-high}
use Rattle.places.proofs.View.find_from.Goals as goal

pub loop-low-init : goal.loop-low-init
loop-low-init c = halved-all c.args.t.0 (lot c.args.self.q.now c.args.self.ring_end c.args.self.n) c.args.self.good

pub loop-low-preserved-then-s-t : goal.loop-low-preserved-then-s-t
loop-low-preserved-then-s-t c =
    let l = c.loop-low in
    halved-low c.args.t.0 (lot c.args.self.q.now c.args.self.ring_end c.args.self.n) l.low l.high _ c.args.self.good (omega arith)
    l.invariant
    (subst (λ (y : Ninths). y.0 < c.args.t.0) c.start_at-s.ensures c.if-s-t.true) c.requires.sorted

pub loop-low-preserved : goal.loop-low-preserved
loop-low-preserved c =
    let l = c.loop-low in
    halved-high c.args.t.0 (lot c.args.self.q.now c.args.self.ring_end c.args.self.n) l.low l.high _ c.args.self.good (omega arith)
    l.invariant
    (subst (λ (y : Ninths). c.args.t.0 ≤ y.0) c.start_at-s.ensures c.if-s-t.false)

use native.Mathlib.Omega.{arith}
use mathlib.Core.Path.{◌≡◌, refl, ap, ◌∙◌}
use Prim.Native.Nat.{ℕ, ◌+◌, ◌-◌, ◌*◌, ◌%◌}
use Rattle.rules.specs.Lists.{insert_at, remove_at}
use Rattle.rules.specs.State.{empty}
use Rattle.places.specs.Places.{width, capacity, places, round, turned, lot}
use Rattle.places.proofs.Ring.{size, ring-small, ring-same, row_of, fills, shifts}
use Rattle.places.proofs.Laws.{used-fits, none-is, slot-within, remove-made}
use Rattle.places.proofs.remove_at.Goals as goal

pub overflow_sub-first : goal.overflow_sub-first
overflow_sub-first c = used-fits c.args.q.now c.args.ring_end c.args.n c.requires.good

pub overflow_add-hole-2 : goal.overflow_add-hole-2
overflow_add-hole-2 c =
    omega (
      arith,
      ring-small (capacity c.args.q.now) c.args.ring_end c.requires.ring,
      used-fits c.args.q.now c.args.ring_end c.args.n c.requires.good,
    )

pub loop-passed-init : goal.loop-passed-init
loop-passed-init c =
    let z : c.args.at - 0 ≡ c.args.at = omega arith in
    rw z (refl, refl, refl, refl, c.requires.ring)

pub read_row-y-requires : goal.read_row-y-requires
read_row-y-requires c =
    let l = c.loop-passed in
    let k = capacity c.args.q.now - c.args.n in
    row_of l.q c.args.ring_end (k + (c.args.at - (l._passed + 1))) _ l.invariant.4
    (omega (arith, slot-within c.args.q.now c.args.ring_end c.args.n c.args.at c.requires.good c.requires.at_lt_n))
    (omega arith)

pub write_row-requires : goal.write_row-requires
write_row-requires c =
    let l = c.loop-passed in
    let k = capacity c.args.q.now - c.args.n in record {
      row = row_of l.q c.args.ring_end (k + (c.args.at - l._passed)) l.hole l.invariant.4
          (omega (arith, slot-within c.args.q.now c.args.ring_end c.args.n c.args.at c.requires.good c.requires.at_lt_n))
          l.invariant.0;
      narrow = c.read_row-y.ensures.narrow;
    }

pub loop-passed-preserved : goal.loop-passed-preserved
loop-passed-preserved c =
    let l = c.loop-passed in
    let e = c.args.ring_end in
    let k = capacity c.args.q.now - c.args.n in
    let a = (l.hole + round * width - width) % (round * width) in
    let w = c.write_row.ensures in
    let t = shifts l.q e (k + (c.args.at - (l._passed + 1))) (k + (c.args.at - l._passed)) a l.hole l.invariant.4 (omega arith)
    (omega (arith, slot-within c.args.q.now c.args.ring_end c.args.n c.args.at c.requires.good c.requires.at_lt_n))
    (omega arith) l.invariant.0 _ _ c.read_row-y.ensures.is w.list in (
      omega arith,
      omega arith,
      t ∙ l.invariant.2,
      w.rest ∙ l.invariant.3,
      ring-same (capacity l.q) _ e l.invariant.4
          (omega arith),
    )

pub write_row-requires-2 : goal.write_row-requires-2
write_row-requires-2 c =
    let l = c.loop-passed in
    let k = capacity c.args.q.now - c.args.n in record {
      row = row_of l.q c.args.ring_end (k + (c.args.at - l._passed)) l.hole l.invariant.4
          (omega (arith, slot-within c.args.q.now c.args.ring_end c.args.n c.args.at c.requires.good c.requires.at_lt_n))
          l.invariant.0;
      narrow = record { overrides = omega arith; mux = omega arith; asked = omega arith };
    }

pub returns : goal.returns
returns c =
    let l = c.loop-passed in
    let p = c.args.q.now in
    let e = c.args.ring_end in
    let k = capacity p - c.args.n in
    let z : k + (c.args.at - l._passed) ≡ k = omega arith in
    let w = c.write_row-2.ensures in
    let r = fills l.q e (k + (c.args.at - l._passed)) l.hole l.invariant.4 (omega (
      arith,
      slot-within c.args.q.now c.args.ring_end c.args.n c.args.at c.requires.good c.requires.at_lt_n,
    )) l.invariant.0 _ _ w.list
    in
    let m = remove-made (lot p e c.args.n) _ c.args.at k c.requires.good c.requires.at_lt_n (omega (arith, size p e))
    (r ∙ rw (none-is c.default.result c.default.ensures)
    (ap (insert_at (k + (c.args.at - l._passed)) empty) l.invariant.2
    ∙ ap (λ (j : ℕ). insert_at j empty (remove_at (k + c.args.at) (turned e (places p))))
    z)) in
    record { good = m.0; list = m.1; rest = w.rest ∙ l.invariant.3 }

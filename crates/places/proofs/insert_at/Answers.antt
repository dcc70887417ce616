use native.Mathlib.Omega.{arith}
use mathlib.Core.Path.{◌≡◌, refl, ap, ◌∙◌}
use Prim.Native.Nat.{ℕ, ◌+◌, ◌-◌, ◌*◌, ◌%◌}
use lib.ListN.{drop}
use Rattle.rules.specs.Lists.{insert_at}
use Rattle.places.specs.Places.{width, capacity, places, round, turned, next, lot}
use Rattle.places.proofs.Words.{length-places}
use Rattle.places.proofs.Ring.{size, ring-next, row_of, fills, shifts, turned_taken}
use Rattle.places.proofs.Laws.{insert-made}
use Rattle.places.proofs.insert_at.Goals as goal

pub loop-later-init : goal.loop-later-init
loop-later-init c = (omega arith, omega arith, refl, refl, refl)

pub read_row-y-requires : goal.read_row-y-requires
read_row-y-requires c =
    let l = c.loop-later in
    let e = c.args.ring_end in
    row_of l.q (next e) (round - 1 - (l.moves + 1)) _ (ring-next (capacity l.q) e (omega arith)) (omega arith) (omega arith)

pub write_row-requires : goal.write_row-requires
write_row-requires c =
    let l = c.loop-later in
    let e = c.args.ring_end in record {
      row = row_of l.q (next e) (round - 1 - l.moves) l.hole (ring-next (capacity l.q) e (omega arith))
          (omega arith) l.invariant.1;
      narrow = c.read_row-y.ensures.narrow;
    }

pub loop-later-preserved : goal.loop-later-preserved
loop-later-preserved c =
    let l = c.loop-later in
    let e = c.args.ring_end in
    let a = (l.hole + round * width - width) % (round * width) in
    let w = c.write_row.ensures in
    let t = shifts l.q (next e) (round - 1 - (l.moves + 1)) (round - 1 - l.moves) a l.hole
    (ring-next (capacity l.q) e (omega arith)) (omega arith) (omega arith) (omega arith) l.invariant.1 _ _
    c.read_row-y.ensures.is w.list in
    (omega arith, omega arith, omega arith, t ∙ l.invariant.3, w.rest ∙ l.invariant.4)

pub write_row-requires-2 : goal.write_row-requires-2
write_row-requires-2 c =
    let l = c.loop-later in
    let e = c.args.ring_end in record {
      row = row_of l.q (next e) (round - 1 - l.moves) l.hole (ring-next (capacity l.q) e (omega arith))
          (omega arith) l.invariant.1;
      narrow = c.requires.narrow;
    }

pub returns : goal.returns
returns c =
    let l = c.loop-later in
    let p = c.args.q.now in
    let e = c.args.ring_end in
    let x = c.args.x in
    let k = round - 1 - c.args.n in
    let i = round - 1 - l.moves in
    let z : i ≡ k + c.args.at = omega arith in
    let w = c.write_row-2.ensures in
    let r = fills l.q (next e) i l.hole (ring-next (capacity l.q) e (omega arith)) (omega arith) l.invariant.1 _ x w.list in
    let d = l.invariant.3 ∙ turned_taken e (places p) (omega (arith, length-places p)) c.requires.q_value.1 in
    let m = insert-made (lot p e c.args.n) _ c.args.at k x c.requires.good (omega (arith, size p e)) c.requires.q_value.2
    (r ∙ ap (insert_at i x) d ∙ ap (λ (j : ℕ). insert_at j x (drop 1 (turned e (places p)))) z) in
    record { made = record { good = m.0; list = m.1; rest = w.rest ∙ l.invariant.4 }; moves = omega arith }

-- The part comes back with one more, then the count and the ring's end, which goes one on: all else shows as before (`accepted-at`). Its
-- connection's count goes with it (`accepted-now`).
use mathlib.Core.Path.{refl, ap, ◌∙◌}
use mathlib.Core.Bool.{true}
use Prim.Native.Nat.{◌+◌}
use native.Mathlib.Omega.{arith}
use lib.ListN.{set, length-set}
use borrow.Rule.Slice.PartMut.{put_mid}
use Rattle.rules.specs.Lists.{insert_at}
use Rattle.rules.specs.State.{of}
use Rattle.rules.proofs.Count.{count≤length}
use Rattle.places.specs.Places.{Lot, used, next}
use Rattle.memory.specs.declared.Which.TheVariants.{Waiting}
use Rattle.memory.specs.Memory.{from_of, span_of, slot_of, ring_word, sessions}
use Rattle.memory.proofs.Laws.{lot-at, good-at, room_at, Changed, accepted-at, accepted-now, count_word}
use Rattle.memory.proofs.accept.Goals as goal

pub insert_at-moves-requires : goal.insert_at-moves-requires
insert_at-moves-requires c =
    let count = c.count-n in
    let ring = c.ring_end-r in record {
      good = good-at Waiting refl refl ring.ensures.value c.requires.form count.ensures;
      q_value = (
        room_at Waiting refl refl c.requires.form,
        ring.ensures.within,
        omega (arith, c.requires.at_in_bounds, count.ensures),
        omega (arith, c.requires.at_in_bounds, count.ensures),
      );
      narrow = c.requires.storable.narrow;
    }

-- and then the contract is kept
pub returns : goal.returns
returns c =
    let so_far : (let count = c.count-n in let ring = c.ring_end-r in Changed true Waiting c.args.m.now
    (set (set (put_mid (from_of Waiting) (span_of Waiting) c.args.m.now c.insert_at-moves.new.q) (slot_of Waiting) (count.result + 1))
    ring_word (next ring.result)) (insert_at c.args.at c.args.x (sessions Waiting c.args.m.now)))
    = (let count = c.count-n in let ring = c.ring_end-r in let l = lot-at Waiting refl refl ring.ensures.value c.requires.form
    count.ensures in accepted-at c.insert_at-moves.new.q (count.result + 1) ring.ensures.value c.requires.form
    c.insert_at-moves.auto.q c.insert_at-moves.ensures.made.good
    (c.insert_at-moves.ensures.made.list ∙ ap (λ (x : Lot). insert_at c.args.at c.args.x (used x)) l)) in
    let count = c.count-n in record {
      shows = accepted-now c.args.at c.args.x c.requires.form c.requires.storable.of_four (so_far);
      moves
          = omega (arith, c.insert_at-moves.ensures.moves, count.ensures);
    }

pub bounds-m-3 : goal.bounds-m-3
bounds-m-3 c =
    let so_far : (let count = c.count-n in let ring = c.ring_end-r in Changed true Waiting c.args.m.now
    (set (set (put_mid (from_of Waiting) (span_of Waiting) c.args.m.now c.insert_at-moves.new.q) (slot_of Waiting) (count.result + 1))
    ring_word (next ring.result)) (insert_at c.args.at c.args.x (sessions Waiting c.args.m.now)))
    = (let count = c.count-n in let ring = c.ring_end-r in let l = lot-at Waiting refl refl ring.ensures.value c.requires.form
    count.ensures in accepted-at c.insert_at-moves.new.q (count.result + 1) ring.ensures.value c.requires.form
    c.insert_at-moves.auto.q c.insert_at-moves.ensures.made.good
    (c.insert_at-moves.ensures.made.list ∙ ap (λ (x : Lot). insert_at c.args.at c.args.x (used x)) l)) in
    let count = c.count-n in
    let ring = c.ring_end-r in
    let x = set (put_mid (from_of Waiting) (span_of Waiting) c.args.m.now c.insert_at-moves.new.q) (slot_of Waiting)
    (count.result + 1) in
    omega (arith, length-set x ring_word (next ring.result), (so_far).shown.whole)

pub overflow_add-c : goal.overflow_add-c
overflow_add-c c = omega (arith, c.requires.storable.of_four)

pub offset_bounds-m-c : goal.offset_bounds-m-c
offset_bounds-m-c c = omega (arith, c.requires.storable.of_four)

pub bounds-m-c : goal.bounds-m-c
bounds-m-c c =
    let so_far : (let count = c.count-n in let ring = c.ring_end-r in Changed true Waiting c.args.m.now
    (set (set (put_mid (from_of Waiting) (span_of Waiting) c.args.m.now c.insert_at-moves.new.q) (slot_of Waiting) (count.result + 1))
    ring_word (next ring.result)) (insert_at c.args.at c.args.x (sessions Waiting c.args.m.now)))
    = (let count = c.count-n in let ring = c.ring_end-r in let l = lot-at Waiting refl refl ring.ensures.value c.requires.form
    count.ensures in accepted-at c.insert_at-moves.new.q (count.result + 1) ring.ensures.value c.requires.form
    c.insert_at-moves.auto.q c.insert_at-moves.ensures.made.good
    (c.insert_at-moves.ensures.made.list ∙ ap (λ (x : Lot). insert_at c.args.at c.args.x (used x)) l)) in
    omega (arith, c.requires.storable.of_four, (so_far).shown.whole)

pub overflow_add-m-3 : goal.overflow_add-m-3
overflow_add-m-3 c =
    let so_far : (let count = c.count-n in let ring = c.ring_end-r in Changed true Waiting c.args.m.now
    (set (set (put_mid (from_of Waiting) (span_of Waiting) c.args.m.now c.insert_at-moves.new.q) (slot_of Waiting) (count.result + 1))
    ring_word (next ring.result)) (insert_at c.args.at c.args.x (sessions Waiting c.args.m.now)))
    = (let count = c.count-n in let ring = c.ring_end-r in let l = lot-at Waiting refl refl ring.ensures.value c.requires.form
    count.ensures in accepted-at c.insert_at-moves.new.q (count.result + 1) ring.ensures.value c.requires.form
    c.insert_at-moves.auto.q c.insert_at-moves.ensures.made.good
    (c.insert_at-moves.ensures.made.list ∙ ap (λ (x : Lot). insert_at c.args.at c.args.x (used x)) l)) in
    let conn = c.args.x.conn in
    let word = count_word refl c.requires.form (so_far) conn c.requires.storable.of_four in
    omega (arith, word, count≤length (of conn) (sessions Waiting c.args.m.now), c.requires.at_in_bounds)

pub bounds-m-c-2 : goal.bounds-m-c-2
bounds-m-c-2 c =
    let so_far : (let count = c.count-n in let ring = c.ring_end-r in Changed true Waiting c.args.m.now
    (set (set (put_mid (from_of Waiting) (span_of Waiting) c.args.m.now c.insert_at-moves.new.q) (slot_of Waiting) (count.result + 1))
    ring_word (next ring.result)) (insert_at c.args.at c.args.x (sessions Waiting c.args.m.now)))
    = (let count = c.count-n in let ring = c.ring_end-r in let l = lot-at Waiting refl refl ring.ensures.value c.requires.form
    count.ensures in accepted-at c.insert_at-moves.new.q (count.result + 1) ring.ensures.value c.requires.form
    c.insert_at-moves.auto.q c.insert_at-moves.ensures.made.good
    (c.insert_at-moves.ensures.made.list ∙ ap (λ (x : Lot). insert_at c.args.at c.args.x (used x)) l)) in
    (omega (arith, c.requires.storable.of_four, (so_far).shown.whole))

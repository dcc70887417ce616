-- The part comes back changed, and then the count: all else shows as before (`changed-at`). The connection's count falls by as many as
-- went (`less-now`).
use mathlib.Core.Path.{refl, sym, ap, subst, ◌∙◌}
use mathlib.Core.Bool.{false}
use Prim.Native.Nat.{◌-◌}
use native.Mathlib.Omega.{arith}
use lib.ListN.{length, set}
use borrow.Rule.Slice.PartMut.{put_mid}
use Rattle.rules.specs.Follows.Wires.{Sorted}
use Rattle.rules.proofs.Count.{length-split}
use Rattle.places.specs.Places.{Lot, used, flagged, unflagged, Unflagged}
use Rattle.memory.specs.declared.Which.TheVariants.{Waiting}
use Rattle.memory.specs.Memory.{from_of, span_of, slot_of, sessions}
use Rattle.memory.proofs.Laws.{lot-at, good-at, ring-at, Changed, changed-at, count_word, less-waits, less-now}
use Rattle.memory.proofs.omit_flagged.Goals as goal

pub omit_flagged-requires : goal.omit_flagged-requires
omit_flagged-requires c =
    let count = c.count-n in
    let ring = c.ring_end-r in
    let f = c.args.flags.now in
    let l = lot-at Waiting refl refl ring.ensures.value c.requires.form count.ensures in
    record {
      good = good-at Waiting refl refl ring.ensures.value c.requires.form count.ensures;
      ring = ring-at Waiting refl refl ring.ensures.value c.requires.form;
      sorted = subst (λ (x : Lot). Sorted (used x)) (sym l) c.requires.sorted;
      unflagged = subst (λ (x : Lot). Unflagged f c.args.end (used x)) (sym l) c.requires.unflagged;
      stay_value = c.requires.left_value
          ∙ sym (ap (λ (x : Lot). length (unflagged f (used x))) l);
    }

pub overflow_sub-m : goal.overflow_sub-m
overflow_sub-m c =
    let l = sessions Waiting c.args.m.now in
    omega (
      arith,
      c.requires.left_value,
      c.count-n.ensures,
      length-split (flagged c.args.flags.now l) l,
    )

pub bounds-m-c : goal.bounds-m-c
bounds-m-c c =
    let so_far : (Changed false Waiting c.args.m.now
    (set (put_mid (from_of Waiting) (span_of Waiting) c.args.m.now c.omit_flagged.new.q) (slot_of Waiting) c.args.left)
    (unflagged c.args.flags.now (sessions Waiting c.args.m.now)))
    = (let count = c.count-n in let ring = c.ring_end-r in let l = lot-at Waiting refl refl ring.ensures.value c.requires.form
    count.ensures in changed-at Waiting refl refl ring.ensures.value c.requires.form c.omit_flagged.new.q
    c.omit_flagged.auto.q c.args.left refl c.omit_flagged.ensures.good
    (c.omit_flagged.ensures.list ∙ ap (λ (x : Lot). unflagged c.args.flags.now (used x)) l)) in
    omega (arith, c.requires.conn_bound, (so_far).shown.whole)

pub overflow_sub-m-2 : goal.overflow_sub-m-2
overflow_sub-m-2 c =
    let so_far : (Changed false Waiting c.args.m.now
    (set (put_mid (from_of Waiting) (span_of Waiting) c.args.m.now c.omit_flagged.new.q) (slot_of Waiting) c.args.left)
    (unflagged c.args.flags.now (sessions Waiting c.args.m.now)))
    = (let count = c.count-n in let ring = c.ring_end-r in let l = lot-at Waiting refl refl ring.ensures.value c.requires.form
    count.ensures in changed-at Waiting refl refl ring.ensures.value c.requires.form c.omit_flagged.new.q
    c.omit_flagged.auto.q c.args.left refl c.omit_flagged.ensures.good
    (c.omit_flagged.ensures.list ∙ ap (λ (x : Lot). unflagged c.args.flags.now (used x)) l)) in
    let l = sessions Waiting c.args.m.now in
    let conn = c.args.conn in
    omega (
      arith,
      count_word refl c.requires.form (so_far) conn c.requires.conn_bound,
      less-waits conn (flagged c.args.flags.now l) l c.requires.all,
      c.requires.left_value,
      c.count-n.ensures,
    )

pub bounds-m-c-2 : goal.bounds-m-c-2
bounds-m-c-2 c =
    let so_far : (Changed false Waiting c.args.m.now
    (set (put_mid (from_of Waiting) (span_of Waiting) c.args.m.now c.omit_flagged.new.q) (slot_of Waiting) c.args.left)
    (unflagged c.args.flags.now (sessions Waiting c.args.m.now)))
    = (let count = c.count-n in let ring = c.ring_end-r in let l = lot-at Waiting refl refl ring.ensures.value c.requires.form
    count.ensures in changed-at Waiting refl refl ring.ensures.value c.requires.form c.omit_flagged.new.q
    c.omit_flagged.auto.q c.args.left refl c.omit_flagged.ensures.good
    (c.omit_flagged.ensures.list ∙ ap (λ (x : Lot). unflagged c.args.flags.now (used x)) l)) in
    (omega (arith, c.requires.conn_bound, (so_far).shown.whole))

pub returns : goal.returns
returns c =
    let so_far : (Changed false Waiting c.args.m.now
    (set (put_mid (from_of Waiting) (span_of Waiting) c.args.m.now c.omit_flagged.new.q) (slot_of Waiting) c.args.left)
    (unflagged c.args.flags.now (sessions Waiting c.args.m.now)))
    = (let count = c.count-n in let ring = c.ring_end-r in let l = lot-at Waiting refl refl ring.ensures.value c.requires.form
    count.ensures in changed-at Waiting refl refl ring.ensures.value c.requires.form c.omit_flagged.new.q
    c.omit_flagged.auto.q c.args.left refl c.omit_flagged.ensures.good
    (c.omit_flagged.ensures.list ∙ ap (λ (x : Lot). unflagged c.args.flags.now (used x)) l)) in
    let count = c.count-n in
    let l = sessions Waiting c.args.m.now in
    less-now refl c.requires.form c.args.conn (flagged c.args.flags.now l) (count.result - c.args.left) c.requires.conn_bound c.requires.all
    (omega (arith, c.requires.left_value, count.ensures)) (so_far)

-- The part comes back changed, and then the count: all else shows as before (`changed-at`). One that waits has its connection's count
-- changed with it (`omitted-now`).
use mathlib.Core.Path.{sym, ap, ◌∙◌}
use mathlib.Core.Bool.{false}
use Prim.Native.Nat.{◌-◌}
use native.Mathlib.Omega.{arith}
use lib.ListN.{length, set}
use borrow.Rule.Slice.PartMut.{put_mid}
use Rattle.rules.specs.Lists.{omit}
use Rattle.rules.specs.State.{of}
use Rattle.places.specs.Places.{Lot, used}
use Rattle.memory.specs.Memory.{sessions}
use Rattle.memory.proofs.Laws.{lot-at, good-at, ring-at, Changed, changed-at, started-now, omitted-now}
use Rattle.memory.proofs.omit_of.Goals as goal

pub omit_of-requires : goal.omit_of-requires
omit_of-requires c =
    let count = c.count-n in
    let ring = c.ring_end-r.ensures.value in
    let from = c.from-a in
    let to = c.to-e in
    let l = lot-at c.args.which from.ensures.value to.ensures.value ring c.requires.form count.ensures in record {
      good = good-at c.args.which from.ensures.value to.ensures.value ring c.requires.form count.ensures;
      ring = ring-at c.args.which from.ensures.value to.ensures.value ring c.requires.form;
      left_value = c.requires.left_value
          ∙ sym (ap (λ (x : Lot). length (omit (of c.args.conn) (used x))) l);
    }

-- and then the contract is kept
pub returns-in-Waiting : goal.returns-in-Waiting
returns-in-Waiting c =
    let so_far : (let count = c.count-n in let from = c.from-a in let to = c.to-e in let omit-of = c.omit_of in Changed false c.args.which
    c.args.m.now (set (put_mid from.result (to.result - from.result) c.args.m.now omit-of.new.q) c.slot-i.result c.args.left)
    (omit (of c.args.conn) (sessions c.args.which c.args.m.now)))
    = (let count = c.count-n in let ring = c.ring_end-r.ensures.value in let from = c.from-a in let to = c.to-e in let omit-of
    = c.omit_of in let l = lot-at c.args.which from.ensures.value to.ensures.value ring c.requires.form count.ensures in
    changed-at c.args.which from.ensures.value to.ensures.value ring c.requires.form omit-of.new.q omit-of.auto.q
    c.args.left c.slot-i.ensures.value omit-of.ensures.good
    (omit-of.ensures.list ∙ ap (λ (x : Lot). omit (of c.args.conn) (used x)) l)) in
    omitted-now c.in-Waiting.is c.requires.form c.args.conn c.requires.conn_bound (so_far)

pub returns-in_default : goal.returns-in_default
returns-in_default c =
    let so_far : (let count = c.count-n in let from = c.from-a in let to = c.to-e in let omit-of = c.omit_of in Changed false c.args.which
    c.args.m.now (set (put_mid from.result (to.result - from.result) c.args.m.now omit-of.new.q) c.slot-i.result c.args.left)
    (omit (of c.args.conn) (sessions c.args.which c.args.m.now)))
    = (let count = c.count-n in let ring = c.ring_end-r.ensures.value in let from = c.from-a in let to = c.to-e in let omit-of
    = c.omit_of in let l = lot-at c.args.which from.ensures.value to.ensures.value ring c.requires.form count.ensures in
    changed-at c.args.which from.ensures.value to.ensures.value ring c.requires.form omit-of.new.q omit-of.auto.q
    c.args.left c.slot-i.ensures.value omit-of.ensures.good
    (omit-of.ensures.list ∙ ap (λ (x : Lot). omit (of c.args.conn) (used x)) l)) in
    started-now c.in_default.is c.requires.form (so_far)

pub bounds-m-c : goal.bounds-m-c
bounds-m-c c =
    let so_far : (let count = c.count-n in let from = c.from-a in let to = c.to-e in let omit-of = c.omit_of in Changed false c.args.which
    c.args.m.now (set (put_mid from.result (to.result - from.result) c.args.m.now omit-of.new.q) c.slot-i.result c.args.left)
    (omit (of c.args.conn) (sessions c.args.which c.args.m.now)))
    = (let count = c.count-n in let ring = c.ring_end-r.ensures.value in let from = c.from-a in let to = c.to-e in let omit-of
    = c.omit_of in let l = lot-at c.args.which from.ensures.value to.ensures.value ring c.requires.form count.ensures in
    changed-at c.args.which from.ensures.value to.ensures.value ring c.requires.form omit-of.new.q omit-of.auto.q
    c.args.left c.slot-i.ensures.value omit-of.ensures.good
    (omit-of.ensures.list ∙ ap (λ (x : Lot). omit (of c.args.conn) (used x)) l)) in
    omega (arith, c.requires.conn_bound, (so_far).shown.whole)

-- The part comes back changed, and then the count: all else shows as before (`changed-at`). One that waits has its connection's count
-- changed with it (`removed-now`).
use mathlib.Core.Path.{ap, ◌∙◌}
use mathlib.Core.Bool.{false}
use Prim.Native.Nat.{◌-◌, ◌≤◌}
use native.Mathlib.Omega.{arith}
use lib.ListN.{set}
use borrow.Rule.Slice.PartMut.{put_mid}
use Rattle.rules.specs.Lists.{remove_at}
use Rattle.places.specs.Places.{Lot, used}
use Rattle.memory.specs.Memory.{sessions}
use Rattle.memory.proofs.Laws.{lot-at, good-at, ring-at, Changed, changed-at, started-now, one-of-four, one-waits, removed-now}
use Rattle.memory.proofs.Laws.{count_word}
use Rattle.memory.proofs.remove.Goals as goal

pub remove_at-requires : goal.remove_at-requires
remove_at-requires c =
    let count = c.count-n in
    let ring = c.ring_end-r.ensures.value in
    let from = c.from-a in
    let to = c.to-e in
    let which = c.args.which in record {
      good = good-at which from.ensures.value to.ensures.value ring c.requires.form count.ensures;
      ring
          = ring-at which from.ensures.value to.ensures.value ring c.requires.form;
      at_lt_n = omega
          (arith, c.requires.at_in_bounds, count.ensures);
    }

-- and then the contract is kept
pub returns-in-Waiting : goal.returns-in-Waiting
returns-in-Waiting c =
    let so_far : (let count = c.count-n in let from = c.from-a in let to = c.to-e in let remove-at = c.remove_at in Changed false
    c.args.which c.args.m.now (set (put_mid from.result (to.result - from.result) c.args.m.now remove-at.new.q) c.slot-i.result
    (count.result - 1)) (remove_at c.args.at (sessions c.args.which c.args.m.now)))
    = (let count = c.count-n in let ring = c.ring_end-r.ensures.value in let from = c.from-a in let to = c.to-e in let
    remove-at = c.remove_at in let l = lot-at c.args.which from.ensures.value to.ensures.value ring c.requires.form
    count.ensures in changed-at c.args.which from.ensures.value to.ensures.value ring c.requires.form remove-at.new.q
    remove-at.auto.q (count.result - 1) c.slot-i.ensures.value remove-at.ensures.good
    (remove-at.ensures.list ∙ ap (λ (x : Lot). remove_at c.args.at (used x)) l)) in
    let conn = c.conn_at-whose in
    removed-now c.in-Waiting.is c.requires.form c.args.at conn.result c.requires.at_in_bounds conn.ensures (so_far)

pub returns-in_default : goal.returns-in_default
returns-in_default c =
    let so_far : (let count = c.count-n in let from = c.from-a in let to = c.to-e in let remove-at = c.remove_at in Changed false
    c.args.which c.args.m.now (set (put_mid from.result (to.result - from.result) c.args.m.now remove-at.new.q) c.slot-i.result
    (count.result - 1)) (remove_at c.args.at (sessions c.args.which c.args.m.now)))
    = (let count = c.count-n in let ring = c.ring_end-r.ensures.value in let from = c.from-a in let to = c.to-e in let
    remove-at = c.remove_at in let l = lot-at c.args.which from.ensures.value to.ensures.value ring c.requires.form
    count.ensures in changed-at c.args.which from.ensures.value to.ensures.value ring c.requires.form remove-at.new.q
    remove-at.auto.q (count.result - 1) c.slot-i.ensures.value remove-at.ensures.good
    (remove-at.ensures.list ∙ ap (λ (x : Lot). remove_at c.args.at (used x)) l)) in
    started-now c.in_default.is c.requires.form (so_far)

pub overflow_add-c : goal.overflow_add-c
overflow_add-c c =
    let low : (c.conn_at-whose.result ≤ 3) = (one-of-four c.in-Waiting.is c.requires.form c.args.at c.conn_at-whose.result
    c.requires.at_in_bounds c.conn_at-whose.ensures) in
    omega (arith, low)

pub offset_bounds-m-c : goal.offset_bounds-m-c
offset_bounds-m-c c =
    let low : (c.conn_at-whose.result ≤ 3) = (one-of-four c.in-Waiting.is c.requires.form c.args.at c.conn_at-whose.result
    c.requires.at_in_bounds c.conn_at-whose.ensures) in
    omega (arith, low)

pub bounds-m-c : goal.bounds-m-c
bounds-m-c c =
    let low : (c.conn_at-whose.result ≤ 3) = (one-of-four c.in-Waiting.is c.requires.form c.args.at c.conn_at-whose.result
    c.requires.at_in_bounds c.conn_at-whose.ensures) in
    let so_far : (let count = c.count-n in let from = c.from-a in let to = c.to-e in let remove-at = c.remove_at in Changed false
    c.args.which c.args.m.now (set (put_mid from.result (to.result - from.result) c.args.m.now remove-at.new.q) c.slot-i.result
    (count.result - 1)) (remove_at c.args.at (sessions c.args.which c.args.m.now)))
    = (let count = c.count-n in let ring = c.ring_end-r.ensures.value in let from = c.from-a in let to = c.to-e in let
    remove-at = c.remove_at in let l = lot-at c.args.which from.ensures.value to.ensures.value ring c.requires.form
    count.ensures in changed-at c.args.which from.ensures.value to.ensures.value ring c.requires.form remove-at.new.q
    remove-at.auto.q (count.result - 1) c.slot-i.ensures.value remove-at.ensures.good
    (remove-at.ensures.list ∙ ap (λ (x : Lot). remove_at c.args.at (used x)) l)) in
    omega (arith, low, (so_far).shown.whole)

-- one of its connection's stands in the list
pub overflow_sub-m-in-Waiting : goal.overflow_sub-m-in-Waiting
overflow_sub-m-in-Waiting c =
    let so_far : (let count = c.count-n in let from = c.from-a in let to = c.to-e in let remove-at = c.remove_at in Changed false
    c.args.which c.args.m.now (set (put_mid from.result (to.result - from.result) c.args.m.now remove-at.new.q) c.slot-i.result
    (count.result - 1)) (remove_at c.args.at (sessions c.args.which c.args.m.now)))
    = (let count = c.count-n in let ring = c.ring_end-r.ensures.value in let from = c.from-a in let to = c.to-e in let
    remove-at = c.remove_at in let l = lot-at c.args.which from.ensures.value to.ensures.value ring c.requires.form
    count.ensures in changed-at c.args.which from.ensures.value to.ensures.value ring c.requires.form remove-at.new.q
    remove-at.auto.q (count.result - 1) c.slot-i.ensures.value remove-at.ensures.good
    (remove-at.ensures.list ∙ ap (λ (x : Lot). remove_at c.args.at (used x)) l)) in
    let low : (c.conn_at-whose.result ≤ 3) = (one-of-four c.in-Waiting.is c.requires.form c.args.at c.conn_at-whose.result
    c.requires.at_in_bounds c.conn_at-whose.ensures) in
    let conn = c.conn_at-whose in
    let word = count_word c.in-Waiting.is c.requires.form (so_far) conn.result (low) in
    omega (arith, word, one-waits c.args.at (sessions c.args.which c.args.m.now) conn.result c.requires.at_in_bounds conn.ensures)

pub bounds-m-c-in-Waiting : goal.bounds-m-c-in-Waiting
bounds-m-c-in-Waiting c =
    let low : (c.conn_at-whose.result ≤ 3) = (one-of-four c.in-Waiting.is c.requires.form c.args.at c.conn_at-whose.result
    c.requires.at_in_bounds c.conn_at-whose.ensures) in
    let so_far : (let count = c.count-n in let from = c.from-a in let to = c.to-e in let remove-at = c.remove_at in Changed false
    c.args.which c.args.m.now (set (put_mid from.result (to.result - from.result) c.args.m.now remove-at.new.q) c.slot-i.result
    (count.result - 1)) (remove_at c.args.at (sessions c.args.which c.args.m.now)))
    = (let count = c.count-n in let ring = c.ring_end-r.ensures.value in let from = c.from-a in let to = c.to-e in let
    remove-at = c.remove_at in let l = lot-at c.args.which from.ensures.value to.ensures.value ring c.requires.form
    count.ensures in changed-at c.args.which from.ensures.value to.ensures.value ring c.requires.form remove-at.new.q
    remove-at.auto.q (count.result - 1) c.slot-i.ensures.value remove-at.ensures.good
    (remove-at.ensures.list ∙ ap (λ (x : Lot). remove_at c.args.at (used x)) l)) in
    (omega (arith, low, (so_far).shown.whole))

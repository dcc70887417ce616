use native.Mathlib.Omega.{arith}
use mathlib.Core.Path.{◌≡◌, sym, ap, ◌∙◌}
use Rattle.rules.specs.State.{empty}
use Rattle.places.specs.Places.{capacity, lot, key_test}
use Rattle.places.proofs.Ring.{ring-small}
use Rattle.places.proofs.Laws.{used-fits, slot_row, slot-place, sought-none, sought-more, sought-hit, sought-out}
use Rattle.places.proofs.View.find.Goals as goal

pub overflow_sub-b : goal.overflow_sub-b
overflow_sub-b c = let v = c.args.self in used-fits v.q.now v.ring_end v.n v.good

pub overflow_add-b : goal.overflow_add-b
overflow_add-b c = let v = c.args.self in omega (arith, ring-small (capacity v.q.now) v.ring_end c.requires.ring)

pub loop-at-init : goal.loop-at-init
loop-at-init c = let v = c.args.self in (sought-none _ (lot v.q.now v.ring_end v.n), omega arith)

pub matches_row-requires : goal.matches_row-requires
matches_row-requires c =
    let l = c.loop-at in
    let v = c.args.self in
    slot_row v.q.now v.ring_end v.n l.at v.good (omega arith) l.b c.requires.ring l.invariant.1

pub returns-then-matches_row : goal.returns-then-matches_row
returns-then-matches_row c =
    let l = c.loop-at in
    let v = c.args.self in
    let x = slot-place v.q.now v.ring_end v.n l.at v.good (omega arith) l.b c.requires.ring l.invariant.1 in
    sought-hit _ (lot v.q.now v.ring_end v.n) l.at empty v.good (omega arith)
    (sym (c.matches_row.ensures ∙ ap (key_test c.args.key) x) ∙ c.if-matches_row.true) l.invariant.0

pub loop-at-preserved : goal.loop-at-preserved
loop-at-preserved c =
    let l = c.loop-at in
    let v = c.args.self in
    let x = slot-place v.q.now v.ring_end v.n l.at v.good (omega arith) l.b c.requires.ring l.invariant.1 in (
      sought-more _ (lot v.q.now v.ring_end v.n) l.at empty v.good (omega arith)
          (sym (c.matches_row.ensures ∙ ap (key_test c.args.key) x) ∙ c.if-matches_row.false) l.invariant.0,
      omega (arith, l.invariant.1),
    )

pub returns : goal.returns
returns c =
    let v = c.args.self in
    let e : v.n ≡ c.loop-at.at = omega (arith, c.loop-at.invariant.0.0) in
    e ∙ sought-out _ (lot v.q.now v.ring_end v.n) c.loop-at.at v.good (omega arith) c.loop-at.invariant.0

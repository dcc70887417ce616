use native.Mathlib.Omega.{arith}
use borrow.Author.Rules.{rules}
use mathlib.Core.Path.{◌≡◌, refl, ap, subst, ◌∙◌}
use Prim.Native.Nat.{ℕ, ◌+◌, ◌-◌}
use lib.ListN.{drop}
use Rattle.rules.specs.Lists.{remove_at}
use Rattle.places.specs.Places.{capacity, lot, used, Made}
use Rattle.places.proofs.Ring.{ring-same}
use Rattle.places.proofs.Laws.{remove_at-drop}
use Rattle.places.proofs.drop_first.Goals as goal

pub loop-i-init : goal.loop-i-init
loop-i-init c =
    let z : c.args.n - 0 ≡ c.args.n = omega arith in
    (search rules, search rules, rw z (record { good = c.requires.good; list = refl; rest = refl }))

pub remove_at-requires : goal.remove_at-requires
remove_at-requires c =
    let l = c.loop-i in record {
      good = l.invariant.2.good;
      ring = ring-same (capacity c.args.q.now) (capacity l.q) c.args.ring_end
          c.requires.ring (omega arith);
      at_lt_n = omega arith;
    }

pub loop-i-preserved : goal.loop-i-preserved
loop-i-preserved c =
    let l = c.loop-i in
    let m = c.remove_at.ensures in
    let u = used (lot c.args.q.now c.args.ring_end c.args.n) in
    let z : c.args.n - l.i - 1 ≡ c.args.n - (l.i + 1) = omega arith in (
      omega arith,
      omega arith,
      subst (λ (k : ℕ). Made c.args.q.now c.remove_at.new.q c.args.ring_end k (drop (l.i + 1) u)) z
          (record {
            good = m.good;
            list = m.list ∙ ap (remove_at 0) l.invariant.2.list ∙ remove_at-drop l.i (l.i + 1) u (omega arith);
            rest = m.rest ∙ l.invariant.2.rest;
          }),
    )

pub returns : goal.returns
returns c =
    let l = c.loop-i in
    let e : l.i ≡ c.args.k = omega arith in
    subst (λ (k : ℕ). Made c.args.q.now l.q c.args.ring_end (c.args.n - k)
    (drop k (used (lot c.args.q.now c.args.ring_end c.args.n)))) e l.invariant.2

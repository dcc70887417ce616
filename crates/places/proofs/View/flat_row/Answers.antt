-- Rests on `flat_word`, as `row` on `slot-word`: the ring's end is the place 0.
use mathlib.Core.Path.{refl, sym, ap, subst, ◌∙◌}
use native.Mathlib.Omega.{arith}
use Prim.Native.Nat.{ℕ}
use lib.ListN.{get_or}
use Rattle.rules.specs.State.{empty}
use Rattle.places.specs.Places.{lot, used, Good}
use Rattle.places.proofs.Laws.{used-fits, slot-within, flat-row, flat_word}
use Rattle.places.proofs.View.flat_row.Goals as goal

pub overflow_sub-result : goal.overflow_sub-result
overflow_sub-result c = used-fits c.args.self.q.now c.args.self.ring_end c.args.self.n c.args.self.good

pub overflow_mul-result : goal.overflow_mul-result
overflow_mul-result c = omega (
  arith,
  slot-within c.args.self.q.now c.args.self.ring_end c.args.self.n c.args.at c.args.self.good c.requires.at_lt_n,
)

pub returns : goal.returns
returns c =
    let v = c.args.self in
    let g : Good (lot v.q.now 0 v.n) = subst (λ (e : ℕ). Good (lot v.q.now e v.n)) c.requires.flat v.good in record {
      row = flat-row v.q.now v.n c.args.at g c.requires.at_lt_n _ refl;
      is = flat_word v.q.now v.n c.args.at g c.requires.at_lt_n _ refl
          ∙ ap (λ (e : ℕ). get_or (used (lot v.q.now e v.n)) c.args.at empty) (sym c.requires.flat);
    }

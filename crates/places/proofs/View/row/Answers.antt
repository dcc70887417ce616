-- Rests on `slot-word`: the words of the place are the fields of the session `at`; and on `slot_row`, the bound of the index.
use mathlib.Core.Path.{refl}
use native.Mathlib.Omega.{arith}
use Rattle.places.specs.Places.{capacity}
use Rattle.places.proofs.Ring.{ring-small}
use Rattle.places.proofs.Laws.{used-fits, slot-within, slot_row, slot-word}
use Rattle.places.proofs.View.row.Goals as goal

pub overflow_sub-result : goal.overflow_sub-result
overflow_sub-result c = used-fits c.args.self.q.now c.args.self.ring_end c.args.self.n c.args.self.good

pub overflow_add-result-2 : goal.overflow_add-result-2
overflow_add-result-2 c = omega (
  arith,
  ring-small (capacity c.args.self.q.now) c.args.self.ring_end c.requires.ring,
  slot-within c.args.self.q.now c.args.self.ring_end c.args.self.n c.args.at c.args.self.good c.requires.at_lt_n,
)

pub returns : goal.returns
returns c = record {
  row = slot_row c.args.self.q.now c.args.self.ring_end c.args.self.n c.args.at c.args.self.good c.requires.at_lt_n _ c.requires.ring refl;
  is = slot-word c.args.self.q.now c.args.self.ring_end c.args.self.n c.args.at c.args.self.good c.requires.at_lt_n _ c.requires.ring refl;
}

-- Rests on `row_read`: a place of the turned list is a row.
use native.Mathlib.Omega.{arith}
use mathlib.Core.Path.{refl, ◌∙◌}
use Rattle.rules.specs.State.{empty}
use Rattle.places.specs.Places.{capacity}
use Rattle.places.proofs.Ring.{ring-small, row_of, row_read}
use Rattle.places.proofs.read_at.Goals as goal

pub overflow_add-ring_end : goal.overflow_add-ring_end
overflow_add-ring_end c = omega (arith, ring-small (capacity c.args.q.now) c.args.ring_end c.requires.ring)

pub read_row-requires : goal.read_row-requires
read_row-requires c = row_of c.args.q.now c.args.ring_end c.args.i _ c.requires.ring c.requires.i_bound refl

pub returns : goal.returns
returns c = record {
  is = c.read_row.ensures.is
      ∙ row_read c.args.q.now c.args.ring_end c.args.i _ c.requires.ring c.requires.i_bound refl empty;
  narrow = c.read_row.ensures.narrow;
}

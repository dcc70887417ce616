-- Rests on `row-set`: a row written is a place of the turned list written.
use native.Mathlib.Omega.{arith}
use mathlib.Core.Path.{refl, ap, ◌∙◌}
use Rattle.places.specs.Places.{capacity, turned}
use Rattle.places.proofs.Ring.{ring-small, row_of, row-set}
use Rattle.places.proofs.write_at.Goals as goal

pub overflow_add-ring_end : goal.overflow_add-ring_end
overflow_add-ring_end c = omega (arith, ring-small (capacity c.args.q.now) c.args.ring_end c.requires.ring)

pub write_row-requires : goal.write_row-requires
write_row-requires c = record {
  row = row_of c.args.q.now c.args.ring_end c.args.i _ c.requires.ring
      c.requires.i_bound refl;
  narrow = c.requires.narrow;
}

pub returns : goal.returns
returns c =
    let w = c.write_row.ensures in record {
      list = ap (turned c.args.ring_end) w.list ∙ row-set c.args.q.now c.args.ring_end c.args.i _ c.requires.ring c.requires.i_bound refl
          c.args.x;
      rest = w.rest;
    }

-- The new session goes where the way ends, and its 100 is written behind the ends (`accept-turns`).
-- Rests on what `make_way` promises: it leaves room for both (`way-lean`).
use Prim.Native.Nat.{◌≤◌}
use native.Mathlib.Omega.{arith}
use lib.ListN.{length}
use Rattle.requests.proofs.Laws.{way-lean, way-within, accept-turns}
use Rattle.requests.proofs.accept.Goals as goal

pub make_way-way-requires : goal.make_way-way-requires
make_way-way-requires c =
    record {
      form = c.requires.form;
      holding = c.requires.holding;
      at_value = c.requires.at_value;
      taken_value = c.requires.taken_value;
      in_bounds = c.requires.in_bounds;
    }

pub accept-moved-requires : goal.accept-moved-requires
accept-moved-requires c =
    let w = c.make_way-way.ensures in
    record {
      form = w.does.shows.form;
      at_in_bounds = (way-within w, omega (arith, way-lean w, c.requires.m_len_bound));
      storable
          = c.requires.storable;
    }

pub slice_bounds-splice_response-count : goal.slice_bounds-splice_response-count
slice_bounds-splice_response-count c =
    omega (arith, way-lean c.make_way-way.ensures, c.requires.in_bounds)

pub slice_bounds-splice_response-start : goal.slice_bounds-splice_response-start
slice_bounds-splice_response-start c =
    omega (arith, way-lean c.make_way-way.ensures, c.requires.in_bounds)

pub splice_response-requires : goal.splice_response-requires
splice_response-requires c =
    omega (arith, way-lean c.make_way-way.ensures, c.requires.in_bounds)

pub overflow_add-to : goal.overflow_add-to
overflow_add-to c =
    omega (arith, way-lean c.make_way-way.ensures, c.requires.in_bounds)

pub returns : goal.returns
returns c =
    let w = c.make_way-way.ensures in
    let room : c.make_way-way.result.len ≤ length c.args.out.now =
    omega (arith, way-lean w, c.requires.m_len_bound, c.requires.in_bounds) in
    rw c.unmoved.ensures
    (accept-turns c.args.new w c.requires.holding.timed.sorted c.accept-moved.ensures.shows c.accept-moved.ensures.moves
    c.make_way-way.auto.out room c.splice_response.ensures)

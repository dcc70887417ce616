-- The ends and the start, one after the other (`instant-turns`).
use native.Mathlib.Omega.{arith}
use Rattle.instants.proofs.Starts.{instant-room, instant-meets, instant-placed, instant-playable, instant-turns}
use Rattle.instants.proofs.at_instant.Goals as goal

pub end_due-to-requires : goal.end_due-to-requires
end_due-to-requires c = record { form = c.requires.form; all = c.requires.all; m_in_bounds = omega (arith, c.requires.m_in_bounds) }

pub start_at-requires : goal.start_at-requires
start_at-requires c =
    let t = c.args.t.0 in
    let room = c.requires.m_in_bounds in
    let e = c.end_due-to.ensures in record {
      form = e.shows.form;
      meets = instant-meets t e room c.requires.meets;
      placed = instant-placed
          t e room c.requires.placed;
      all = instant-playable t e room c.requires.all;
      m_in_bounds = omega (arith, instant-room t e room);
    }

pub returns : goal.returns
returns c =
    instant-turns c.args.t.0 c.end_due-to.ensures c.requires.m_in_bounds c.start_at.ensures

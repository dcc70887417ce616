-- The one on air, then the covered, then those that wait (`closed`).
-- Rests on what `end_on_air_of`, `end_covered_of` and `end_waiting_of` promise.
use native.Mathlib.Omega.{arith}
use Rattle.ends.proofs.Laws.{cover-room, cover-playable, wait-room, closed}
use Rattle.ends.proofs.end_all_of.Goals as goal

pub end_on_air_of-aired-requires : goal.end_on_air_of-aired-requires
end_on_air_of-aired-requires c = record {
  form = c.requires.form;
  all = c.requires.all;
  m_in_bounds = omega (arith, c.requires.m_in_bounds);
}

pub end_covered_of-to-requires : goal.end_covered_of-to-requires
end_covered_of-to-requires c =
    let d = c.end_on_air_of-aired.ensures in record {
      form = d.shows.form;
      all = cover-playable c.args.conn c.args.m.now d c.requires.all;
      m_in_bounds = omega
          (arith, c.requires.m_in_bounds, cover-room c.args.conn c.args.m.now d);
    }

pub end_waiting_of-requires : goal.end_waiting_of-requires
end_waiting_of-requires c =
    let h = wait-room c.args.conn c.args.m.now c.end_on_air_of-aired.ensures c.end_covered_of-to.ensures in
    record {
      form = c.end_covered_of-to.ensures.shows.form;
      conn_bound = c.requires.conn_bound;
      m_in_bounds = omega
          (arith, c.requires.m_in_bounds, h);
    }

pub returns : goal.returns
returns c =
    let h = wait-room c.args.conn c.args.m.now c.end_on_air_of-aired.ensures c.end_covered_of-to.ensures in
    closed c.args.conn c.args.m.now c.end_on_air_of-aired.ensures c.end_covered_of-to.ensures
    (omega (arith, c.requires.m_in_bounds, h))
    c.end_waiting_of.ensures

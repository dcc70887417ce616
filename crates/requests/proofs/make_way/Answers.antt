-- One that has the start ends with its followers (`way-over`); where none has it nothing is done (`way-free`).
-- Rests on what `end_waiting` and one search promise.
use native.Mathlib.Omega.{arith}
use Rattle.rules.proofs.Sound.{few-wait}
use Rattle.ends.proofs.Followers.{ordered-now}
use Rattle.requests.proofs.Laws.{way-free, way-taken, way-over, way-sorted}
use Rattle.requests.proofs.make_way.Goals as goal

pub end_waiting-to-requires : goal.end_waiting-to-requires
end_waiting-to-requires c =
    let i = way-taken c.args.t.0 c.args.m.now c.requires.at_value c.requires.taken_value c.if-spot.true c.requires.holding in
    record {
      form = c.requires.form;
      at_in_bounds = omega (arith, i);
      ordered = ordered-now _ _ c.requires.holding;
      m_in_bounds = omega
          (arith, few-wait c.requires.holding, c.requires.in_bounds);
    }

pub find_start-i-requires : goal.find_start-i-requires
find_start-i-requires c =
    let d = c.end_waiting-to.ensures in
    let sorted = way-sorted c.args.t.0 c.args.m.now c.requires.at_value c.requires.taken_value c.if-spot.true c.requires.holding
    d in
    record { form = d.shows.form; sorted = sorted }

pub returns-then-spot : goal.returns-then-spot
returns-then-spot c =
    way-over c.args.t.0 c.args.m.now c.requires.at_value c.requires.taken_value c.if-spot.true c.requires.holding
    c.end_waiting-to.ensures c.find_start-i.ensures

pub returns : goal.returns
returns c =
    way-free c.args.t.0 c.args.m.now c.requires.at_value c.requires.taken_value c.if-spot.false c.requires.form

-- In order of start, and with none before t, the first is the only one that can start at t (`start-turns`, `start-later`).
use mathlib.Core.Path.{sym, ◌∙◌}
use Prim.Native.Nat.{◌<◌}
use native.Mathlib.Omega.{arith}
use lib.ListN.{length}
use Rattle.memory.specs.Memory.{see}
use Rattle.instants.proofs.Starts.{start_none, start-later, start-room, start-playable, start-ordered, start-placed, start-turns}
use Rattle.instants.proofs.start_at.Goals as goal

pub returns-then-count-eq0 : goal.returns-then-count-eq0
returns-then-count-eq0 c =
    start_none c.args.t.0 c.requires.form (sym c.if-count-eq0.true ∙ c.count.ensures)

pub launch-requires : goal.launch-requires
launch-requires c =
    let left = c.remove in
    let x = c.load-x in
    let m = see c.args.m.now in
    let h : 0 < length m.queue.waiting = omega (arith, c.if-count-eq0.false, c.count.ensures) in record {
      form = left.ensures.form;
      placed = (
        start-placed m x.result h x.ensures.is c.if-x-t.true left.ensures c.requires.placed,
        x.ensures.narrow,
      );
      all = start-playable m x.result h x.ensures.is c.if-x-t.true left.ensures c.requires.all;
      ordered
          = start-ordered m x.result h x.ensures.is c.if-x-t.true left.ensures c.requires.meets.ordered;
      m_in_bounds = omega
          (arith, c.requires.m_in_bounds, start-room m x.result h x.ensures.is c.if-x-t.true left.ensures);
    }

pub returns-then-x-t : goal.returns-then-x-t
returns-then-x-t c =
    let left = c.remove in
    let x = c.load-x in
    let m = see c.args.m.now in
    let h : 0 < length m.queue.waiting = omega (arith, c.if-count-eq0.false, c.count.ensures) in
    start-turns m x.result h x.ensures.is c.if-x-t.true left.ensures c.launch.ensures

pub returns-else-x-t : goal.returns-else-x-t
returns-else-x-t c =
    let x = c.load-x in
    let h : 0 < length (see c.args.m.now).queue.waiting = omega (arith, c.if-count-eq0.false, c.count.ensures) in
    start-later c.args.t.0 c.requires.form x.result h x.ensures.is c.if-x-t.false c.requires.meets

-- Nothing is on air, or the first of the started, which has the AccessType (`ousted-equal`) or another (`ousted-other`).
use mathlib.Core.Path.{sym}
use Prim.Native.Nat.{◌<◌}
use lib.ListN.{length}
use Rattle.memory.specs.Memory.{see}
use Rattle.instants.proofs.Starts.{ousted-none, ousted-other, ousted-equal}
use Rattle.memory.proofs.Laws.{quiet_none, quiet-some}
use Rattle.instants.proofs.oust.Goals as goal

pub returns-then-is_quiet : goal.returns-then-is_quiet
returns-then-is_quiet c =
    ousted-none c.args.x c.args.m.now c.requires.form (sym (quiet_none c.is_quiet.ensures c.if-is_quiet.true))

pub load-air-requires : goal.load-air-requires
load-air-requires c =
    record { form = c.requires.form; at_in_bounds = quiet-some c.is_quiet.ensures c.if-is_quiet.false }

pub end_started-requires : goal.end_started-requires
end_started-requires c =
    record {
      form = c.requires.form;
      at_in_bounds = quiet-some c.is_quiet.ensures c.if-is_quiet.false;
      all = c.requires.all;
      ordered
          = c.requires.ordered;
      m_in_bounds = c.requires.m_in_bounds;
    }

pub returns-then-air-x : goal.returns-then-air-x
returns-then-air-x c =
    let air = c.load-air in
    let h : 0 < length (see c.args.m.now).queue.started = quiet-some c.is_quiet.ensures c.if-is_quiet.false in
    let equal = c.if-air-x.true in
    ousted-equal c.args.x c.args.m.now air.result h air.ensures.is equal c.end_started.ensures

pub returns : goal.returns
returns c =
    let air = c.load-air in
    let h : 0 < length (see c.args.m.now).queue.started = quiet-some c.is_quiet.ensures c.if-is_quiet.false in
    ousted-other c.args.x c.args.m.now air.result h air.ensures.is c.requires.form c.if-air-x.false

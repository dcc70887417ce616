-- The first of the started is on air (`air-none`, `air-some`).
use mathlib.Core.Path.{sym, ap, ◌∙◌}
use Prim.Native.Nat.{◌<◌}
use lib.ListN.{length}
use Rattle.rules.specs.declared.Session.{Session}
use Rattle.memory.specs.Memory.{see}
use Rattle.answers.proofs.Laws.{air-none, air-some, alive-says}
use Rattle.memory.proofs.Laws.{quiet_none, quiet-some}
use Rattle.answers.proofs.answer_alive.Goals as goal

pub returns-then-is_quiet : goal.returns-then-is_quiet
returns-then-is_quiet c =
    let none = quiet_none c.is_quiet.ensures c.if-is_quiet.true in
    let air = air-none (see c.args.m.now).queue.started none in
    alive-says c.args.m.now c.args.b.now c.args.conn air c.clock.ensures
    c.to_micros-time.ensures c.alive_response.ensures

pub load-air-requires : goal.load-air-requires
load-air-requires c =
    let h : 0 < length (see c.args.m.now).queue.started = quiet-some c.is_quiet.ensures c.if-is_quiet.false in
    record {
      form = c.requires.whole.words;
      at_in_bounds = h;
    }

pub returns : goal.returns
returns c =
    let air = air-some (see c.args.m.now).queue.started
    (quiet-some c.is_quiet.ensures c.if-is_quiet.false) in
    let id = air.1 ∙ ap (λ (x : Session). x.id) (sym c.load-air.ensures.is) in
    alive-says c.args.m.now c.args.b.now c.args.conn (air.0, id) c.clock.ensures
    c.to_micros-time.ensures c.alive_response-2.ensures

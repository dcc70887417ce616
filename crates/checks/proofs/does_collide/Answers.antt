-- The one with the same start is the only one, and stands at the place (`taken-within`).
use Rattle.std.proofs.Common.{◌∙◌}
use Rattle.memory.specs.Memory.{see}
use Rattle.checks.proofs.Laws.{taken-within, collides-none, collides-at}
use Rattle.checks.proofs.does_collide.Goals as goal

pub load-requires : goal.load-requires
load-requires c =
    record {
      form = c.requires.form;
      at_in_bounds = taken-within c.args.new.start.0 (see c.args.m.now).queue.waiting c.requires.sorted c.requires.at_value
          c.requires.taken_value c.if-spot.true;
    }

pub returns-then-spot : goal.returns-then-spot
returns-then-spot c =
    collides-at c.args.new (see c.args.m.now).queue.waiting c.requires.taken_value c.requires.sorted c.requires.at_value
    c.if-spot.true c.load.ensures.is c.outranks.ensures

pub returns-else-spot : goal.returns-else-spot
returns-else-spot c =
    c.if-spot.false
    ∙ collides-none c.args.new (see c.args.m.now).queue.waiting c.requires.taken_value c.if-spot.false

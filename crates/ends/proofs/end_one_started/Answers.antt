-- The session is read, taken out, and its end kept and written (`one_ended_lem`).
-- Rests on what `write_end` and memory promise.
use mathlib.Core.Path.{sym, subst}
use Rattle.memory.specs.declared.Which.TheVariants.{Started}
use Rattle.ends.specs.Does.{Writable}
use Rattle.ends.proofs.Laws.{one_ended_lem}
use Rattle.ends.proofs.end_one_started.Goals as goal

pub write_end-requires : goal.write_end-requires
write_end-requires c =
    record {
      form = c.remove.ensures.form;
      writable = subst (Writable c.args.how) (sym c.load-x.ensures.is) c.requires.writable;
      room_for_in_bounds = c.requires.room_for_in_bounds;
    }

pub returns : goal.returns
returns c =
    one_ended_lem Started c.args.m.now c.args.at c.args.how c.load-x.ensures.is c.remove.ensures
    c.write_end.ensures

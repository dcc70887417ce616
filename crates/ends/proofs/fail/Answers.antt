-- Its own end, and then those that follow it (`fails`).
-- Rests on what `write_end` and `dismiss` promise.
use native.Mathlib.Omega.{arith}
use mathlib.Core.Path.{ap}
use lib.ListN.{length}
use Rattle.rules.specs.declared.Ending.TheVariants.{Failed}
use Rattle.memory.specs.Memory.{Memory}
use Rattle.ends.proofs.Laws.{told-one, fails}
use Rattle.ends.proofs.Followers.{kept-ordered}
use Rattle.ends.proofs.fail.Goals as goal

pub write_end-to-requires : goal.write_end-to-requires
write_end-to-requires c =
    record { form = c.requires.form; writable = tt; room_for_in_bounds = omega (arith, c.requires.m_in_bounds) }

pub dismiss-requires : goal.dismiss-requires
dismiss-requires c =
    let d = c.write_end-to.ensures in record {
      form = d.shows.form;
      ordered = kept-ordered c.write_end-to.new.m d.shows.is
          c.requires.ordered;
      m_in_bounds = omega (
        arith,
        c.requires.m_in_bounds,
        told-one Failed c.args.x d.tells,
        ap (λ (z : Memory). length z.queue.waiting) d.shows.is,
      );
    }

pub returns : goal.returns
returns c =
    fails c.args.x c.args.m.now (omega (arith, c.requires.m_in_bounds)) c.write_end-to.ensures c.dismiss.ensures

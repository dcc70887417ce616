-- The session is read, taken out, its end kept and written (`one_ended_lem`), and behind it those of the ones that follow its number
-- (`chain-turns`).
-- Rests on what `write_end`, `dismiss` and memory promise.
use native.Mathlib.Omega.{arith}
use borrow.Author.Rules.{rules}
use mathlib.Core.Path.{ap}
use Rattle.rules.specs.declared.Session.{Session}
use Rattle.rules.specs.declared.Ending.TheVariants.{Response}
use Rattle.rules.proofs.Count.{length-remove_at}
use Rattle.memory.specs.declared.Which.TheVariants.{Waiting}
use Rattle.memory.specs.Memory.{see}
use Rattle.ends.proofs.Laws.{one_ended_lem, chain-room, chain-turns}
use Rattle.ends.proofs.Followers.{ended-ordered}
use Rattle.ends.proofs.end_waiting.Goals as goal

pub write_end-to-requires : goal.write_end-to-requires
write_end-to-requires c =
    record {
      form = c.remove.ensures.form;
      writable = tt;
      room_for_in_bounds = omega
          (arith, c.requires.at_in_bounds, c.requires.m_in_bounds);
    }

pub dismiss-requires : goal.dismiss-requires
dismiss-requires c =
    let a = c.args in
    let how = Response a.res in
    let gone = length-remove_at a.at (see a.m.now).queue.waiting c.requires.at_in_bounds in
    let d = one_ended_lem Waiting a.m.now a.at how c.load-x.ensures.is c.remove.ensures c.write_end-to.ensures in record {
      form = d.shows.form;
      ordered = ended-ordered a.at how a.m.now d c.requires.ordered;
      m_in_bounds = chain-room Waiting a.at how
          a.m.now d (omega (arith, c.requires.m_in_bounds, gone)) (search rules);
    }

pub returns : goal.returns
returns c =
    let a = c.args in
    let how = Response a.res in
    let d = one_ended_lem Waiting a.m.now a.at how c.load-x.ensures.is c.remove.ensures c.write_end-to.ensures in
    chain-turns Waiting a.at how a.m.now d a.res (ap (λ (x : Session). x.conn) c.load-x.ensures.is)
    (ap (λ (x : Session). x.id) c.load-x.ensures.is) (omega (arith, c.requires.at_in_bounds, c.requires.m_in_bounds)) c.dismiss.ensures

-- The session's end, and behind it those of the ones that follow its number (`chain-turns`).
-- Rests on what `ending_at`, `end_one_started` and `dismiss` promise.
use native.Mathlib.Omega.{arith}
use borrow.Author.Rules.{rules}
use Rattle.rules.specs.State.{empty}
use Rattle.rules.proofs.Every.{all_get_d}
use Rattle.memory.specs.declared.Which.TheVariants.{Started}
use Rattle.memory.specs.Memory.{see}
use Rattle.ends.specs.Does.{Playable}
use Rattle.ends.proofs.Laws.{writable, chain-room, chain-turns}
use Rattle.ends.proofs.Followers.{started-ordered}
use Rattle.ends.proofs.end_started.Goals as goal

pub end_one_started-to-requires : goal.end_one_started-to-requires
end_one_started-to-requires c =
    let p = all_get_d Playable (see c.args.m.now).queue.started c.args.at empty c.requires.at_in_bounds c.requires.all in
    record {
      form = c.requires.form;
      at_in_bounds = c.requires.at_in_bounds;
      writable = writable c.ending_at-how.result _ p;
      room_for_in_bounds = omega (arith, c.requires.m_in_bounds);
    }

pub dismiss-requires : goal.dismiss-requires
dismiss-requires c =
    let a = c.args in
    let how = c.ending_at-how.result in
    let d = c.end_one_started-to.ensures in record {
      form = d.shows.form;
      ordered = started-ordered a.at how a.m.now d c.requires.ordered;
      m_in_bounds = chain-room Started a.at how
          a.m.now d c.requires.m_in_bounds (search rules);
    }

pub returns : goal.returns
returns c =
    let a = c.args in
    rw (← c.ending_at-how.ensures) (
    chain-turns Started a.at c.ending_at-how.result a.m.now c.end_one_started-to.ensures a.res c.conn_at-conn.ensures
    c.id_at-id.ensures (omega (arith, c.requires.m_in_bounds)) c.dismiss.ensures
    )

-- One row more behind those that are written (`one-listed`).
use mathlib.Core.Path.{refl}
use Rattle.engine.proofs.Listed.{none-listed, one-listed}
use borrow.Author.Rules.{rules}
use Rattle.engine.proofs.list_sessions.Goals as goal

pub loop-i-init : goal.loop-i-init
loop-i-init c = record { long = refl; listed = none-listed c.args.which c.args.n c.args.m.now c.args.rows.now }

pub loop-i-preserved : goal.loop-i-preserved
loop-i-preserved c =
    record {
      long = search rules;
      listed = one-listed c.args.which c.args.n c.args.m.now c.args.rows.now c.requires c.loop-i.i c.loop-i-test.true c.loop-i.rows
          c.put_session.new.row c.state_of.result c.load-s.result c.loop-i.invariant.listed c.state_of.ensures.value c.load-s.ensures.is
          c.put_session.ensures;
    }

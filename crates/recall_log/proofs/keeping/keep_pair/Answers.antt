-- The mark and the zero behind it are written in one.
use native.Mathlib.Omega.{arith}
use Rattle.recall_log.proofs.Puts.{pair-put}
use Rattle.recall_log.proofs.keeping.keep_pair.Goals as goal

pub returns : goal.returns
returns c =
    pair-put c.args.mark c.args.conn c.args.l.now c.put_mark.new.l c.put_zero.new.l c.args.at (omega (arith, c.requires.room))
    c.put_mark.ensures c.put_zero.ensures

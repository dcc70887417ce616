-- The words written from the first of row i on are that row (`store_all`). Rests on what the three words of a phase are.
use Rattle.recall_rows.proofs.Rows.{store_all}
use Rattle.recall_rows.proofs.store.Goals as goal

pub returns : goal.returns
returns c = rw c.words_of-code.ensures (store_all c.args.i c.args.m.now c.args.v c.requires)

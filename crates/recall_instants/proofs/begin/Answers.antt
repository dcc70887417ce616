-- Its row is stored, and its one record written behind the last (`tells-part`). Rests on what recall_rows and writing promise.
use native.Mathlib.Omega.{arith}
use Rattle.recall_ends.proofs.Laws.{tells-part}
use Rattle.recall_instants.proofs.Starts.{length-began}
use borrow.Author.Rules.{rules}
use Rattle.recall_instants.proofs.begin.Goals as goal

pub splice_complete-requires : goal.splice_complete-requires
splice_complete-requires c =
    let n = length-began c.args.x in
    search (rules, n)

pub returns : goal.returns
returns c = record { holds = c.store.ensures; tells = tells-part (omega (arith, c.requires.room)) c.splice_complete.ensures }

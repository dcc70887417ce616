-- A SpliceComplete (`write_complete`), or a Splice_Response written behind the last record (`tells-part`).
-- Rests on what `write_complete` and writing promise.
use native.Mathlib.Omega.{arith}
use mathlib.Core.Path.{◌≡◌}
use mathlib.Core.List.{[], ◌∷◌}
use lib.ListN.{length}
use Rattle.rules.specs.Records.{output}
use Rattle.rules.specs.Ends.{ended}
use Rattle.recall_ends.proofs.Laws.{completing, length-response, tells-part}
use borrow.Author.Rules.{rules}
use Rattle.recall_ends.proofs.write_end.Goals as goal

pub write_complete-requires : goal.write_complete-requires
write_complete-requires c =
    record { completing = completing c.args.how c.in_default.not-Response; x_in_bounds = c.requires }

pub splice_response-requires : goal.splice_response-requires
splice_response-requires c =
    let n = length-response c.in-Response.result c.args.x in
    let h : length (output (ended c.args.how c.args.x ∷ [])) ≡ 14 = rw c.in-Response.is n in
    search (rules, h)

pub returns : goal.returns
returns c =
    rw c.in-Response.is
    (tells-part (omega (arith, c.requires)) c.splice_response.ensures)

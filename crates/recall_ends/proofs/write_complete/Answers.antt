-- Either variant leaves the numbers of its one record (`came`), which is written behind the last (`tells-part`).
-- Rests on what units and writing promise.
use mathlib.Core.Path.{◌≡◌, refl}
use native.Mathlib.Omega.{arith}
use Rattle.rules.specs.Records.{SpliceComplete, record_bytes}
use Rattle.rules.specs.Ends.{ended}
use Rattle.recall_ends.proofs.Laws.{failing, complete-bytes, length-complete, tells-same, tells-part}
use borrow.Author.Rules.{rules}
use Rattle.recall_ends.proofs.write_complete.Goals as goal
use Rattle.recall_ends.proofs.write_complete.Goals.{in-Complete, in_default}

pub splice_complete-requires : goal.splice_complete-requires
splice_complete-requires c =
    let n = length-complete c.args.how c.args.x c.requires.completing in
    search (rules, n)

pub returns : goal.returns
returns c =
    let x = c.args.x in
    let k = c.match-how in
    let q : record_bytes (SpliceComplete x.conn k.result.0 x.id k.result.1 k.result.2.0) ≡ record_bytes (ended c.args.how x) =
    elim k.branch [
      | in-Complete w ↦ rw (w.result-is, w.to_ticks.ensures, w.in-Complete.is) (complete-bytes x.conn _ x.id 1 x.played.0)
      | in_default w ↦ rw (w.result-is, failing c.args.how c.requires.completing w.in_default.not-Complete) refl
    ] in
    tells-same q (tells-part (omega (arith, c.requires.x_in_bounds)) c.splice_complete.ensures)

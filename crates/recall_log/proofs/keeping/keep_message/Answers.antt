-- The mark, the message behind it, and the zero: each goes directly behind the last.
use mathlib.Core.Path.{sym}
use mathlib.Core.List.{[], ◌∷◌}
use Prim.Native.Nat.{◌+◌}
use native.Mathlib.Omega.{arith}
use lib.Seq.{length-take-le}
use Rattle.rules.specs.Bytes.{part}
use Rattle.rules.specs.Calls.{messages}
use Rattle.rules.specs.Card.{card_loans, message_mark, mark_end}
use Rattle.rules.proofs.Written.{written_next}
use Rattle.recall_log.specs.Kept.{marked}
use Rattle.recall_log.proofs.Puts.{record-put}
use Rattle.recall_log.proofs.keeping.keep_message.Goals as goal

pub slice_bounds-copy-end-2 : goal.slice_bounds-copy-end-2
slice_bounds-copy-end-2 c =
    sym (length-take-le (8 + c.args.size) c.args.read.now c.requires.size_in_bounds)

pub copy-requires : goal.copy-requires
copy-requires c =
    let n = length-take-le (8 + c.args.size) c.args.read.now c.requires.size_in_bounds in
    omega (arith, c.requires.behind.room)

pub returns : goal.returns
unfolding marked
returns c =
    let e = c.args.l.now in
    let at = c.args.at in
    let mark = c.put_mark in
    let copy = c.copy in
    let zero = c.put_zero in
    let m = part 0 (8 + c.args.size) c.args.read.now in
    let n = length-take-le (8 + c.args.size) c.args.read.now c.requires.size_in_bounds in
    let o = written_next e at (message_mark ∷ c.args.conn ∷ []) m mark.new.l copy.new.out (at + mark_end) mark.ensures
    (omega arith) (omega (arith, c.requires.behind.room)) copy.ensures in
    record-put (messages c.args.conn m card_loans) e _ zero.new.l at (at + mark_end + (8 + c.args.size)) c.requires.behind (omega arith)
    (omega arith) o zero.ensures

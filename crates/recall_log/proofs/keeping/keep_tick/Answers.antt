-- The mark, Seconds, MicroSeconds behind them, and the zero: each goes directly behind the last.
use mathlib.Core.List.{[], ◌∷◌, ◌++◌}
use Prim.Native.Nat.{◌+◌}
use native.Mathlib.Omega.{arith}
use lib.ListN.{length-append}
use Rattle.rules.specs.Bytes.{bytes}
use Rattle.rules.specs.Calls.{ticks}
use Rattle.rules.specs.Card.{card_room, tick_mark, mark_end, tick_end}
use Rattle.rules.proofs.Bytes.{length-bytes}
use Rattle.rules.proofs.Written.{written_next}
use Rattle.recall_log.specs.Kept.{marked}
use Rattle.recall_log.proofs.Puts.{record-put}
use Rattle.recall_log.proofs.keeping.keep_tick.Goals as goal

pub returns : goal.returns
unfolding marked
returns c =
    let e = c.args.l.now in
    let at = c.args.at in
    let mark = c.put_mark in
    let first = c.put4 in
    let then = c.put4-2 in
    let zero = c.put_zero in
    let a = bytes 4 c.args.seconds in
    let b = bytes 4 c.args.micros in
    let n = length-bytes 4 c.args.seconds in
    let k = length-bytes 4 c.args.micros in
    let o = written_next e at (tick_mark ∷ 0x00 ∷ []) a mark.new.l first.new.out (at + mark_end) mark.ensures (omega arith)
    (omega (arith, c.requires.room)) first.ensures in
    let p = written_next e at ((tick_mark ∷ 0x00 ∷ []) ++ a) b _ then.new.out (at + mark_end + 4) o (omega arith)
    (omega (arith, c.requires.room)) then.ensures in
    record-put (ticks c.args.seconds c.args.micros card_room) e _ zero.new.l at (at + tick_end) c.requires
    (omega (arith, length-append a b)) (omega (arith, length-append a b)) p zero.ensures

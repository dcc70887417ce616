-- A refusal is two bytes; what a good call wrote stands there already.
-- Rests on `house_number`, the table of house numbers.
use mathlib.Core.Path.{sym}
use native.Mathlib.Omega.{arith}
use Rattle.rules.proofs.Written.{written_none}
use Rattle.feed.specs.Play.{untold, told_length}
use Rattle.feed.proofs.Plays.{tells-refused}
use Rattle.feed.proofs.playing.tell.Goals as goal

pub returns-in-Err : goal.returns-in-Err
returns-in-Err c =
    rw c.copy_from_slice.ensures.after (tells-refused c.args.out.now c.house_number.result c.in-Err.is c.house_number.ensures (omega arith))

pub returns-in-Ok : goal.returns-in-Ok
unfolding untold told_length
returns-in-Ok c =
    let e = c.args.out.now in
    let a = c.in-Ok.is in
    record { count = rw a; bytes = rw a (sym (written_none e 0)) }

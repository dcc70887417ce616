-- Each word in turn; the stores, one behind the other, are the row (`sets-eq`). No sum is over 64 bits, since each number is as narrow as
-- its half of a word.
use native.Mathlib.Omega.{arith}
use lib.ListN.{length-set}
use lib.Seq.{sets-eq}
use Rattle.rules.specs.Bytes.{written}
use Rattle.rules.specs.Listing.{session_row}
use borrow.Author.Rules.{rules}
use Rattle.engine.proofs.put_session.Goals as goal

pub bounds-row-1 : goal.bounds-row-1
bounds-row-1 c = simp length-set (omega (arith, c.requires.row_width_in_bounds))

pub bounds-row-2 : goal.bounds-row-2
bounds-row-2 c = simp length-set (omega (arith, c.requires.row_width_in_bounds))

pub bounds-row-3 : goal.bounds-row-3
bounds-row-3 c =
    simp length-set (omega (arith, c.requires.row_width_in_bounds))

pub bounds-row-4 : goal.bounds-row-4
bounds-row-4 c =
    simp length-set (omega (arith, c.requires.row_width_in_bounds))

pub bounds-row-5 : goal.bounds-row-5
bounds-row-5 c =
    simp length-set (omega (arith, c.requires.row_width_in_bounds))

pub bounds-row-6 : goal.bounds-row-6
bounds-row-6 c =
    simp length-set (omega (arith, c.requires.row_width_in_bounds))

pub returns : goal.returns
unfolding written session_row
returns c =
    sets-eq (session_row c.args.state c.args.s) c.args.row.now 0 (omega (arith, c.requires.row_width_in_bounds))

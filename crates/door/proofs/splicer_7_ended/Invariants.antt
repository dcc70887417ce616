-- The page: each turn calls `row_at` and stores one row, so that the first i rows are filled.
use Rattle.std.proofs.Common.{◌≡◌}
use Rattle.rows.specs.Rows.{row_at, filled}
use Rattle.door.proofs.splicer_7_ended.Given as goal

abbrev pub invariant-loop-i : goal.invariant-loop-i
invariant-loop-i l = l.page ≡ filled l.i (row_at l.ended) l.initial.page

-- model/scenarios/01-card-oversize-closed.txt, made by tools/cases.sh. Line numbers are that file's.
-- Document 01, "The card program": a header with MessageSize above 4,088, connection closed.
-- Shows: the refusal is the first of the call's order (1, 2, 7, 5, 4), here 7; it stops all
-- the same, so the second refusal 7 (close 1) isn't written.
use Rattle.std.specs.Prelude.{List, [], ◌∷◌}
use Rattle.cases.specs.Scenario.{Row, row, Holds, holds}
use Rattle.cases.specs.Computing.{computing}

unfoldable pub rows : List Row
rows =
    row 5 "> raw 4D 01 0005 0FF9 FFFF FFFF 43 01" "4D01 0005 0FF9 FFFF FFFF 4301" "4507"
    ∷ []

pub same : Holds rows
unfolding rows computing
same = holds rows (tt, tt)

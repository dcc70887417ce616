-- model/scenarios/01-card-oversize-no-connection.txt, made by tools/cases.sh. Line numbers are that file's.
-- Document 01, "The card program": a header with MessageSize above 4,088, connection 9.
-- Shows: refusal 1, and it stops.
use Rattle.std.specs.Prelude.{List, [], ◌∷◌}
use Rattle.cases.specs.Scenario.{Row, row, Holds, holds}
use Rattle.cases.specs.Computing.{computing}

unfoldable pub rows : List Row
rows =
    row 4 "> raw 4D 09 0005 0FF9 FFFF FFFF 43 01" "4D09 0005 0FF9 FFFF FFFF 4301" "4501"
    ∷ []

pub same : Holds rows
unfolding rows computing
same = holds rows (tt, tt)

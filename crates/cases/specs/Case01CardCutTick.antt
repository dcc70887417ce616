-- model/scenarios/01-card-cut-tick.txt, made by tools/cases.sh. Line numbers are that file's.
-- Document 01, "The card program": it stops at a cut record.
-- Shows: a tick of nine bytes instead of ten moves nothing: the start at 1003 s isn't written.
use Rattle.std.specs.Prelude.{List, [], ◌∷◌}
use Prim.Native.String.{◌++◌}
use Rattle.cases.specs.Scenario.{Row, row, Holds, holds}
use Rattle.cases.specs.Computing.{computing}

unfoldable pub rows : List Row
rows =
    row 4 "> open 0" "4F00" ""
    ∷ row 5 "> init 0"
    ("4D00 0001 004C FFFF FFFF 0002 4348310000000000000000000000000000000000000000000000000000000000"
    ++ "53504C4943455200000000000000000000000000000000000000000000000000 0008 00010001 00010000")
    "5200 0002 0022 0064 FFFF 0002 4348310000000000000000000000000000000000000000000000000000000000"
    ∷ row 7 "> tick 1000" "5400 000003E8 00000000" ""
    ∷ row 8 "> splice 0 id=1 at=1003 duration=900000"
    "4D00 0007 0021 FFFF FFFF 00000001 FFFFFFFF 000003EB 00000000 0001 000DBBA0 FFFFFFFF 00000000 00 00 01"
    "5200 0008 0004 0064 FFFF 00000001"
    ∷ row 11 "> raw 54 00 000003EB 000000" "5400 000003EB 000000" ""
    ∷ []

pub same : Holds rows
unfolding rows computing
same = holds rows (tt, tt)

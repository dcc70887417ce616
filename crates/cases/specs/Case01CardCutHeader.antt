-- model/scenarios/01-card-cut-header.txt, made by tools/cases.sh. Line numbers are that file's.
-- Document 01, "The card program": it stops at a cut record.
-- Shows: a header cut before its eighth byte is no call, though it already says 0x0FF9.
use Rattle.std.specs.Prelude.{List, [], ◌∷◌}
use Prim.Native.String.{◌++◌}
use Rattle.cases.specs.Scenario.{Row, row, Holds, holds}
use Rattle.cases.specs.Computing.{computing}

unfoldable pub rows : List Row
rows =
    row 4 "> open 0" "4F00" ""
    ∷ row 5 "> init 0"
    ("4D00 0001 004C FFFF FFFF 0002 4348310000000000000000000000000000000000000000000000000000000000"
    ++ "53504C4943455200000000000000000000000000000000000000000000000000 0008 00010001 00010000")
    "5200 0002 0022 0064 FFFF 0002 4348310000000000000000000000000000000000000000000000000000000000"
    ∷ row 7 "> raw 4D 00 0005 0FF9 FFFF FF" "4D00 0005 0FF9 FFFF FF" ""
    ∷ []

pub same : Holds rows
unfolding rows computing
same = holds rows (tt, tt)

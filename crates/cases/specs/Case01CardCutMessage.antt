-- model/scenarios/01-card-cut-message.txt, made by tools/cases.sh. Line numbers are that file's.
-- Document 01, "The card program": it stops at a cut record.
-- Shows: a message cut in its data writes nothing, no refusal either, and is not handled.
use Rattle.std.specs.Prelude.{List, [], ◌∷◌}
use Prim.Native.String.{◌++◌}
use Rattle.cases.specs.Scenario.{Row, row, Holds, holds}
use Rattle.cases.specs.Computing.{computing}

unfoldable pub rows : List Row
rows =
    row 4 "> open 0" "4F00" ""
    ∷ row 5 "> init 0"
    ("4D00 0001 004C FFFF FFFF 0002 4348310000000000000000000000000000000000000000000000000000000000"
    ++ "53504C4943455200000000000000000000000000000000000000000000000000 0008 00010001 00010000")
    "5200 0002 0022 0064 FFFF 0002 4348310000000000000000000000000000000000000000000000000000000000"
    ∷ row 8 "> raw 4D 00 0005 0008 FFFF FFFF 00000000" "4D00 0005 0008 FFFF FFFF 00000000" ""
    ∷ []

pub same : Holds rows
unfolding rows computing
same = holds rows (tt, tt)

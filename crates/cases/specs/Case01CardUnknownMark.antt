-- model/scenarios/01-card-unknown-mark.txt, made by tools/cases.sh. Line numbers are that file's.
-- Document 01, "The card program": it stops at another mark.
-- Shows: behind an unknown mark (0x58) nothing is read; the two closes of connection 1
-- would write refusal 7 twice.
use Rattle.std.specs.Prelude.{List, [], ◌∷◌}
use Prim.Native.String.{◌++◌}
use Rattle.cases.specs.Scenario.{Row, row, Holds, holds}
use Rattle.cases.specs.Computing.{computing}

unfoldable pub rows : List Row
rows =
    row 5 "> open 0" "4F00" ""
    ∷ row 6 "> init 0"
    ("4D00 0001 004C FFFF FFFF 0002 4348310000000000000000000000000000000000000000000000000000000000"
    ++ "53504C4943455200000000000000000000000000000000000000000000000000 0008 00010001 00010000")
    "5200 0002 0022 0064 FFFF 0002 4348310000000000000000000000000000000000000000000000000000000000"
    ∷ row 8 "> tick 1000" "5400 000003E8 00000000" ""
    ∷ row 9 "> raw 58 00 43 01 43 01" "58004301 4301" ""
    ∷ []

pub same : Holds rows
unfolding rows computing
same = holds rows (tt, tt)

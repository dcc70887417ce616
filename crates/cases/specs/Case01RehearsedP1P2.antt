-- model/scenarios/01-rehearsed-P1-P2.txt, made by tools/cases.sh. Line numbers are that file's.
-- Document 01, rehearsed situations P1 and P2: clock 1,000 s, connection 0 initialised.
-- Shows: a start of 1,003 s is 100, one of 1,002 s 999,999 us is 112.
use Rattle.std.specs.Prelude.{List, [], ◌∷◌}
use Prim.Native.String.{◌++◌}
use Rattle.cases.specs.Scenario.{Row, row, Holds, holds}
use Rattle.cases.specs.Computing.{computing}

unfoldable pub rows : List Row
rows =
    row 4 "> open 0" "4F00" ""
    ∷ row 5 "> init 0"
    ("4D00 0001 004C FFFF FFFF 0002 4348310000000000000000000000000000000000000000000000000000000000"
    ++ "53504C4943455200000000000000000000000000000000000000000000000000 0008 00010001 00010000")
    "5200 0002 0022 0064 FFFF 0002 4348310000000000000000000000000000000000000000000000000000000000"
    ∷ row 7 "> tick 1000" "5400 000003E8 00000000" ""
    ∷ row 9 "> splice 0 id=2 at=1002.999999 duration=900000"
    "4D00 0007 0021 FFFF FFFF 00000002 FFFFFFFF 000003EA 000F423F 0001 000DBBA0 FFFFFFFF 00000000 00 00 01"
    "5200 0008 0004 0070 FFFF 00000002"
    ∷ row 12 "> splice 0 id=1 at=1003 duration=900000"
    "4D00 0007 0021 FFFF FFFF 00000001 FFFFFFFF 000003EB 00000000 0001 000DBBA0 FFFFFFFF 00000000 00 00 01"
    "5200 0008 0004 0064 FFFF 00000001"
    ∷ row 15 "> abort 0 id=2" "4D00 000E 0004 FFFF FFFF 00000002" "5200 000F 0004 0079 FFFF 00000002"
    ∷ row 17 "> tick 1002.999999" "5400 000003EA 000F423F" ""
    ∷ row 18 "> tick 1003" "5400 000003EB 00000000" "5200 0009 000D 0064 FFFF 00000001 00 00000000 00000000"
    ∷ row 20 "> tick 1013" "5400 000003F5 00000000" "5200 0009 000D 0064 FFFF 00000001 01 00000000 000DBBA0"
    ∷ []

pub same : Holds rows
unfolding rows computing
same = holds rows (tt, tt)

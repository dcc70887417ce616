-- model/scenarios/01-rehearsed-P10.txt, made by tools/cases.sh. Line numbers are that file's.
-- Document 01, rehearsed situation P10: as P9, aborted at 1,013 s, never covered.
-- Shows: 900,000 played, since 1,013 s - 1,003 s = 10 s = 90,000,000 ninths / 100.
use Rattle.std.specs.Prelude.{List, [], ◌∷◌}
use Prim.Native.String.{◌++◌}
use Rattle.cases.specs.Scenario.{Row, row, Holds, holds}
use Rattle.cases.specs.Computing.{computing}

unfoldable pub rows : List Row
rows =
    row 4 "> open 0" "4F00" ""
    ∷ row 5 "> init 0"
    ("4D00 0001 004C FFFF FFFF 0002 4348310000000000000000000000000000000000000000000000000000000000"
    ++ "53504C4943455200000000000000000000000000000000000000000000000000 0008 00010001 00010000")
    "5200 0002 0022 0064 FFFF 0002 4348310000000000000000000000000000000000000000000000000000000000"
    ∷ row 7 "> tick 1000" "5400 000003E8 00000000" ""
    ∷ row 8 "> splice 0 id=1 at=1003 duration=2700000"
    "4D00 0007 0021 FFFF FFFF 00000001 FFFFFFFF 000003EB 00000000 0001 002932E0 FFFFFFFF 00000000 00 00 01"
    "5200 0008 0004 0064 FFFF 00000001"
    ∷ row 10 "> tick 1013" "5400 000003F5 00000000" "5200 0009 000D 0064 FFFF 00000001 00 00000000 00000000"
    ∷ row 12 "> abort 0 id=1"
    "4D00 000E 0004 FFFF FFFF 00000001"
    ("5200 000F 0004 0064 FFFF 00000001"
    ++ "5200 0009 000D 0074 FFFF 00000001 01 00000000 000DBBA0")
    ∷ row 16 "> tick 1033" "5400 00000409 00000000" ""
    ∷ []

pub same : Holds rows
unfolding rows computing
same = holds rows (tt, tt)

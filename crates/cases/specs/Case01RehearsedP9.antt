-- model/scenarios/01-rehearsed-P9.txt, made by tools/cases.sh. Line numbers are that file's.
-- Document 01, rehearsed situation P9: start 1,003 s, Duration 2,700,000.
-- Shows: the end is 1,003 x 9,000,000 + 2,700,000 x 100 = 9,027,000,000 + 270,000,000 =
-- 9,297,000,000 ninths = 1,033 s, and not a microsecond earlier.
use Rattle.std.specs.Prelude.{List, [], ◌∷◌}
use Prim.Native.String.{◌++◌}
use Rattle.cases.specs.Scenario.{Row, row, Holds, holds}
use Rattle.cases.specs.Computing.{computing}

unfoldable pub rows : List Row
rows =
    row 5 "> open 0" "4F00" ""
    ∷ row 6 "> init 0"
    ("4D00 0001 004C FFFF FFFF 0002 4348310000000000000000000000000000000000000000000000000000000000"
    ++ "53504C4943455200000000000000000000000000000000000000000000000000 0008 00010001 00010000")
    "5200 0002 0022 0064 FFFF 0002 4348310000000000000000000000000000000000000000000000000000000000"
    ∷ row 8 "> tick 1000" "5400 000003E8 00000000" ""
    ∷ row 9 "> splice 0 id=1 at=1003 duration=2700000"
    "4D00 0007 0021 FFFF FFFF 00000001 FFFFFFFF 000003EB 00000000 0001 002932E0 FFFFFFFF 00000000 00 00 01"
    "5200 0008 0004 0064 FFFF 00000001"
    ∷ row 11 "> tick 1003" "5400 000003EB 00000000" "5200 0009 000D 0064 FFFF 00000001 00 00000000 00000000"
    ∷ row 13 "> tick 1032.999999" "5400 00000408 000F423F" ""
    ∷ row 14 "> alive 0"
    "4D00 0005 0008 FFFF FFFF 00000000 00000000"
    "5200 0006 0010 0064 FFFF 00000002 00000001 00000408 000F423F"
    ∷ row 16 "> tick 1033" "5400 00000409 00000000" "5200 0009 000D 0064 FFFF 00000001 01 00000000 002932E0"
    ∷ []

pub same : Holds rows
unfolding rows computing
same = holds rows (tt, tt)

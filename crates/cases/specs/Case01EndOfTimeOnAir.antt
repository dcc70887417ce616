-- model/scenarios/01-end-of-time-on-air.txt, made by tools/cases.sh. Line numbers are that file's.
-- Document 01, the last seconds of the clock: a session on air that no tick can end.
-- Shows: its PlayedDuration at the abort; its follower, which never could start, ends too.
use Rattle.std.specs.Prelude.{List, [], ◌∷◌}
use Prim.Native.String.{◌++◌}
use Rattle.cases.specs.Scenario.{Row, row, Holds, holds}
use Rattle.cases.specs.Computing.{computing}

unfoldable pub rows : List Row
rows =
    row 4 "> open 0" "4F00" ""
    ∷ row 5 "> init 0"
    ("4D00 0001 004C FFFF FFFF 0002 4348310000000000000000000000000000000000000000000000000000000000"
    ++ "53504C4943455200000000000000000000000000000000000000000000000000 0008 00010001 00010000")
    "5200 0002 0022 0064 FFFF 0002 4348310000000000000000000000000000000000000000000000000000000000"
    ∷ row 7 "> tick 4294967280" "5400 FFFFFFF0 00000000" ""
    ∷ row 9 "> splice 0 id=1 at=4294967290 duration=900000"
    "4D00 0007 0021 FFFF FFFF 00000001 FFFFFFFF FFFFFFFA 00000000 0001 000DBBA0 FFFFFFFF 00000000 00 00 01"
    "5200 0008 0004 0064 FFFF 00000001"
    ∷ row 11 "> splice 0 id=2 prior=1 duration=900000"
    "4D00 0007 0021 FFFF FFFF 00000002 00000001 00000000 00000000 0001 000DBBA0 FFFFFFFF 00000000 00 00 01"
    "5200 0008 0004 0064 FFFF 00000002"
    ∷ row 13 "> tick 4294967295.999999"
    "5400 FFFFFFFF 000F423F"
    "5200 0009 000D 0064 FFFF 00000001 00 00000000 00000000"
    ∷ row 16 "> abort 0 id=1"
    "4D00 000E 0004 FFFF FFFF 00000001"
    ("5200 000F 0004 0064 FFFF 00000001"
    ++ "5200 0009 000D 0074 FFFF 00000001 01 00000000 00083D5F"
    ++ "5200 0008 0004 0074 FFFF 00000002")
    ∷ []

pub same : Holds rows
unfolding rows computing
same = holds rows (tt, tt)

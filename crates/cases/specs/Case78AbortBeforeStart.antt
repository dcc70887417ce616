-- model/scenarios/7.8-abort-before-start.txt, made by tools/cases.sh. Line numbers are that file's.
-- J.280 clause 7.8: the first of three linked insertions aborted before it started; "If no
-- splice-out was needed then no SpliceComplete_Response message shall be reported."
-- Shows: three Splice_Response 116 in order of start, though requested with other numbers.
use Rattle.std.specs.Prelude.{List, [], ◌∷◌}
use Prim.Native.String.{◌++◌}
use Rattle.cases.specs.Scenario.{Row, row, Holds, holds}
use Rattle.cases.specs.Computing.{computing}

unfoldable pub rows : List Row
rows =
    row 5 "> open 0" "4F00" ""
    ∷ row 6 "> init 0"
    ("4D00 0001 004C FFFF FFFF 0002 4348310000000000000000000000000000000000000000000000000000000000"
    ++ "53504C4943455200000000000000000000000000000000000000000000000000 0008 00010001 00010000")
    "5200 0002 0022 0064 FFFF 0002 4348310000000000000000000000000000000000000000000000000000000000"
    ∷ row 8 "> tick 1000" "5400 000003E8 00000000" ""
    ∷ row 10 "> splice 0 id=30 at=1010 duration=900000"
    "4D00 0007 0021 FFFF FFFF 0000001E FFFFFFFF 000003F2 00000000 0001 000DBBA0 FFFFFFFF 00000000 00 00 01"
    "5200 0008 0004 0064 FFFF 0000001E"
    ∷ row 12 "> splice 0 id=10 prior=30 duration=900000"
    "4D00 0007 0021 FFFF FFFF 0000000A 0000001E 00000000 00000000 0001 000DBBA0 FFFFFFFF 00000000 00 00 01"
    "5200 0008 0004 0064 FFFF 0000000A"
    ∷ row 14 "> splice 0 id=20 prior=10 duration=900000"
    "4D00 0007 0021 FFFF FFFF 00000014 0000000A 00000000 00000000 0001 000DBBA0 FFFFFFFF 00000000 00 00 01"
    "5200 0008 0004 0064 FFFF 00000014"
    ∷ row 17 "> splice 0 id=40 at=1040 duration=900000"
    "4D00 0007 0021 FFFF FFFF 00000028 FFFFFFFF 00000410 00000000 0001 000DBBA0 FFFFFFFF 00000000 00 00 01"
    "5200 0008 0004 0064 FFFF 00000028"
    ∷ row 20 "> tick 1009.999999" "5400 000003F1 000F423F" ""
    ∷ row 21 "> abort 0 id=30"
    "4D00 000E 0004 FFFF FFFF 0000001E"
    ("5200 000F 0004 0064 FFFF 0000001E"
    ++ "5200 0008 0004 0074 FFFF 0000001E"
    ++ "5200 0008 0004 0074 FFFF 0000000A"
    ++ "5200 0008 0004 0074 FFFF 00000014")
    ∷ row 27 "> splice 0 id=10 at=1020 duration=900000"
    "4D00 0007 0021 FFFF FFFF 0000000A FFFFFFFF 000003FC 00000000 0001 000DBBA0 FFFFFFFF 00000000 00 00 01"
    "5200 0008 0004 0064 FFFF 0000000A"
    ∷ row 29 "> tick 1050"
    "5400 0000041A 00000000"
    ("5200 0009 000D 0064 FFFF 0000000A 00 00000000 00000000"
    ++ "5200 0009 000D 0064 FFFF 0000000A 01 00000000 000DBBA0"
    ++ "5200 0009 000D 0064 FFFF 00000028 00 00000000 00000000"
    ++ "5200 0009 000D 0064 FFFF 00000028 01 00000000 000DBBA0")
    ∷ []

pub same : Holds rows
unfolding rows computing
same = holds rows (tt, tt)

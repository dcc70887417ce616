-- model/scenarios/6.2-abort-while-overridden.txt, made by tools/cases.sh. Line numbers are that file's.
-- J.280 clause 6.2, remark at t2 of Figure 6-3: Server 1 aborts while it is overridden.
-- Shows: an abort of a covered session writes Abort_Response 100, its end, and the ends
-- of its followers; the covering session plays on and returns to the primary channel.
--
-- 01 leads elsewhere: 7.8 wants no SpliceComplete without a splice-out, and "an error
--   message for each aborted SessionID" without naming one. 01: Splice_Response 116. The
--   ten seconds that session 100 was on air are therefore not reported.
use Rattle.std.specs.Prelude.{List, [], ◌∷◌}
use Prim.Native.String.{◌++◌}
use Rattle.cases.specs.Scenario.{Row, row, Holds, holds}
use Rattle.cases.specs.Computing.{computing}

unfoldable pub rows : List Row
rows =
    row 9 "> open 0" "4F00" ""
    ∷ row 10 "> init 0"
    ("4D00 0001 004C FFFF FFFF 0002 4348310000000000000000000000000000000000000000000000000000000000"
    ++ "53504C4943455200000000000000000000000000000000000000000000000000 0008 00010001 00010000")
    "5200 0002 0022 0064 FFFF 0002 4348310000000000000000000000000000000000000000000000000000000000"
    ∷ row 12 "> open 1" "4F01" ""
    ∷ row 13 "> init 1"
    ("4D01 0001 004C FFFF FFFF 0002 4348310000000000000000000000000000000000000000000000000000000000"
    ++ "53504C4943455200000000000000000000000000000000000000000000000000 0008 00010001 00010000")
    "5201 0002 0022 0064 FFFF 0002 4348310000000000000000000000000000000000000000000000000000000000"
    ∷ row 15 "> tick 1000" "5400 000003E8 00000000" ""
    ∷ row 17 "> splice 0 id=100 at=1010 duration=3600000 access=3"
    "4D00 0007 0021 FFFF FFFF 00000064 FFFFFFFF 000003F2 00000000 0001 0036EE80 FFFFFFFF 00000000 03 00 01"
    "5200 0008 0004 0064 FFFF 00000064"
    ∷ row 19 "> splice 0 id=101 prior=100 duration=900000 access=3"
    "4D00 0007 0021 FFFF FFFF 00000065 00000064 00000000 00000000 0001 000DBBA0 FFFFFFFF 00000000 03 00 01"
    "5200 0008 0004 0064 FFFF 00000065"
    ∷ row 21 "> splice 1 id=200 at=1020 duration=900000 access=5 override=1"
    "4D01 0007 0021 FFFF FFFF 000000C8 FFFFFFFF 000003FC 00000000 0001 000DBBA0 FFFFFFFF 00000000 05 01 01"
    "5201 0008 0004 0064 FFFF 000000C8"
    ∷ row 23 "> tick 1020"
    "5400 000003FC 00000000"
    ("5200 0009 000D 0064 FFFF 00000064 00 00000000 00000000"
    ++ "5201 0009 000D 0064 FFFF 000000C8 00 00000000 00000000")
    ∷ row 27 "> tick 1025" "5400 00000401 00000000" ""
    ∷ row 28 "> abort 0 id=100"
    "4D00 000E 0004 FFFF FFFF 00000064"
    ("5200 000F 0004 0064 FFFF 00000064"
    ++ "5200 0008 0004 0074 FFFF 00000064"
    ++ "5200 0008 0004 0074 FFFF 00000065")
    ∷ row 32 "> alive 0"
    "4D00 0005 0008 FFFF FFFF 00000000 00000000"
    "5200 0006 0010 0064 FFFF 00000002 000000C8 00000401 00000000"
    ∷ row 36 "> tick 1030" "5400 00000406 00000000" "5201 0009 000D 0064 FFFF 000000C8 01 00000000 000DBBA0"
    ∷ row 38 "> alive 0"
    "4D00 0005 0008 FFFF FFFF 00000000 00000000"
    "5200 0006 0010 0064 FFFF 00000001 FFFFFFFF 00000406 00000000"
    ∷ row 42 "> abort 0 id=100" "4D00 000E 0004 FFFF FFFF 00000064" "5200 000F 0004 0079 FFFF 00000064"
    ∷ row 44 "> tick 1060" "5400 00000424 00000000" ""
    ∷ []

pub same : Holds rows
unfolding rows computing
same = holds rows (tt, tt)

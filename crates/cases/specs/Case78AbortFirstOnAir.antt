-- model/scenarios/7.8-abort-first-on-air.txt, made by tools/cases.sh. Line numbers are that file's.
-- J.280 clause 7.8: three insertions linked by PriorSession, the first aborted on air.
-- Shows: Abort_Response, then the splice-out with 116, then one error message for each of
-- the two subsequent ones, the one linked to it and the one linked to that.
--
-- 01 leads elsewhere: the error message is Splice_Response 116 (J.280 doesn't name one).
-- 01 leads elsewhere: "the next splice requires the PriorSession to be 0xFFFFFFFF" follows
--   in 01 from nothing being held: a PriorSession would be 121.
use Rattle.std.specs.Prelude.{List, [], ◌∷◌}
use Prim.Native.String.{◌++◌}
use Rattle.cases.specs.Scenario.{Row, row, Holds, holds}
use Rattle.cases.specs.Computing.{computing}

unfoldable pub rows : List Row
rows =
    row 9 "> open 0" "4F00" ""
    ∷ row 10 "> init 0"
    ("4D00 0001 004C FFFF FFFF 0002 4348310000000000000000000000000000000000000000000000000000000000"
    ++ "53504C4943455200000000000000000000000000000000000000000000000000 0008 00010001 00010000")
    "5200 0002 0022 0064 FFFF 0002 4348310000000000000000000000000000000000000000000000000000000000"
    ∷ row 12 "> tick 1000" "5400 000003E8 00000000" ""
    ∷ row 14 "> splice 0 id=1 at=1010 duration=900000"
    "4D00 0007 0021 FFFF FFFF 00000001 FFFFFFFF 000003F2 00000000 0001 000DBBA0 FFFFFFFF 00000000 00 00 01"
    "5200 0008 0004 0064 FFFF 00000001"
    ∷ row 16 "> splice 0 id=2 prior=1 duration=900000"
    "4D00 0007 0021 FFFF FFFF 00000002 00000001 00000000 00000000 0001 000DBBA0 FFFFFFFF 00000000 00 00 01"
    "5200 0008 0004 0064 FFFF 00000002"
    ∷ row 18 "> splice 0 id=3 prior=2 duration=900000"
    "4D00 0007 0021 FFFF FFFF 00000003 00000002 00000000 00000000 0001 000DBBA0 FFFFFFFF 00000000 00 00 01"
    "5200 0008 0004 0064 FFFF 00000003"
    ∷ row 20 "> tick 1010" "5400 000003F2 00000000" "5200 0009 000D 0064 FFFF 00000001 00 00000000 00000000"
    ∷ row 24 "> tick 1015" "5400 000003F7 00000000" ""
    ∷ row 25 "> abort 0 id=1"
    "4D00 000E 0004 FFFF FFFF 00000001"
    ("5200 000F 0004 0064 FFFF 00000001"
    ++ "5200 0009 000D 0074 FFFF 00000001 01 00000000 0006DDD0"
    ++ "5200 0008 0004 0074 FFFF 00000002"
    ++ "5200 0008 0004 0074 FFFF 00000003")
    ∷ row 30 "> alive 0"
    "4D00 0005 0008 FFFF FFFF 00000000 00000000"
    "5200 0006 0010 0064 FFFF 00000001 FFFFFFFF 000003F7 00000000"
    ∷ row 34 "> abort 0 id=1" "4D00 000E 0004 FFFF FFFF 00000001" "5200 000F 0004 0079 FFFF 00000001"
    ∷ row 36 "> abort 0 id=3" "4D00 000E 0004 FFFF FFFF 00000003" "5200 000F 0004 0079 FFFF 00000003"
    ∷ row 39 "> splice 0 id=4 prior=1 duration=900000"
    "4D00 0007 0021 FFFF FFFF 00000004 00000001 00000000 00000000 0001 000DBBA0 FFFFFFFF 00000000 00 00 01"
    "5200 0008 0004 0079 FFFF 00000004"
    ∷ row 41 "> splice 0 id=4 prior=3 duration=900000"
    "4D00 0007 0021 FFFF FFFF 00000004 00000003 00000000 00000000 0001 000DBBA0 FFFFFFFF 00000000 00 00 01"
    "5200 0008 0004 0079 FFFF 00000004"
    ∷ row 43 "> splice 0 id=4 at=1020 duration=900000"
    "4D00 0007 0021 FFFF FFFF 00000004 FFFFFFFF 000003FC 00000000 0001 000DBBA0 FFFFFFFF 00000000 00 00 01"
    "5200 0008 0004 0064 FFFF 00000004"
    ∷ row 46 "> tick 1040"
    "5400 00000410 00000000"
    ("5200 0009 000D 0064 FFFF 00000004 00 00000000 00000000"
    ++ "5200 0009 000D 0064 FFFF 00000004 01 00000000 000DBBA0")
    ∷ []

pub same : Holds rows
unfolding rows computing
same = holds rows (tt, tt)

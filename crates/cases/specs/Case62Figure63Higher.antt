-- model/scenarios/6.2-figure-6-3-higher.txt, made by tools/cases.sh. Line numbers are that file's.
-- J.280 clause 6.2, Figure 6-3, Server 2 with the higher priority.
-- Shows: t1 to t6, one tick per instant. Server 1 is covered twice, is on air again in
-- between, and its end time doesn't move.
--   t1 = 1010 s  t2 = 1020 s  t3 = 1030 s  t4 = 1040 s  t5 = 1050 s  t6 = 1060 s
--   Server 1: connection 0, session 100, t1 to t5 = 40 s = 3,600,000 ticks, AccessType 3
--   Server 2: connection 1, session 200, t2 to t3 = 10 s =   900,000 ticks, AccessType 5
--                           session 201, t4 to t6 = 20 s = 1,800,000 ticks, AccessType 5
--
-- 01 leads elsewhere: at t2 and t4 J.280 sends Server 1 a splice-out with 125, at t3 a
--   splice-in with 125. In 01 a session gets no record when it is covered nor when it is
--   on air again; it has one start and one end, so that the as-run log counts once.
-- 01 leads elsewhere: at t5 J.280 names no message. In 01 Server 1 gets its one end
--   there, flag 1 with 125 because it is covered at that moment.
use Rattle.std.specs.Prelude.{List, [], ◌∷◌}
use Prim.Native.String.{◌++◌}
use Rattle.cases.specs.Scenario.{Row, row, Holds, holds}
use Rattle.cases.specs.Computing.{computing}

unfoldable pub rows : List Row
rows =
    row 15 "> open 0" "4F00" ""
    ∷ row 16 "> init 0"
    ("4D00 0001 004C FFFF FFFF 0002 4348310000000000000000000000000000000000000000000000000000000000"
    ++ "53504C4943455200000000000000000000000000000000000000000000000000 0008 00010001 00010000")
    "5200 0002 0022 0064 FFFF 0002 4348310000000000000000000000000000000000000000000000000000000000"
    ∷ row 18 "> open 1" "4F01" ""
    ∷ row 19 "> init 1"
    ("4D01 0001 004C FFFF FFFF 0002 4348310000000000000000000000000000000000000000000000000000000000"
    ++ "53504C4943455200000000000000000000000000000000000000000000000000 0008 00010001 00010000")
    "5201 0002 0022 0064 FFFF 0002 4348310000000000000000000000000000000000000000000000000000000000"
    ∷ row 21 "> tick 1000" "5400 000003E8 00000000" ""
    ∷ row 22 "> splice 0 id=100 at=1010 duration=3600000 access=3"
    "4D00 0007 0021 FFFF FFFF 00000064 FFFFFFFF 000003F2 00000000 0001 0036EE80 FFFFFFFF 00000000 03 00 01"
    "5200 0008 0004 0064 FFFF 00000064"
    ∷ row 26 "> tick 1010" "5400 000003F2 00000000" "5200 0009 000D 0064 FFFF 00000064 00 00000000 00000000"
    ∷ row 30 "> tick 1015" "5400 000003F7 00000000" ""
    ∷ row 31 "> splice 1 id=200 at=1020 duration=900000 access=5 override=1"
    "4D01 0007 0021 FFFF FFFF 000000C8 FFFFFFFF 000003FC 00000000 0001 000DBBA0 FFFFFFFF 00000000 05 01 01"
    "5201 0008 0004 0064 FFFF 000000C8"
    ∷ row 35 "> tick 1020" "5400 000003FC 00000000" "5201 0009 000D 0064 FFFF 000000C8 00 00000000 00000000"
    ∷ row 37 "> alive 0"
    "4D00 0005 0008 FFFF FFFF 00000000 00000000"
    "5200 0006 0010 0064 FFFF 00000002 000000C8 000003FC 00000000"
    ∷ row 41 "> tick 1030" "5400 00000406 00000000" "5201 0009 000D 0064 FFFF 000000C8 01 00000000 000DBBA0"
    ∷ row 43 "> alive 0"
    "4D00 0005 0008 FFFF FFFF 00000000 00000000"
    "5200 0006 0010 0064 FFFF 00000002 00000064 00000406 00000000"
    ∷ row 46 "> tick 1035" "5400 0000040B 00000000" ""
    ∷ row 47 "> splice 1 id=201 at=1040 duration=1800000 access=5 override=1"
    "4D01 0007 0021 FFFF FFFF 000000C9 FFFFFFFF 00000410 00000000 0001 001B7740 FFFFFFFF 00000000 05 01 01"
    "5201 0008 0004 0064 FFFF 000000C9"
    ∷ row 51 "> tick 1040" "5400 00000410 00000000" "5201 0009 000D 0064 FFFF 000000C9 00 00000000 00000000"
    ∷ row 56 "> tick 1050" "5400 0000041A 00000000" "5200 0009 000D 007D FFFF 00000064 01 00000000 001B7740"
    ∷ row 58 "> alive 0"
    "4D00 0005 0008 FFFF FFFF 00000000 00000000"
    "5200 0006 0010 0064 FFFF 00000002 000000C9 0000041A 00000000"
    ∷ row 62 "> tick 1060" "5400 00000424 00000000" "5201 0009 000D 0064 FFFF 000000C9 01 00000000 001B7740"
    ∷ row 64 "> alive 0"
    "4D00 0005 0008 FFFF FFFF 00000000 00000000"
    "5200 0006 0010 0064 FFFF 00000001 FFFFFFFF 00000424 00000000"
    ∷ []

pub same : Holds rows
unfolding rows computing
same = holds rows (tt, tt)

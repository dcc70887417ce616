-- model/scenarios/7.5.3-two-pieces.txt, made by tools/cases.sh. Line numbers are that file's.
-- J.280 clause 7.5.3: "if two pieces of content play, four SpliceComplete_Response messages".
-- Shows: start and end of each; at the join the end of the first is written before the
-- start of the second. Once with a tick per instant, once with one tick for all.
--
-- 01 leads elsewhere: flag 0 carries Bitrate 0 and PlayedDuration 0, not time().
use Rattle.std.specs.Prelude.{List, [], ◌∷◌}
use Prim.Native.String.{◌++◌}
use Rattle.cases.specs.Scenario.{Row, row, Holds, holds}
use Rattle.cases.specs.Computing.{computing}

unfoldable pub rows : List Row
rows =
    row 7 "> open 0" "4F00" ""
    ∷ row 8 "> init 0"
    ("4D00 0001 004C FFFF FFFF 0002 4348310000000000000000000000000000000000000000000000000000000000"
    ++ "53504C4943455200000000000000000000000000000000000000000000000000 0008 00010001 00010000")
    "5200 0002 0022 0064 FFFF 0002 4348310000000000000000000000000000000000000000000000000000000000"
    ∷ row 10 "> tick 1000" "5400 000003E8 00000000" ""
    ∷ row 12 "> splice 0 id=1 at=1010 duration=2700000"
    "4D00 0007 0021 FFFF FFFF 00000001 FFFFFFFF 000003F2 00000000 0001 002932E0 FFFFFFFF 00000000 00 00 01"
    "5200 0008 0004 0064 FFFF 00000001"
    ∷ row 14 "> splice 0 id=2 prior=1 duration=1350000"
    "4D00 0007 0021 FFFF FFFF 00000002 00000001 00000000 00000000 0001 00149970 FFFFFFFF 00000000 00 00 01"
    "5200 0008 0004 0064 FFFF 00000002"
    ∷ row 16 "> tick 1010" "5400 000003F2 00000000" "5200 0009 000D 0064 FFFF 00000001 00 00000000 00000000"
    ∷ row 18 "> tick 1040"
    "5400 00000410 00000000"
    ("5200 0009 000D 0064 FFFF 00000001 01 00000000 002932E0"
    ++ "5200 0009 000D 0064 FFFF 00000002 00 00000000 00000000")
    ∷ row 21 "> tick 1055" "5400 0000041F 00000000" "5200 0009 000D 0064 FFFF 00000002 01 00000000 00149970"
    ∷ row 25 "> splice 0 id=1 at=1110 duration=2700000"
    "4D00 0007 0021 FFFF FFFF 00000001 FFFFFFFF 00000456 00000000 0001 002932E0 FFFFFFFF 00000000 00 00 01"
    "5200 0008 0004 0064 FFFF 00000001"
    ∷ row 27 "> splice 0 id=2 prior=1 duration=1350000"
    "4D00 0007 0021 FFFF FFFF 00000002 00000001 00000000 00000000 0001 00149970 FFFFFFFF 00000000 00 00 01"
    "5200 0008 0004 0064 FFFF 00000002"
    ∷ row 29 "> tick 1200"
    "5400 000004B0 00000000"
    ("5200 0009 000D 0064 FFFF 00000001 00 00000000 00000000"
    ++ "5200 0009 000D 0064 FFFF 00000001 01 00000000 002932E0"
    ++ "5200 0009 000D 0064 FFFF 00000002 00 00000000 00000000"
    ++ "5200 0009 000D 0064 FFFF 00000002 01 00000000 00149970")
    ∷ []

pub same : Holds rows
unfolding rows computing
same = holds rows (tt, tt)

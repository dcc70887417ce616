-- model/scenarios/6.3-return-after-close.txt, made by tools/cases.sh. Line numbers are that file's.
-- J.280 clause 6.3, first paragraph, with the connection of the higher one closed.
-- Shows: close ends the insertion on air as an abort does (written for the log), and the
-- overridden one is on air again at that moment.
--
-- 01 leads elsewhere: J.280 doesn't say what a closed connection does to its sessions. 01
--   ends them, because nobody is left to abort them (DEMANDS, "Overruled").
use Rattle.std.specs.Prelude.{List, [], ◌∷◌}
use Prim.Native.String.{◌++◌}
use Rattle.cases.specs.Scenario.{Row, row, Holds, holds}
use Rattle.cases.specs.Computing.{computing}

unfoldable pub rows : List Row
rows =
    row 8 "> open 0" "4F00" ""
    ∷ row 9 "> init 0"
    ("4D00 0001 004C FFFF FFFF 0002 4348310000000000000000000000000000000000000000000000000000000000"
    ++ "53504C4943455200000000000000000000000000000000000000000000000000 0008 00010001 00010000")
    "5200 0002 0022 0064 FFFF 0002 4348310000000000000000000000000000000000000000000000000000000000"
    ∷ row 11 "> open 1" "4F01" ""
    ∷ row 12 "> init 1"
    ("4D01 0001 004C FFFF FFFF 0002 4348310000000000000000000000000000000000000000000000000000000000"
    ++ "53504C4943455200000000000000000000000000000000000000000000000000 0008 00010001 00010000")
    "5201 0002 0022 0064 FFFF 0002 4348310000000000000000000000000000000000000000000000000000000000"
    ∷ row 14 "> tick 1000" "5400 000003E8 00000000" ""
    ∷ row 16 "> splice 0 id=1 at=1010 duration=5400000 access=2"
    "4D00 0007 0021 FFFF FFFF 00000001 FFFFFFFF 000003F2 00000000 0001 005265C0 FFFFFFFF 00000000 02 00 01"
    "5200 0008 0004 0064 FFFF 00000001"
    ∷ row 18 "> splice 1 id=7 at=1020 duration=2700000 access=6 override=1"
    "4D01 0007 0021 FFFF FFFF 00000007 FFFFFFFF 000003FC 00000000 0001 002932E0 FFFFFFFF 00000000 06 01 01"
    "5201 0008 0004 0064 FFFF 00000007"
    ∷ row 21 "> splice 1 id=8 prior=7 duration=2700000 access=6 override=1"
    "4D01 0007 0021 FFFF FFFF 00000008 00000007 00000000 00000000 0001 002932E0 FFFFFFFF 00000000 06 01 01"
    "5201 0008 0004 0064 FFFF 00000008"
    ∷ row 23 "> tick 1020"
    "5400 000003FC 00000000"
    ("5200 0009 000D 0064 FFFF 00000001 00 00000000 00000000"
    ++ "5201 0009 000D 0064 FFFF 00000007 00 00000000 00000000")
    ∷ row 28 "> tick 1025" "5400 00000401 00000000" ""
    ∷ row 29 "> close 1"
    "4301"
    ("5201 0009 000D 0074 FFFF 00000007 01 00000000 0006DDD0"
    ++ "5201 0008 0004 0074 FFFF 00000008")
    ∷ row 32 "> alive 0"
    "4D00 0005 0008 FFFF FFFF 00000000 00000000"
    "5200 0006 0010 0064 FFFF 00000002 00000001 00000401 00000000"
    ∷ row 34 "> tick 1050" "5400 0000041A 00000000" ""
    ∷ row 36 "> tick 1070" "5400 0000042E 00000000" "5200 0009 000D 0064 FFFF 00000001 01 00000000 004B87F0"
    ∷ []

pub same : Holds rows
unfolding rows computing
same = holds rows (tt, tt)

-- model/scenarios/10.1-single-event.txt, made by tools/cases.sh. Line numbers are that file's.
-- J.280 clause 10.1, Figure 10-1: single event splice. (The figure is lost in our copy;
-- the flow is put together from 7.3 to 7.6.)
-- Shows: Init, the answer to a cue, one request, start and end, its extended data (02, CR 8),
-- and Alive in quiet times.
--
-- 01 leads elsewhere: the splicer sends no Cue_Request in this release (CR 7); a server's
--   Cue_Response is taken without an answer.
use Rattle.std.specs.Prelude.{List, [], ◌∷◌}
use Prim.Native.String.{◌++◌}
use Rattle.cases.specs.Scenario.{Row, row, Holds, holds}
use Rattle.cases.specs.Computing.{computing}

unfoldable pub rows : List Row
rows =
    row 9 "> open 0" "4F00" ""
    ∷ row 10 "> init 0 name=CH1 splicer=SPLICER1"
    ("4D00 0001 004C FFFF FFFF 0002 4348310000000000000000000000000000000000000000000000000000000000"
    ++ "53504C4943455231000000000000000000000000000000000000000000000000 0008 00010001 00010000")
    "5200 0002 0022 0064 FFFF 0002 4348310000000000000000000000000000000000000000000000000000000000"
    ∷ row 12 "> tick 1000" "5400 000003E8 00000000" ""
    ∷ row 15 "> tick 1060" "5400 00000424 00000000" ""
    ∷ row 16 "> alive 0 time=1060.000000"
    "4D00 0005 0008 FFFF FFFF 00000424 00000000"
    "5200 0006 0010 0064 FFFF 00000001 FFFFFFFF 00000424 00000000"
    ∷ row 20 "> message 0 000D 0000 0064 FFFF" "4D00 000D 0000 0064 FFFF" ""
    ∷ row 22 "> splice 0 id=1 at=1070 duration=2700000 event=4711"
    "4D00 0007 0021 FFFF FFFF 00000001 FFFFFFFF 0000042E 00000000 0001 002932E0 00001267 00000000 00 00 01"
    "5200 0008 0004 0064 FFFF 00000001"
    ∷ row 24 "> tick 1070" "5400 0000042E 00000000" "5200 0009 000D 0064 FFFF 00000001 00 00000000 00000000"
    ∷ row 26 "> tick 1085.250000" "5400 0000043D 0003D090" ""
    ∷ row 27 "> alive 0 time=1085.249000"
    "4D00 0005 0008 FFFF FFFF 0000043D 0003CCA8"
    "5200 0006 0010 0064 FFFF 00000002 00000001 0000043D 0003D090"
    ∷ row 29 "> tick 1100" "5400 0000044C 00000000" "5200 0009 000D 0064 FFFF 00000001 01 00000000 002932E0"
    ∷ row 33 "> message 0 0003 0008 FFFF FFFF 00000001 FFFFFFFF"
    "4D00 0003 0008 FFFF FFFF 00000001 FFFFFFFF"
    "5200 0004 0014 0064 FFFF 00000001 01 0E 43415244 00001267 0064 002932E0"
    ∷ row 36 "> tick 1160" "5400 00000488 00000000" ""
    ∷ row 37 "> alive 0 time=1160.000000"
    "4D00 0005 0008 FFFF FFFF 00000488 00000000"
    "5200 0006 0010 0064 FFFF 00000001 FFFFFFFF 00000488 00000000"
    ∷ row 39 "> close 0" "4300" ""
    ∷ []

pub same : Holds rows
unfolding rows computing
same = holds rows (tt, tt)

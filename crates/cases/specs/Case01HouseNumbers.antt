-- model/scenarios/01-house-numbers.txt, made by tools/cases.sh. Line numbers are that file's.
-- Document 01, "Calls and house numbers": 1, 3, 6, 7 and 8.
-- Shows: each number exactly where 01 gives it, in 01's order, and that a refused call
-- changes nothing. (4: 01-house-number-4.txt. 2 and 9 concern the lent buffer and the name
-- of fresh, which no line sets; 5 is a call that the card program never makes, since a
-- message cut short ends its input: 01-card-cut-message.txt and 01-card-cut-header.txt.)
use Rattle.std.specs.Prelude.{List, [], ◌∷◌}
use Prim.Native.String.{◌++◌}
use Rattle.cases.specs.Scenario.{Row, row, Holds, holds}
use Rattle.cases.specs.Computing.{computing}

unfoldable pub rows : List Row
rows =
    row 8 "> open 4" "4F04" "4501"
    ∷ row 10 "> open 255" "4FFF" "4501"
    ∷ row 12 "> close 4" "4304" "4501"
    ∷ row 14 "> alive 4" "4D04 0005 0008 FFFF FFFF 00000000 00000000" "4501"
    ∷ row 16 "> init 128"
    ("4D80 0001 004C FFFF FFFF 0002 4348310000000000000000000000000000000000000000000000000000000000"
    ++ "53504C4943455200000000000000000000000000000000000000000000000000 0008 00010001 00010000")
    "4501"
    ∷ row 19 "> close 0" "4300" "4507"
    ∷ row 21 "> close 3" "4303" "4507"
    ∷ row 23 "> alive 0" "4D00 0005 0008 FFFF FFFF 00000000 00000000" "4507"
    ∷ row 25 "> init 3"
    ("4D03 0001 004C FFFF FFFF 0002 4348310000000000000000000000000000000000000000000000000000000000"
    ++ "53504C4943455200000000000000000000000000000000000000000000000000 0008 00010001 00010000")
    "4507"
    ∷ row 28 "> message 0 0000 0000 0064 FFFF" "4D00 0000 0000 0064 FFFF" "4507"
    ∷ row 32 "> open 0" "4F00" ""
    ∷ row 33 "> open 0" "4F00" "4506"
    ∷ row 35 "> open 4" "4F04" "4501"
    ∷ row 37 "> init 0"
    ("4D00 0001 004C FFFF FFFF 0002 4348310000000000000000000000000000000000000000000000000000000000"
    ++ "53504C4943455200000000000000000000000000000000000000000000000000 0008 00010001 00010000")
    "5200 0002 0022 0064 FFFF 0002 4348310000000000000000000000000000000000000000000000000000000000"
    ∷ row 40 "> open 0" "4F00" "4506"
    ∷ row 42 "> alive 0"
    "4D00 0005 0008 FFFF FFFF 00000000 00000000"
    "5200 0006 0010 0064 FFFF 00000001 FFFFFFFF 00000000 00000000"
    ∷ row 46 "> tick 0" "5400 00000000 00000000" ""
    ∷ row 47 "> tick 1000.500000" "5400 000003E8 0007A120" ""
    ∷ row 48 "> tick 1000.500000" "5400 000003E8 0007A120" ""
    ∷ row 49 "> tick 1000.499999" "5400 000003E8 0007A11F" "4503"
    ∷ row 51 "> tick 1000" "5400 000003E8 00000000" "4503"
    ∷ row 53 "> tick 999.999999" "5400 000003E7 000F423F" "4503"
    ∷ row 55 "> tick 0" "5400 00000000 00000000" "4503"
    ∷ row 58 "> tick 1001:1000000" "5400 000003E9 000F4240" "4508"
    ∷ row 60 "> tick 1000:1000000" "5400 000003E8 000F4240" "4508"
    ∷ row 62 "> tick 0:1000000" "5400 00000000 000F4240" "4508"
    ∷ row 64 "> tick 0:4294967295" "5400 00000000 FFFFFFFF" "4508"
    ∷ row 66 "> tick 4294967295:4294967295" "5400 FFFFFFFF FFFFFFFF" "4508"
    ∷ row 69 "> alive 0"
    "4D00 0005 0008 FFFF FFFF 00000000 00000000"
    "5200 0006 0010 0064 FFFF 00000001 FFFFFFFF 000003E8 0007A120"
    ∷ row 73 "> splice 0 id=1 at=1010 duration=900000"
    "4D00 0007 0021 FFFF FFFF 00000001 FFFFFFFF 000003F2 00000000 0001 000DBBA0 FFFFFFFF 00000000 00 00 01"
    "5200 0008 0004 0064 FFFF 00000001"
    ∷ row 75 "> tick 1015:1000000" "5400 000003F7 000F4240" "4508"
    ∷ row 77 "> tick 1010" "5400 000003F2 00000000" "5200 0009 000D 0064 FFFF 00000001 00 00000000 00000000"
    ∷ row 79 "> tick 1009" "5400 000003F1 00000000" "4503"
    ∷ row 81 "> tick 1010" "5400 000003F2 00000000" ""
    ∷ row 83 "> close 1" "4301" "4507"
    ∷ row 85 "> close 9" "4309" "4501"
    ∷ row 87 "> open 0" "4F00" "4506"
    ∷ row 89 "> tick 1020" "5400 000003FC 00000000" "5200 0009 000D 0064 FFFF 00000001 01 00000000 000DBBA0"
    ∷ row 93 "> close 0" "4300" ""
    ∷ row 94 "> close 0" "4300" "4507"
    ∷ row 96 "> alive 0" "4D00 0005 0008 FFFF FFFF 00000000 00000000" "4507"
    ∷ row 98 "> open 0" "4F00" ""
    ∷ row 99 "> alive 0" "4D00 0005 0008 FFFF FFFF 00000000 00000000" "5200 0000 0000 0067 FFFF"
    ∷ []

pub same : Holds rows
unfolding rows computing
same = holds rows (tt, tt)

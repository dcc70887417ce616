-- model/scenarios/01-whole-case.txt, made by tools/cases.sh. Line numbers are that file's.
-- Document 01, "The card program", whole case.
-- Shows: open 0, an Alive_Request before Init (103), close 0, close 0 again (refusal 7), in
-- the bytes of 01; then the same as calls.
use Rattle.std.specs.Prelude.{List, [], ◌∷◌}
use Prim.Native.String.{◌++◌}
use Rattle.cases.specs.Scenario.{Row, row, Holds, holds}
use Rattle.cases.specs.Computing.{computing}

unfoldable pub rows : List Row
rows =
    row 5 "> raw 4F 00 4D 00 00 05 00 08 FF FF FF FF 00 00 00 00 00 00 00 00 43 00 43 00"
    ("4F00"
    ++ "4D00 0005 0008 FFFF FFFF 00000000 00000000"
    ++ "4300"
    ++ "4300")
    ("5200 0000 0000 0067 FFFF"
    ++ "4507")
    ∷ row 9 "> raw 4F 00 4D 00 00 05 00 08 FF FF FF FF 00 00 00 00 00 00 00 00 43 00 43 00"
    ("4F00"
    ++ "4D00 0005 0008 FFFF FFFF 00000000 00000000"
    ++ "4300"
    ++ "4300")
    ("5200 0000 0000 0067 FFFF"
    ++ "4507")
    ∷ row 14 "> open 0" "4F00" ""
    ∷ row 15 "> message 0 0005 0008 FFFF FFFF 00000000 00000000"
    "4D00 0005 0008 FFFF FFFF 00000000 00000000"
    "5200 0000 0000 0067 FFFF"
    ∷ row 17 "> close 0" "4300" ""
    ∷ row 18 "> close 0" "4300" "4507"
    ∷ row 21 "> open 0" "4F00" ""
    ∷ row 22 "> alive 0" "4D00 0005 0008 FFFF FFFF 00000000 00000000" "5200 0000 0000 0067 FFFF"
    ∷ row 24 "> close 0" "4300" ""
    ∷ row 25 "> close 0" "4300" "4507"
    ∷ []

pub same : Holds rows
unfolding rows computing
same = holds rows (tt, tt)

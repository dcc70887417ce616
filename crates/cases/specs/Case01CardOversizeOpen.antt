-- model/scenarios/01-card-oversize-open.txt, made by tools/cases.sh. Line numbers are that file's.
-- Document 01, "The card program": a message header with MessageSize above 4,088.
-- Shows: it makes the call, writes the refusal (4) and stops: the closes aren't made. The
-- data isn't looked for: none is there.
use Rattle.std.specs.Prelude.{List, [], ◌∷◌}
use Prim.Native.String.{◌++◌}
use Rattle.cases.specs.Scenario.{Row, row, Holds, holds}
use Rattle.cases.specs.Computing.{computing}

unfoldable pub rows : List Row
rows =
    row 5 "> raw 4F 00 4D 00 0001 FFFF FFFF FFFF 43 00 43 00"
    ("4F00"
    ++ "4D00 0001 FFFF FFFF FFFF 4300 4300")
    "4504"
    ∷ []

pub same : Holds rows
unfolding rows computing
same = holds rows (tt, tt)

-- Somebody is on air if a row was found (`feed-on`, `feed-off`).
use mathlib.Core.Path.{sym}
use Prim.Native.Nat.{◌*◌}
use lib.Seq.{length-take-le}
use Rattle.recall_rows.specs.Rows.{width, all}
use Rattle.recall_rows.proofs.Scans.{found, missing}
use Rattle.recall_pass.specs.Passes.{rows_of}
use Rattle.recall_pass.proofs.Calls.{feed-on, feed-off}
use Rattle.recall_pass.proofs.feed.Goals as goal

pub slice_bounds-on_air-end : goal.slice_bounds-on_air-end
slice_bounds-on_air-end c =
    sym (length-take-le (c.args.h.rows * width) c.args.m.now c.requires)

pub returns-in-Some : goal.returns-in-Some
returns-in-Some c =
    feed-on c.args.h.rows c.args.m.now (found (all (rows_of c.args.h c.args.m.now)) c.on_air.ensures.on_air c.in-Some.is)

pub returns-in-None : goal.returns-in-None
returns-in-None c =
    feed-off c.args.h.rows c.args.m.now (missing (all (rows_of c.args.h c.args.m.now)) c.on_air.ensures.on_air c.in-None.is)

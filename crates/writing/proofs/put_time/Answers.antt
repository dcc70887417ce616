-- `put_time` meets its contract: Seconds, and MicroSeconds behind them (`row_next`).
use native.Mathlib.Omega.{arith}
use Prim.Native.Nat.{◌/◌, ◌%◌}
use Rattle.writing.proofs.Parts.{row-bytes, row_first}
use Rattle.writing.proofs.put_time.Goals as goal

pub returns : goal.returns
returns c =
    let w0 = row_first 4 (c.args.time.0 / 1000000) c.put4.ensures in
    (row-bytes 4 (c.args.time.0 % 1000000) w0 c.put4-2.ensures (omega (arith, c.requires))).is

-- The answer on the rows, then what is left to do (`hears`). Rests on what replies and `settle` promise.
use mathlib.Core.Path.{sym}
use native.Mathlib.Omega.{arith}
use Prim.Native.Nat.{◌*◌}
use lib.Seq.{length-take-le}
use Rattle.recall_rows.specs.Rows.{width}
use Rattle.recall_pass.proofs.Messages.{hears}
use Rattle.recall_pass.proofs.Rows.{long-back}
use Rattle.recall_pass.proofs.hear.Goals as goal

pub slice_bounds-answer-end-2 : goal.slice_bounds-answer-end-2
slice_bounds-answer-end-2 c =
    sym (length-take-le (c.args.h.rows * width) c.args.m.now c.requires.ready.fits)

pub answer-g-requires : goal.answer-g-requires
answer-g-requires c =
    record {
      keeps = c.requires.ready.keeps;
      clock_lt_horizon = c.requires.ready.clock;
      conn_bound = c.requires.conn_bound;
      in_bounds
          = c.requires.card_room_in_bounds;
    }

pub settle-next-requires : goal.settle-next-requires
settle-next-requires c =
    let answer = c.answer-g in record {
      fits = omega
          (arith, long-back c.args.h.rows c.args.m.now answer.new.m c.requires.ready.fits answer.auto.m, c.requires.fits);
      conn_bound
          = c.requires.conn_bound;
    }

pub returns : goal.returns
returns c =
    let answer = c.answer-g in
    let settle = c.settle-next in
    hears c.args.conn c.args.id c.args.d.now c.args.h c.args.m.now c.args.out.now c.requires.ready.fits
    answer.auto.m answer.ensures settle.ensures

-- It is kept, and a SpliceComplete (`write_complete`), or a Splice_Response written behind the last record (`tells-part`).
-- Rests on what `keep_end`, `write_complete` and writing promise.
use native.Mathlib.Omega.{arith}
use Rattle.ends.proofs.Laws.{completing, tells-part, end-done}
use Rattle.ends.proofs.write_end.Goals as goal

pub write_complete-requires : goal.write_complete-requires
write_complete-requires c =
    record {
      writable = c.requires.writable;
      completing = completing c.args.how c.in_default.not-Response;
      room_for_in_bounds
          = c.requires.room_for_in_bounds;
    }

pub returns-in_default : goal.returns-in_default
returns-in_default c =
    end-done c.args.how c.args.x c.args.m.now c.keep_end.ensures c.write_complete.ensures

pub returns : goal.returns
returns c =
    end-done c.args.how c.args.x c.args.m.now c.keep_end.ensures
    (rw c.in-Response.is (tells-part (omega arith) c.splice_response.ensures))

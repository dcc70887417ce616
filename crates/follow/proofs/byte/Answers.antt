-- The kept bytes with the new one are no whole entry, or one that ends there.
-- Rests on proofs/Pieces.
use Rattle.std.proofs.Common.{sym, refl, length-take-le}
use Rattle.follow.proofs.Pieces.{byte_fits, byte-open, byte-whole}
use Rattle.follow.proofs.byte.Goals as goal

pub slice_bounds-run-end : goal.slice_bounds-run-end
slice_bounds-run-end c = byte_fits c.args.s _ _ _ _ c.requires.holds c.requires.told_value c.args.x

pub slice_bounds-run-end-2 : goal.slice_bounds-run-end-2
slice_bounds-run-end-2 c =
    sym (length-take-le _ _ (byte_fits c.args.s _ _ _ _ c.requires.holds c.requires.told_value c.args.x))

pub run-w-requires : goal.run-w-requires
run-w-requires c = record {
  stands = c.requires.holds.stands;
  told_value = c.requires.told_value;
}

pub returns-then-w-eq0 : goal.returns-then-w-eq0
returns-then-w-eq0 c =
    record {
      taken_value = refl;
      feeds = byte-open c.args.s _ _ _ _ c.requires.holds c.requires.told_value c.args.x c.run-w.ensures c.requires.kept_len
          c.if-w-eq0.true;
    }

pub returns-else-w-eq0 : goal.returns-else-w-eq0
returns-else-w-eq0 c =
    record {
      taken_value = refl;
      feeds = byte-whole c.args.s _ _ _ _ c.requires.holds c.requires.told_value c.args.x c.run-w.ensures c.requires.kept_len
          c.if-w-eq0.false;
    }

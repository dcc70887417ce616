-- Something is kept, and one byte more goes behind it; or whole entries lie there; or the first is cut.
-- Rests on proofs/Pieces.
use Rattle.follow.proofs.Pieces.{takes_whole, takes-byte, holds_same, feeds-same}
use Rattle.follow.proofs.next.Goals as goal

pub returns-then-s-ne0 : goal.returns-then-s-ne0
returns-then-s-ne0 c =
    takes-byte c.requires.l_nonzero c.byte.ensures.taken_value c.byte.ensures.feeds

pub run-w-requires : goal.run-w-requires
run-w-requires c =
    record {
      stands = c.requires.holds.stands;
      told_value = c.requires.told_value;
    }

pub byte-requires-then-w-eq0 : goal.byte-requires-then-w-eq0
byte-requires-then-w-eq0 c =
    let n = c.run-w.ensures.none c.if-w-eq0.true in
    record {
      holds = holds_same n.words n.bytes n.due c.requires.holds;
      told_value = c.requires.told_value;
      kept_len = c.requires.kept_len;
    }

pub returns-then-w-eq0 : goal.returns-then-w-eq0
returns-then-w-eq0 c =
    let n = c.run-w.ensures.none c.if-w-eq0.true in
    takes-byte c.requires.l_nonzero c.byte-then-w-eq0.ensures.taken_value (feeds-same n.words n.bytes n.due c.byte-then-w-eq0.ensures.feeds)

pub returns : goal.returns
returns c =
    takes_whole c.requires.holds c.requires.told_value c.if-s-ne0.false c.run-w.ensures c.if-w-eq0.false

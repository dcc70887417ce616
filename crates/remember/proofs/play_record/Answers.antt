-- The call, and what is said behind it: `plays`.
-- Rests on: the log's bytes are bytes.
use Rattle.std.proofs.Common.{rules}
use Rattle.rules.specs.Follows.Wires.{Byte}
use Rattle.rules.proofs.All.{all-at}
use Rattle.remember.proofs.Plays.{plays}
use Rattle.remember.proofs.play_record.Goals as goal

pub returns : goal.returns
returns c =
    let g = c.args.log.now in
    plays c.args.l.now g (all-at Byte 0 g (λ i. search rules)) c.requires.out_len c.call-r.ensures c.say.ensures

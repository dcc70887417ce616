-- What feed promises of a record that is played.
use Rattle.judge.proofs.turns.made.Goals as goal

pub returns : goal.returns
returns c =
    let p = c.play-p.ensures in
    record { lent = p.lent; splicer = p.splicer; count = p.count; bytes = p.bytes }

-- A whole record lies within the bytes. No contract can say what is written.
use Rattle.std.proofs.Common.{sym, ◌∙◌, length-take-le}
use Rattle.judge.proofs.Going.{wrote-there}
use Rattle.referee.proofs.found.Goals as goal

pub slice_bounds-bytes-end : goal.slice_bounds-bytes-end
slice_bounds-bytes-end c =
    let l = c.args.l.now in sym (length-take-le _ l (wrote-there l _ (sym c.entry_at.ensures ∙ c.in-Wrote.is)))

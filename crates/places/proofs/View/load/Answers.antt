-- The words of the place are its session (`place_of`).
use mathlib.Core.Path.{◌∙◌}
use Rattle.places.proofs.Words.{place_of}
use Rattle.places.proofs.View.load.Goals as goal

pub returns : goal.returns
returns c =
    let b = c.row in
    let v = c.args.self in
    record {
      is = c.read_row.ensures.is ∙ place_of v.q.now b.result _ b.ensures.row b.ensures.is;
      narrow = c.read_row.ensures.narrow;
    }

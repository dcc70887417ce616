-- Its row is read, stored as ended, and its end written (`one-over`). Rests on what `write_end` and recall_rows promise.
use Rattle.recall_ends.proofs.Laws.{loaded, ended-phase, one-over}
use Rattle.recall_ends.proofs.end_one.Goals as goal

pub returns : goal.returns
returns c =
    let a = c.args in
    let m = a.m.now in
    let x = c.load.result.session in
    let is = loaded a.i m c.load.result c.load.ensures in
    one-over a.how a.i m _ x _ is (ended-phase a.how x m c.count-nth.result c.result_of.result c.count-nth.ensures c.result_of.ensures)
    c.store.ensures c.write_end.ensures

-- Who is evicted, behind it the 100 (`grant-done`), and those that wait then and start later are counted (`later-is`).
-- Rests on what `evict` promises.
use native.Mathlib.Omega.{arith}
use Rattle.recall_requests.proofs.Admission.{evict-room, grant-room, grant-done, later-is}
use Rattle.recall_requests.proofs.accept.Goals as goal

pub evict-len-requires : goal.evict-len-requires
evict-len-requires c = evict-room c.args.new c.args.m.now c.args.out.now c.requires

pub slice_bounds-splice_response-count : goal.slice_bounds-splice_response-count
slice_bounds-splice_response-count c =
    omega (arith, grant-room c.args.new c.args.m.now c.args.out.now c.requires c.evict-len.ensures c.evict-len.auto.out)

pub slice_bounds-splice_response-start : goal.slice_bounds-splice_response-start
slice_bounds-splice_response-start c =
    omega (arith, grant-room c.args.new c.args.m.now c.args.out.now c.requires c.evict-len.ensures c.evict-len.auto.out)

pub splice_response-requires : goal.splice_response-requires
splice_response-requires c =
    omega (arith, grant-room c.args.new c.args.m.now c.args.out.now c.requires c.evict-len.ensures c.evict-len.auto.out)

pub returns-clause-admits : goal.returns-clause-admits
returns-clause-admits c =
    let a = c.args in
    let d = c.evict-len.ensures in
    record {
      does = grant-done a.new a.m.now a.out.now c.requires d c.evict-len.auto.out c.splice_response.ensures;
      moved = later-is a.new a.m.now a.out.now c.requires d c.count-moved.result c.count-moved.ensures;
    }

-- The part that is lent is the list's lot (`lot-at`), and what it ends before is a ring's end.
use Rattle.memory.proofs.Laws.{good-at}
use Rattle.memory.proofs.view.Goals as goal

pub invariant_of-result : goal.invariant_of-result
invariant_of-result c =
    let ring = c.ring_end-ring_end.ensures.value in
    record { good = good-at c.args.which c.from-a.ensures.value c.to-e.ensures.value ring c.requires c.count-n.ensures }

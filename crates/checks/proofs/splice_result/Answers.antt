-- The tests are asked in the order of b to e; the start is known, so that b asks nothing of the prior.
use Rattle.memory.specs.Memory.{see}
use Rattle.checks.proofs.Laws.{result-121, result-112, result-109, result-114, result-100}
use Rattle.checks.proofs.splice_result.Goals as goal

pub returns-then-is_wrong_number : goal.returns-then-is_wrong_number
returns-then-is_wrong_number c =
    let m = see c.args.m.now in
    result-121 m.clock c.args.conn c.args.r c.args.new m.queue c.requires.m_value
    c.is_wrong_number.ensures c.if-is_wrong_number.true

pub returns-then-is_too_late : goal.returns-then-is_too_late
returns-then-is_too_late c =
    let m = see c.args.m.now in
    result-112 m.clock c.args.conn c.args.r c.args.new m.queue c.requires.m_value
    c.is_wrong_number.ensures c.if-is_wrong_number.false c.clock.ensures c.is_too_late.ensures
    c.if-is_too_late.true

pub does_collide-requires : goal.does_collide-requires
does_collide-requires c =
    record {
      form = c.requires.form;
      sorted = c.requires.holding.timed.sorted;
      at_value = c.requires.at_value;
      taken_value
          = c.requires.taken_value;
    }

pub returns-then-does_collide : goal.returns-then-does_collide
returns-then-does_collide c =
    let m = see c.args.m.now in
    result-109 m.clock c.args.conn c.args.r c.args.new m.queue c.requires.m_value
    c.is_wrong_number.ensures c.if-is_wrong_number.false c.clock.ensures c.is_too_late.ensures
    c.if-is_too_late.false c.does_collide.ensures c.if-does_collide.true

pub is_full-requires : goal.is_full-requires
is_full-requires c =
    record { form = c.requires.form; conn_bound = c.requires.conn_bound }

pub returns-then-is_full : goal.returns-then-is_full
returns-then-is_full c =
    let m = see c.args.m.now in
    result-114 m.clock c.args.conn c.args.r c.args.new m.queue c.requires.m_value
    c.is_wrong_number.ensures c.if-is_wrong_number.false c.clock.ensures c.is_too_late.ensures
    c.if-is_too_late.false c.does_collide.ensures c.if-does_collide.false c.is_full.ensures c.if-is_full.true

pub returns : goal.returns
returns c =
    let m = see c.args.m.now in
    result-100 m.clock c.args.conn c.args.r c.args.new m.queue c.requires.m_value
    c.is_wrong_number.ensures c.if-is_wrong_number.false c.clock.ensures c.is_too_late.ensures
    c.if-is_too_late.false c.does_collide.ensures c.if-does_collide.false c.is_full.ensures c.if-is_full.false

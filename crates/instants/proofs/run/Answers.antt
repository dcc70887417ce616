use mathlib.Core.Path.{sym, ◌∙◌}
use native.Mathlib.Omega.{arith}
use Rattle.memory.specs.Memory.{see}
use Rattle.instants.proofs.Running.{first-turn, last_turn, turn-asks, turn-time, turn-after}
use Rattle.instants.proofs.Running.{turn-meets, turn-placed, turn-playable, turn-room, arrived, arrived-on, arrived-next}
use Rattle.instants.proofs.Running.{arrived-less}
use Rattle.instants.proofs.run.Goals as goal

pub next_due-first-requires : goal.next_due-first-requires
next_due-first-requires c = record { form = c.requires.form; sorted = c.requires.holding.timed.sorted }

pub overflow_sub-until : goal.overflow_sub-until
overflow_sub-until c =
    omega (arith, c.clock-at.ensures, c.requires.m_bound.0)

pub elapse-requires : goal.elapse-requires
elapse-requires c =
    let v = first-turn c.args.out.now c.clock-at.ensures
    (c.requires.form, (c.requires.holding, (c.requires.m_bound, (c.requires.m_bound_2, c.requires.m_in_bounds)))) in let both
    = turn-asks v c.args.until.0 v.time c.requires.m_bound.1 in
    record { form = both.0; lasting = both.1.0; d_bound = both.1.1 }

pub returns-in_default : goal.returns-in_default
returns-in_default c =
    let v = first-turn c.args.out.now c.clock-at.ensures
    (c.requires.form, (c.requires.holding, (c.requires.m_bound, (c.requires.m_bound_2, c.requires.m_in_bounds)))) in
    last_turn v (sym c.next_due-first.ensures ∙ c.in_default.is) c.elapse.ensures

pub overflow_sub-begin : goal.overflow_sub-begin
overflow_sub-begin c =
    let v = first-turn c.args.out.now c.clock-at.ensures
    (c.requires.form, (c.requires.holding, (c.requires.m_bound, (c.requires.m_bound_2, c.requires.m_in_bounds)))) in
    omega (arith, turn-after v (sym c.next_due-first.ensures ∙ c.in-Some.is))

pub elapse-requires-2 : goal.elapse-requires-2
elapse-requires-2 c =
    let v = first-turn c.args.out.now c.clock-at.ensures
    (c.requires.form, (c.requires.holding, (c.requires.m_bound, (c.requires.m_bound_2, c.requires.m_in_bounds)))) in
    let d = sym c.next_due-first.ensures ∙ c.in-Some.is in
    let t = c.in-Some.begin.0 in let both = turn-asks v t (omega (arith, turn-after v d))
    (omega (arith, turn-time v d, c.requires.m_bound.1)) in
    record { form = both.0; lasting = both.1.0; d_bound = both.1.1 }

pub loop-next-init : goal.loop-next-init
loop-next-init c =
    let v = first-turn c.args.out.now c.clock-at.ensures
    (c.requires.form, (c.requires.holding, (c.requires.m_bound, (c.requires.m_bound_2, c.requires.m_in_bounds)))) in
    let d = sym c.next_due-first.ensures ∙ c.in-Some.is in
    record { whence = see c.args.m.now; come = arrived v d c.elapse-2.ensures; each = λ s a. a }

pub at_instant-len-requires : goal.at_instant-len-requires
at_instant-len-requires c =
    let a = c.loop-next.invariant.come in
    let v = c.loop-next.invariant.come.running in
    let d = c.loop-next.invariant.come.next in
    let f = c.loop-next.invariant.come.then in
    record { form = f.form; meets = turn-meets v d f; placed = turn-placed v d f; all = turn-playable v d f; m_in_bounds = turn-room v d f }

pub next_due-due-requires : goal.next_due-due-requires
next_due-due-requires c =
    let v = arrived-on c.loop-next.invariant.come c.at_instant-len.ensures in
    record { form = v.form; sorted = v.holding.timed.sorted }

pub overflow_sub-until-in_default-due : goal.overflow_sub-until-in_default-due
overflow_sub-until-in_default-due c =
    (arrived-on c.loop-next.invariant.come c.at_instant-len.ensures).time

pub elapse-requires-in_default-due : goal.elapse-requires-in_default-due
elapse-requires-in_default-due c =
    let v = arrived-on c.loop-next.invariant.come c.at_instant-len.ensures in let both = turn-asks v c.args.until.0 v.time
    c.requires.m_bound.1 in
    record { form = both.0; lasting = both.1.0; d_bound = both.1.1 }

pub returns-in_default-due : goal.returns-in_default-due
returns-in_default-due c =
    let v = first-turn c.args.out.now c.clock-at.ensures
    (c.requires.form, (c.requires.holding, (c.requires.m_bound, (c.requires.m_bound_2, c.requires.m_in_bounds)))) in
    let d = sym c.next_due-first.ensures ∙ c.in-Some.is in
    let a = c.loop-next.invariant.each (see c.args.m.now) (arrived v d c.elapse-2.ensures) in
    last_turn (arrived-on a c.at_instant-len.ensures) (sym c.next_due-due.ensures ∙ c.in_default-due.is) c.elapse-in_default-due.ensures

pub overflow_sub-next : goal.overflow_sub-next
overflow_sub-next c =
    let v = arrived-on c.loop-next.invariant.come c.at_instant-len.ensures in
    omega (arith, turn-after v (sym c.next_due-due.ensures ∙ c.in-Some-due.is))

pub elapse-requires-in-loop-next : goal.elapse-requires-in-loop-next
elapse-requires-in-loop-next c =
    let v = arrived-on c.loop-next.invariant.come c.at_instant-len.ensures in
    let d = sym c.next_due-due.ensures ∙ c.in-Some-due.is in
    let t = c.in-Some-due.next.0 in let both = turn-asks v t (omega (arith, turn-after v d))
    (omega (arith, turn-time v d, c.requires.m_bound.1)) in
    record { form = both.0; lasting = both.1.0; d_bound = both.1.1 }

pub loop-next-smaller : goal.loop-next-smaller
loop-next-smaller c =
    let d = sym c.next_due-due.ensures ∙ c.in-Some-due.is in
    arrived-less c.loop-next.invariant.come c.at_instant-len.ensures d c.elapse-in-loop-next.ensures

pub loop-next-preserved : goal.loop-next-preserved
loop-next-preserved c =
    let i = c.loop-next.invariant in
    let d = sym c.next_due-due.ensures ∙ c.in-Some-due.is in
    let g = c.at_instant-len.ensures in
    let f = c.elapse-in-loop-next.ensures in
    record { whence = i.whence; come = arrived-next i.come g d f; each = λ s a. arrived-next (i.each s a) g d f }

-- From the words of the engine's read, by the laws of proofs/Steps.
use Rattle.std.proofs.Common.{ℕ, ◌-◌, get_or, ap, ◌∙◌, arith}
use Rattle.rules.specs.Units.{up_ticks}
use Rattle.rolling.proofs.Steps.{lent_below, reads-ungiven, reads_none, reads-later, reads_over, reads-past, reads-step}
use mathlib.Core.Logic.{inl, inr}
use Rattle.rolling.proofs.due.Goals as goal

pub returns-then-given-eq0 : goal.returns-then-given-eq0
returns-then-given-eq0 c =
    reads-ungiven c.args.m.now c.args.b.now c.args.counter.now c.if-given-eq0.true

pub returns-then-next-eq0 : goal.returns-then-next-eq0
returns-then-next-eq0 c =
    let due = c.due-next in
    reads_none c.requires c.args.counter.now due.result due.ensures c.if-next-eq0.true

pub overflow_sub-next : goal.overflow_sub-next
overflow_sub-next c =
    let due = c.due-next in
    let if2 = c.if-next-eq0 in
    let clock = c.clock-clock in
    omega (arith, clock.ensures, reads-later c.requires c.args.counter.now due.result due.ensures if2.false)

pub overflow_add-clock : goal.overflow_add-clock
overflow_add-clock c =
    let clock = c.clock-clock in
    omega (arith, clock.ensures, c.if-n.false, lent_below c.requires)

pub returns-then-n : goal.returns-then-n
returns-then-n c =
    let due = c.due-next in
    let if2 = c.if-next-eq0 in
    let clock = c.clock-clock in
    let up = c.up_ticks-n in
    let ticks = up.ensures ∙ ap (λ (n : ℕ). up_ticks (get_or due.result 1 0 - n)) clock.ensures in
    -- the two ways by their place and not by a test's name, so that code with another test is refused for that
    elim c.then-n.branch-raw [
      | inl w ↦
          reads_over c.requires c.args.counter.now due.result due.ensures if2.false c.if-given-eq0.false up.result ticks (omega arith)
      | inr w ↦
          reads-past c.requires c.args.counter.now due.result due.ensures if2.false c.if-given-eq0.false up.result ticks (omega arith)
          (omega (arith, clock.ensures))
    ]

pub returns : goal.returns
returns c =
    let due = c.due-next in
    let if2 = c.if-next-eq0 in
    let clock = c.clock-clock in
    let up = c.up_ticks-n in
    let ticks = up.ensures ∙ ap (λ (n : ℕ). up_ticks (get_or due.result 1 0 - n)) clock.ensures in
    reads-step c.requires c.args.counter.now due.result due.ensures if2.false c.if-given-eq0.false up.result ticks
    (omega arith) (omega (arith, clock.ensures))

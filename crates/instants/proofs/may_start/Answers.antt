-- Nothing is on air, or the first of the started (`may-over`).
use mathlib.Core.Path.{refl, sym, ◌∙◌}
use borrow.Author.Tests.{eq-eqb, ne_eqb}
use Rattle.memory.specs.Memory.{see}
use Rattle.instants.proofs.Starts.{may_none, may-over}
use Rattle.memory.proofs.Laws.{quiet_none, quiet-some}
use Rattle.instants.proofs.may_start.Goals as goal

pub returns-then-is_quiet : goal.returns-then-is_quiet
returns-then-is_quiet c =
    may_none c.args.x (see c.args.m.now).queue.started (sym (quiet_none c.is_quiet.ensures c.if-is_quiet.true))

pub load-air-requires : goal.load-air-requires
load-air-requires c = record { form = c.requires; at_in_bounds = quiet-some c.is_quiet.ensures c.if-is_quiet.false }

pub returns-then-x-eq1 : goal.returns-then-x-eq1
returns-then-x-eq1 c =
    let air = c.load-air in
    let k = (see c.args.m.now).queue.started in
    may-over c.args.x air.result k (quiet-some c.is_quiet.ensures c.if-is_quiet.false) air.ensures.is
    (eq-eqb c.args.x.overrides 1 c.if-x-eq1.true) (sym c.outranks.ensures)

pub returns-else-x-eq1 : goal.returns-else-x-eq1
returns-else-x-eq1 c =
    let air = c.load-air in
    let no = ne_eqb c.args.x.overrides 1 c.if-x-eq1.false in
    let k = (see c.args.m.now).queue.started in
    no ∙ may-over c.args.x air.result k (quiet-some c.is_quiet.ensures c.if-is_quiet.false) air.ensures.is no refl

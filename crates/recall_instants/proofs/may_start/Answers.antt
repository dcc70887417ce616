-- Nothing is on air (`may_none`), or the one than which none is higher (`may-over`).
use mathlib.Core.Path.{refl, sym, ap, ◌∙◌}
use mathlib.Core.Bool.{Bool, ◌&&◌}
use lib.Dec.{leb}
use lib.ListN.{get_or}
use borrow.Author.Tests.{eq-eqb, ne_eqb}
use Rattle.recall_rules.specs.Verdicts.{none}
use Rattle.recall_rows.proofs.Scans.{found, missing}
use Rattle.recall_ends.specs.Does.{all}
use Rattle.recall_instants.proofs.Leads.{may_none, may-by}
use Rattle.recall_instants.proofs.may_start.Goals as goal

pub returns-then-x-eq1 : goal.returns-then-x-eq1
returns-then-x-eq1 c =
    let l = all c.args.m.now in
    let x = c.args.x in
    ap (λ (b : Bool). b && leb c.load.result.session.access x.access) (sym (eq-eqb x.overrides 1 c.if-x-eq1.true))
    ∙ may-by x l c.in-Some.i c.load.result (found l c.on_air.ensures.on_air c.in-Some.is) c.load.ensures

pub returns-else-x-eq1 : goal.returns-else-x-eq1
returns-else-x-eq1 c =
    let l = all c.args.m.now in
    let x = c.args.x in
    let v = get_or l c.in-Some.i none in
    let no = ne_eqb x.overrides 1 c.if-x-eq1.false in
    no ∙ ap (λ (b : Bool). b && leb v.session.access x.access) (sym no)
    ∙ may-by x l c.in-Some.i v (found l c.on_air.ensures.on_air c.in-Some.is) refl

pub returns-in-None : goal.returns-in-None
returns-in-None c = may_none c.args.x (all c.args.m.now) (missing (all c.args.m.now) c.on_air.ensures.on_air c.in-None.is)

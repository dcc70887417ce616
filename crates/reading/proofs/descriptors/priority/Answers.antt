use mathlib.Core.Path.{refl, sym, subst, ◌∙◌}
use native.Mathlib.Omega.{arith}
use Rattle.reading.proofs.Walks.{Says, step-says}
use Rattle.reading.proofs.descriptors.priority.Goals as goal

pub loop-found-init : goal.loop-found-init
loop-found-init c = (omega arith, refl)

pub loop-found-smaller-in-Mux : goal.loop-found-smaller-in-Mux
loop-found-smaller-in-Mux c =
    let l = c.args.l.now in
    let at = c.loop-found.at in
    let says = subst (Says l at) (sym c.descriptor_at.ensures ∙ c.in-Mux.is) (step-says l at) in
    omega arith

pub loop-found-preserved-in-Mux : goal.loop-found-preserved-in-Mux
loop-found-preserved-in-Mux c =
    let l = c.args.l.now in
    let at = c.loop-found.at in
    let says = subst (Says l at) (sym c.descriptor_at.ensures ∙ c.in-Mux.is) (step-says l at) in
    (omega arith, c.loop-found.invariant.1 ∙ says.2 c.loop-found.value)

pub loop-found-smaller : goal.loop-found-smaller
loop-found-smaller c =
    let l = c.args.l.now in
    let at = c.loop-found.at in
    let says = subst (Says l at) (sym c.descriptor_at.ensures ∙ c.in-Foreign.is) (step-says l at) in
    omega arith

pub loop-found-preserved : goal.loop-found-preserved
loop-found-preserved c =
    let l = c.args.l.now in
    let at = c.loop-found.at in
    let says = subst (Says l at) (sym c.descriptor_at.ensures ∙ c.in-Foreign.is) (step-says l at) in
    (omega arith, c.loop-found.invariant.1 ∙ says.2 c.loop-found.value)

pub returns-in-End : goal.returns-in-End
returns-in-End c =
    let l = c.args.l.now in
    let at = c.loop-found.at in
    let says = subst (Says l at) (sym c.descriptor_at.ensures ∙ c.in-End.is) (step-says l at) in
    sym (c.loop-found.invariant.1 ∙ says c.loop-found.value)

pub returns-in-Bad : goal.returns-in-Bad
returns-in-Bad c =
    let l = c.args.l.now in
    let at = c.loop-found.at in
    let says = subst (Says l at) (sym c.descriptor_at.ensures ∙ c.in-Bad.is) (step-says l at) in
    sym (c.loop-found.invariant.1 ∙ says c.loop-found.value)

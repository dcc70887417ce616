-- The row on air, if there is one, decides (`air-some`, `air-none`). Rests on what `on_air` promises.
use mathlib.Core.Path.{refl, sym, ap, ◌∙◌}
use Rattle.recall_rules.specs.declared.Verdict.{Verdict}
use Rattle.recall_rows.specs.Rows.{all}
use Rattle.recall_rows.proofs.Scans.{found, missing}
use Rattle.recall_answers.proofs.Alive.{air-some, air-none, alive-says}
use Rattle.recall_answers.proofs.answer_alive.Goals as goal

pub returns-in-Some : goal.returns-in-Some
returns-in-Some c =
    let l = all c.args.m.now in
    let at = found l c.on_air.ensures.on_air c.in-Some.is in
    let air = air-some l c.in-Some.i at.0 at.1 in
    alive-says l c.args.conn c.args.clock (air.0, air.1 ∙ sym (ap (λ (v : Verdict). v.session.id) c.load-v.ensures))
    c.to_micros-time.ensures c.alive_response.ensures

pub returns : goal.returns
returns c =
    let l = all c.args.m.now in
    alive-says l c.args.conn c.args.clock (air-none l _ refl (missing l c.on_air.ensures.on_air c.in_default.is))
    c.to_micros-time.ensures c.alive_response-2.ensures

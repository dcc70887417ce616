-- The ServiceID decides; behind structures the walk over them says where the tail stands.
use mathlib.Core.Path.{sym, ap, ◌∙◌}
use native.Mathlib.Omega.{arith}
use borrow.Author.Tests.{eq-eqb, ne_eqb}
use lib.ListN.{drop, length-drop}
use Rattle.rules.specs.Request.{separate_service, service_id}
use Rattle.reading.specs.Structures.{streams_end, from, tail_place}
use Rattle.reading.proofs.Laws.{behind}
use Rattle.reading.proofs.Steps.{end-found, found-rest}
use Rattle.reading.proofs.tail_place.Goals as goal

pub returns-in_err-n : goal.returns-in_err-n
unfolding tail_place from
returns-in_err-n c =
    let d = c.args.d.now in
    let e = ap streams_end (sym (behind 18 d)) ∙ sym c.end_of.ensures ∙ c.in_err-n.was in
    rw (eq-eqb (service_id d) separate_service (omega (arith, c.number2.ensures)), e) c.from_residual.ensures

pub overflow_add-result : goal.overflow_add-result
overflow_add-result c =
    let d = c.args.d.now in
    let e = ap streams_end (sym (behind 18 d)) ∙ sym c.end_of.ensures ∙ c.in_ok-n.was in
    let f = found-rest (drop 18 d) _ (end-found (drop 18 d) _ e) in
    omega (arith, f.1, length-drop 18 d)

pub returns-then-number2-eq65535 : goal.returns-then-number2-eq65535
unfolding tail_place from
returns-then-number2-eq65535 c =
    let d = c.args.d.now in
    let e = ap streams_end (sym (behind 18 d)) ∙ sym c.end_of.ensures ∙ c.in_ok-n.was in
    rw (eq-eqb (service_id d) separate_service (omega (arith, c.number2.ensures)), e)

pub returns : goal.returns
unfolding tail_place
returns c =
    let d = c.args.d.now in
    rw (ne_eqb (service_id d) separate_service (omega (arith, c.number2.ensures)))

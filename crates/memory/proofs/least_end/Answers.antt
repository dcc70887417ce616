-- The view is of the started ones' lot; the end at the place that `places` gives is the earliest (`least-earliest`).
use native.Mathlib.Omega.{arith}
use mathlib.Core.Path.{sym, ap, ◌∙◌}
use borrow.Author.Tests.{eqb-false}
use lib.ListN.{length, get_or}
use Rattle.rules.specs.State.{empty}
use Rattle.places.specs.Places.{Lot, used, least_end}
use Rattle.memory.specs.declared.Which.TheVariants.{Started}
use Rattle.memory.specs.Memory.{sessions}
use Rattle.memory.proofs.Laws.{least-within, least-earliest}
use Rattle.memory.proofs.least_end.Goals as goal

pub end_at-requires : goal.end_at-requires
end_at-requires c =
    let some = eqb-false (length (sessions Started c.args.m.now)) 0 (sym c.is_quiet.ensures ∙ c.if-is_quiet.false) in
    let v = c.view-started.ensures in
    let at = c.least_end-i.ensures ∙ ap (λ (x : Lot). least_end (used x)) v.is in record {
      at_lt_n = omega (
        arith,
        v.n,
        least-within (sessions Started c.args.m.now) c.least_end-i.result (omega (arith, some)) at,
      );
      flat = v.ring_end;
    }

pub returns : goal.returns
returns c =
    let some = eqb-false (length (sessions Started c.args.m.now)) 0 (sym c.is_quiet.ensures ∙ c.if-is_quiet.false) in
    let v = c.view-started.ensures in
    let i = c.least_end-i in
    let at = i.ensures ∙ ap (λ (x : Lot). least_end (used x)) v.is in
    least-earliest (sessions Started c.args.m.now) i.result (omega (arith, some)) at c.end_at.result
    (c.end_at.ensures ∙ ap (λ (x : Lot). (get_or (used x) i.result empty).end) v.is)

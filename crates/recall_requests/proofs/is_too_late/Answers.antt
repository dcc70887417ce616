-- A start is too late if it is before the clock and three seconds, both in ninths by the one conversion.
use mathlib.Core.Path.{ap, subst, ◌∙◌}
use Prim.Native.Nat.{◌+◌}
use native.Mathlib.Omega.{arith}
use lib.Dec.{ltb}
use Rattle.rules.specs.Units.{time_of, from_micros}
use Rattle.rules.specs.Follows.Asked.{Within}
use Rattle.rules.specs.Splicing.{too_late}
use Rattle.recall_requests.proofs.is_too_late.Goals as goal

pub from_micros-soon-requires : goal.from_micros-soon-requires
from_micros-soon-requires c =
    let time-of = c.time_of in
    let e = ap (λ m. m.0) time-of.ensures in omega arith

pub from_micros-s-requires : goal.from_micros-s-requires
from_micros-s-requires c =
    let h = subst Within c.in-Timed.is c.requires.within in omega arith

pub overflow_add-result : goal.overflow_add-result
overflow_add-result c =
    let time-of = c.time_of in
    let from-micros = c.from_micros-soon in
    let e = ap (λ m. m.0) (from-micros.ensures ∙ ap from_micros time-of.ensures) in omega arith

pub returns-in-Timed : goal.returns-in-Timed
unfolding too_late
returns-in-Timed c =
    let time-of = c.time_of in
    let from-micros = c.from_micros-soon in
    let from-micros2 = c.from_micros-s in
    let t = c.args.clock.0 in
    let three = from-micros.ensures ∙ ap from_micros time-of.ensures in
    rw c.in-Timed.is
    (ap (λ m. ltb from-micros2.result.0 (t + m.0)) three
    ∙ ap (λ m. ltb m.0 (t + (from_micros (time_of 3 0)).0)) from-micros2.ensures)

pub returns-in-Linked : goal.returns-in-Linked
unfolding too_late
returns-in-Linked c =
    rw c.in-Linked.is

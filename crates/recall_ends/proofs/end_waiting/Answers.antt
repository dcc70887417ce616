use mathlib.Core.Path.{refl}
use borrow.Author.Rules.{rules}
use Rattle.recall_rules.specs.Verdicts.{is_waiting}
use Rattle.recall_rows.specs.Scans.{session_test}
use Rattle.recall_rules.specs.Work.{earlier}
use Rattle.recall_ends.specs.Does.{all}
use Rattle.recall_ends.proofs.Laws.{as_room, as-done}
use Rattle.recall_ends.proofs.Stages.{waiting-shut}
use Rattle.recall_ends.proofs.Loops.{loop-start, loop-room, loop-fewer, loop-next, loop-out, waiting-is}
use Rattle.recall_ends.proofs.end_waiting.Goals as goal

pub loop-i-init : goal.loop-i-init
loop-i-init c =
    let a = c.args in
    loop-start is_waiting waiting-shut earlier (session_test a.test) (λ y. a.how) a.m.now a.out.now a.len

pub end_one-to-requires-clause-room : goal.end_one-to-requires-clause-room
end_one-to-requires-clause-room c =
    let a = c.args in
    loop-room is_waiting waiting-shut earlier (session_test a.test) (λ y. a.how) c.loop-i.invariant c.first_of.ensures.first
    c.in-Some.is refl
    (as_room (waiting-is a.how (session_test a.test) (all a.m.now)) a.out.now a.len c.requires)

pub loop-i-smaller : goal.loop-i-smaller
loop-i-smaller c =
    let a = c.args in
    loop-fewer is_waiting waiting-shut earlier (session_test a.test) (λ y. a.how) c.loop-i.invariant c.first_of.ensures.first
    c.in-Some.is refl
    c.end_one-to.ensures

pub loop-i-preserved : goal.loop-i-preserved
loop-i-preserved c =
    let a = c.args in
    loop-next is_waiting waiting-shut earlier (session_test a.test) (λ y. a.how) c.loop-i.invariant c.first_of.ensures.first
    c.in-Some.is refl c.end_one-to.ensures
    (as_room (waiting-is a.how (session_test a.test) (all a.m.now)) a.out.now a.len c.requires) (search rules) (search rules)

pub returns : goal.returns
returns c =
    let a = c.args in
    as-done (waiting-is a.how (session_test a.test) (all a.m.now))
    (loop-out is_waiting waiting-shut earlier (session_test a.test) (λ y. a.how) c.loop-i.invariant c.first_of.ensures.first
    (as_room (waiting-is a.how (session_test a.test) (all a.m.now)) a.out.now a.len c.requires) c.in_default.is)

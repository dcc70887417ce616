use mathlib.Core.Path.{refl, ap}
use native.Mathlib.Omega.{arith}
use borrow.Author.Rules.{rules}
use Rattle.rules.specs.State.{follows}
use Rattle.recall_rules.specs.declared.Verdict.{Verdict}
use Rattle.recall_rules.specs.Verdicts.{is_waiting, which}
use Rattle.recall_rows.proofs.Scans.{found, missing}
use Rattle.recall_ends.specs.Does.{all}
use Rattle.recall_ends.proofs.Laws.{one-room, rest-room, rest-less, rest-done, none_done}
use Rattle.recall_ends.proofs.+dismiss.Goals as goal

pub returns-in_default : goal.returns-in_default
returns-in_default t c =
    let a = c.args in
    let l = all a.m.now in
    none_done a.res a.conn a.id (which is_waiting (follows a.conn a.id) l) a.m.now refl (missing l c.find.ensures.first c.in_default.is)

pub end_one-to-requires-clause-room : goal.end_one-to-requires-clause-room
end_one-to-requires-clause-room t c =
    let a = c.args in
    let f = found (all a.m.now) c.find.ensures.first c.in-Some.is in
    one-room a.res a.conn a.id c.in-Some.i a.m.now f.0 a.out.now a.len c.requires f.1

pub dismiss-requires : goal.dismiss-requires
dismiss-requires t c =
    let a = c.args in
    let m = a.m.now in
    let e = a.out.now in
    let i = c.in-Some.i in
    let f = found (all m) c.find.ensures.first c.in-Some.is in
    let d = c.end_one-to.ensures in
    let y = ap (λ (v : Verdict). v.session.id) c.load-next.ensures in (
      omega (arith, c.decreases, rest-less a.res a.conn a.id i m f.0 e a.len c.requires f.1 d y),
      rest-room a.res a.conn a.id i m f.0 e a.len c.requires f.1 d y (search rules),
    )

pub returns : goal.returns
returns t c =
    let a = c.args in
    let f = found (all a.m.now) c.find.ensures.first c.in-Some.is in
    rest-done a.res a.conn a.id c.in-Some.i a.m.now f.0 a.out.now a.len c.requires f.1 c.end_one-to.ensures
    (ap (λ (v : Verdict). v.session.id) c.load-next.ensures) c.dismiss.ensures

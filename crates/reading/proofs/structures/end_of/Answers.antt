-- The tests stand in the order of the definition; then the walk.
use mathlib.Core.Bool.{or-true}
use mathlib.Core.Path.{sym, ap, ◌∙◌}
use native.Mathlib.Omega.{arith}
use borrow.Author.Tests.{lt-ltb, le-ltb}
use lib.ListN.{length}
use Rattle.rules.specs.Streams.{highest_pid, pcr_pid, pid_count, most_streams}
use Rattle.reading.specs.Structures.{end_from}
use Rattle.reading.proofs.Steps.{end-counted, end-miscounted}
use Rattle.reading.proofs.structures.end_of.Goals as goal
use Rattle.reading.proofs.structures.end_of.Goals.{then-p-lt6-via-then-p-lt6, then-p-lt6-via-else-p-lt6+then-number2-gt-HIGHEST_PID}

pub returns-then-p-lt6 : goal.returns-then-p-lt6
returns-then-p-lt6 c =
    let p = c.args.p.now in
    sym (end-miscounted p (elim c.then-p-lt6.branch [
      | then-p-lt6-via-then-p-lt6 w ↦ rw (lt-ltb (length p) 6 (omega arith))
      | then-p-lt6-via-else-p-lt6+then-number2-gt-HIGHEST_PID w ↦
          rw (lt-ltb highest_pid (pcr_pid p) (omega (arith, w.number2.ensures))) (simp or-true)
    ]))

pub returns-then-n-gt-MOST : goal.returns-then-n-gt-MOST
returns-then-n-gt-MOST c =
    let p = c.args.p.now in
    sym (end-miscounted p (rw (lt-ltb most_streams (pid_count p) (omega (arith, c.number4-n.ensures))) (simp or-true)))

pub returns : goal.returns
returns c =
    let p = c.args.p.now in
    c.end_from.ensures ∙ ap (λ n. end_from n 6 p) c.number4-n.ensures
    ∙ sym (end-counted p (rw (
      le-ltb (length p) 6 (omega arith),
      le-ltb highest_pid (pcr_pid p) (omega (arith, c.number2.ensures)),
      le-ltb most_streams (pid_count p) (omega (arith, c.number4-n.ensures)),
    )))

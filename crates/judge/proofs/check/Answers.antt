-- Each return is the definition's, in its order.
-- Rests on proofs/Loops, and on recording's laws of the refusals.
use mathlib.Core.Path.{sym}
use native.Mathlib.Omega.{arith}
use borrow.Author.Rules.{rules}
use Rattle.recording.proofs.Refusing.{long-is}
use Rattle.judge.proofs.Loops.{checked-or}
use Rattle.judge.proofs.check.Goals as goal

pub returns-then-l-gt-LONGEST : goal.returns-then-l-gt-LONGEST
returns-then-l-gt-LONGEST c = sym (long-is c.args.l.now (omega arith))

pub returns : goal.returns
returns c =
    checked-or c.args.l.now (omega arith) c.first_unknown.result c.first_unknown.ensures (λ p. search rules) c.or_else.ensures

-- Each section is tested (`long-first`, `long-second`).
use Rattle.recall.proofs.Messages.{long-first, long-second}
use native.Mathlib.Omega.{arith}
use Rattle.recall.proofs.is_long.Goals as goal

pub returns-then-primary-gt-SECTION : goal.returns-then-primary-gt-SECTION
returns-then-primary-gt-SECTION c =
    let if1 = c.if-primary-gt-SECTION in
    long-first c.args.primary.now c.args.insertion.now if1.true

pub returns-else-primary-gt-SECTION : goal.returns-else-primary-gt-SECTION
returns-else-primary-gt-SECTION c =
    let if1 = c.if-primary-gt-SECTION in
    long-second c.args.primary.now c.args.insertion.now (omega (arith, if1.false))

-- The two lengths decide, then the count.
use mathlib.Core.Path.{refl, sym, ◌∙◌}
use native.Mathlib.Omega.{arith}
use borrow.Author.Tests.{lt-ltb, le-ltb, eq-eqb, ne_eqb}
use lib.ListN.{length}
use Rattle.rules.specs.HouseNumbers.{longest_section}
use Rattle.memory.specs.Memory.{see}
use Rattle.engine.proofs.map_on_air.Goals as goal

pub returns-then-primary-gt-SECTION : goal.returns-then-primary-gt-SECTION
returns-then-primary-gt-SECTION c =
    rw (lt-ltb longest_section (length c.args.primary.now) (omega (arith, c.if-primary-gt-SECTION.true))) refl

pub returns-then-insertion-gt-SECTION : goal.returns-then-insertion-gt-SECTION
returns-then-insertion-gt-SECTION c =
    let if1 = c.if-primary-gt-SECTION in
    rw (
      le-ltb longest_section (length c.args.primary.now) (omega (arith, if1.false)),
      lt-ltb longest_section (length c.args.insertion.now) (omega (arith, c.if-insertion-gt-SECTION.true)),
    ) refl

pub returns-then-count-eq0 : goal.returns-then-count-eq0
returns-then-count-eq0 c =
    let count = c.count in
    let if2 = c.if-insertion-gt-SECTION in
    let if1 = c.if-primary-gt-SECTION in
    rw (
      le-ltb longest_section (length c.args.primary.now) (omega (arith, if1.false)),
      le-ltb longest_section (length c.args.insertion.now) (omega (arith, if2.false)),
      eq-eqb (length (see c.args.m.now).queue.started) 0 (sym count.ensures ∙ c.if-count-eq0.true),
    ) refl

pub returns : goal.returns
returns c =
    let count = c.count in
    let if2 = c.if-insertion-gt-SECTION in
    let if1 = c.if-primary-gt-SECTION in
    rw (
      le-ltb longest_section (length c.args.primary.now) (omega (arith, if1.false)),
      le-ltb longest_section (length c.args.insertion.now) (omega (arith, if2.false)),
      ne_eqb (length (see c.args.m.now).queue.started) 0 (λ z. c.if-count-eq0.false (count.ensures ∙ z)),
    ) refl

-- The cases of `phase_of`, one test behind the other.
use mathlib.Core.Path.{refl}
use borrow.Author.Rules.{rules}
use Rattle.recall_rows.specs.Rows.{phase_of}
use Rattle.recall_rows.proofs.phase_of.Goals as goal

pub returns-in-1 : goal.returns-in-1
unfolding phase_of
returns-in-1 c = rw c.in-1.is refl

pub returns-in-2 : goal.returns-in-2
unfolding phase_of
returns-in-2 c = rw c.in-2.is refl

pub returns-in-3 : goal.returns-in-3
unfolding phase_of
returns-in-3 c = rw c.in-3.is refl

pub returns-in_default : goal.returns-in_default
unfolding phase_of
returns-in_default c = search rules

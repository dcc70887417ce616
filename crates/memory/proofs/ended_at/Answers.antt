-- The words of its place are read where they stand, whatever says which is the next.
use borrow.Author.Tests.{lt-ltb, le-ltb}
use Rattle.memory.specs.Memory.{ended_in}
use Rattle.memory.proofs.Laws.{none-kept}
use Rattle.memory.proofs.ended_at.Goals as goal

pub returns-then-e-lt-PAST_WORDS : goal.returns-then-e-lt-PAST_WORDS
unfolding ended_in
returns-then-e-lt-PAST_WORDS c = rw (lt-ltb _ _ c.if-e-lt-PAST_WORDS.true) (none-kept c.default.result c.default.ensures)

pub returns : goal.returns
unfolding ended_in
returns c = rw (le-ltb _ _ c.if-e-lt-PAST_WORDS.false) c.past_in.ensures

-- Each way of the match is a clause of the definition.
use Rattle.std.proofs.Common.{refl, ⊎_elim}
use Rattle.recall_log.specs.Kept.{span_of}
use Rattle.recall_log.proofs.records.span_of.Goals as goal

pub returns-in_default : goal.returns-in_default
unfolding span_of
returns-in_default c = rw c.in_default.is

pub returns-in-Open : goal.returns-in-Open
unfolding span_of
returns-in-Open c = rw c.in-Some.is (⊎_elim (λ e. rw e.1 refl) (λ e. rw e.1 refl) c.in-Open.is)

pub returns-in-Message : goal.returns-in-Message
unfolding span_of
returns-in-Message c = rw (c.in-Some.is, c.in-Message.is)

pub returns-in-Tick : goal.returns-in-Tick
unfolding span_of
returns-in-Tick c = rw (c.in-Some.is, c.in-Tick.is)

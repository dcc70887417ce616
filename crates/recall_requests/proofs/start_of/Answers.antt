-- A timed start is the request's time; a linked one is the end of the session of that number.
use borrow.Author.Rules.{rules}
use native.Mathlib.Omega.{arith}
use mathlib.Core.Path.{subst}
use Rattle.rules.specs.Follows.Asked.{Within}
use Rattle.recall_rules.specs.Work.{start_of}
use Rattle.recall_requests.proofs.start_of.Goals as goal

pub from_micros-requires : goal.from_micros-requires
from_micros-requires c =
    let h = subst Within c.in-Timed.is c.requires in omega arith

pub returns-in-Timed : goal.returns-in-Timed
unfolding start_of
returns-in-Timed c = search rules

pub returns-in-Linked : goal.returns-in-Linked
unfolding start_of
returns-in-Linked c = search rules

-- Each way is a clause of the definition.
use Rattle.std.proofs.Common.{refl}
use Rattle.recall_log.specs.Kept.{number_of}
use Rattle.remember.proofs.number_of.Goals as goal

pub returns-in-Full : goal.returns-in-Full
unfolding number_of
returns-in-Full c = rw c.in-Full.is refl

pub returns-in-Rule : goal.returns-in-Rule
unfolding number_of
returns-in-Rule c = rw c.in-Rule.is c.house_number.ensures

-- A refusal is two stores; what a good call wrote stands there already.
-- Rests on `number_of`, the number of a refusal.
use Rattle.remember.proofs.Plays.{says-refused, says-done}
use Rattle.remember.proofs.say.Goals as goal

pub returns-in-Ok : goal.returns-in-Ok
returns-in-Ok c = says-done c.args.out.now c.in-Ok.is

pub returns-in-Err : goal.returns-in-Err
returns-in-Err c = says-refused c.args.out.now c.number_of.result c.in-Err.is c.number_of.ensures c.requires

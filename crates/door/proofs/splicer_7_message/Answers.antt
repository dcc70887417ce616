-- Of the two sections the engine is handed the one that it needs (`makes_one`); the rest is the engine's.
use mathlib.Core.Path.{ap, ◌∙◌}
use lib.ListN.{length}
use Rattle.memory.specs.Memory.{see}
use Rattle.engine.proofs.Maps.{needed_of, makes_one}
use Rattle.door.proofs.splicer_7_message.Goals as goal

pub returns : goal.returns
returns c =
    let message = c.message-a in
    let map-on-air = c.map_on_air-section in
    let m = c.args.words.now in
    let p = c.args.primary.now in
    let q = c.args.insertion.now in
    let one = ap (λ x. x.now) map-on-air.ensures
    ∙ needed_of (λ x. x.now) (length p) (length q) (length (see m).queue.started) c.args.primary c.args.insertion in
    record {
      answer = message.result;
      answers = makes_one c.args.conn c.args.l.now p q m c.args.bytes.now one message.ensures;
      reply = c.reply_of.ensures;
    }

-- Every other answer stands there already (`finish-none`); GetConfig's record comes from the log (`finish-config`).
use Rattle.recall.proofs.Messages.{finish-none, finish-config}
use Rattle.recall.proofs.finish.Goals as goal

pub returns-in_default : goal.returns-in_default
returns-in_default c =
    finish-none c.args.log.now c.args.h c.args.conn c.args.section.now c.args.g c.args.out.now c.in_default.not-Configures

pub returns : goal.returns
returns c =
    let answer-config = c.answer_config in
    finish-config c.args.log.now c.args.h c.args.conn c.args.section.now c.args.g c.args.out.now
    c.in-Configures.is answer-config.ensures

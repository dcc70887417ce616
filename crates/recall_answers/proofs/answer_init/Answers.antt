-- The result decides what is left to do (`init-done`, `init-failed`); the record is `init_response`'s.
use native.Mathlib.Omega.{arith}
use Rattle.reading.proofs.Laws.{hardware-fits}
use Rattle.recall_answers.proofs.Laws.{card-length, card-padded, init-done, init-failed}
use borrow.Author.Rules.{rules}
use Rattle.recall_answers.proofs.answer_init.Goals as goal

pub channel_name-requires : goal.channel_name-requires
channel_name-requires c =
    omega (arith, hardware-fits c.args.d.now c.requires.d_value)

pub init_response-len-requires : goal.init_response-len-requires
init_response-len-requires c =
    let channel = c.channel-name in
    record { in_bounds = search rules; name_len = card-length channel.ensures; name_value = card-padded channel.ensures }

pub returns-then-r-eq100 : goal.returns-then-r-eq100
returns-then-r-eq100 c =
    let channel = c.channel-name in
    let channel-name = c.channel_name in
    let init-result = c.init_result-r in
    let init-response = c.init_response-len in
    init-done c.args.conn c.args.revision c.args.d.now c.args.out.now _
    channel-name.ensures channel.ensures init-result.ensures init-response.ensures c.said.ensures c.if-r-eq100.true c.requires.d_value

pub returns : goal.returns
returns c =
    let channel = c.channel-name in
    let channel-name = c.channel_name in
    let init-result = c.init_result-r in
    let init-response = c.init_response-len in
    init-failed c.args.conn c.args.revision c.args.d.now c.args.out.now _
    channel-name.ensures channel.ensures init-result.ensures init-response.ensures c.said-2.ensures c.if-r-eq100.false

-- The result decides what is kept (`init-done`, `init-failed`); the record is `init_response`'s.
use native.Mathlib.Omega.{arith}
use Rattle.reading.proofs.Laws.{hardware-fits}
use Rattle.answers.proofs.Laws.{stored-length, stored-padded, init-done, init-failed, hardware-whole}
use borrow.Author.Rules.{rules}
use Rattle.answers.proofs.answer_init.Goals as goal

pub channel_name-requires : goal.channel_name-requires
channel_name-requires c =
    omega (arith, hardware-fits c.args.d.now c.requires.d_value)

pub init_response-len-requires : goal.init_response-len-requires
init_response-len-requires c =
    record {
      in_bounds = search rules;
      name_len = stored-length c.requires.whole.bytes c.name-2.ensures;
      name_value = stored-padded c.requires.whole.bytes c.name-2.ensures;
    }

pub hardware-requires : goal.hardware-requires
hardware-requires c =
    (hardware-fits c.args.d.now c.requires.d_value).1

pub keep-requires : goal.keep-requires
keep-requires c =
    let w = hardware-whole c.args.d.now c.requires.d_value in
    record {
      stored = c.requires.whole.bytes;
      c_bound = c.requires.conn_bound;
      h_len = rw c.hardware.ensures w;
    }

pub returns-then-r-eq100 : goal.returns-then-r-eq100
returns-then-r-eq100 c =
    init-done c.requires.whole c.args.conn c.args.revision c.args.d.now
    c.channel_name.ensures c.name.ensures c.name-2.ensures c.init_result-r.ensures c.init_response-len.ensures
    c.if-r-eq100.true c.set_link.ensures c.hardware.ensures c.keep.ensures

pub returns-else-r-eq100 : goal.returns-else-r-eq100
returns-else-r-eq100 c =
    init-failed c.requires.whole c.args.conn c.args.revision c.args.d.now
    c.channel_name.ensures c.name.ensures c.name-2.ensures c.init_result-r.ensures c.init_response-len.ensures c.if-r-eq100.false

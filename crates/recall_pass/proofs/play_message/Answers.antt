-- The call is what comes of the tests (`message-is`): nothing, or what is heard, with the place of an Init_Request that got 100.
-- Each return is one law of proofs/Messages.
use mathlib.Core.Path.{sym, ap, subst, ◌∙◌}
use native.Mathlib.Omega.{arith}
use lib.ListN.{length}
use Rattle.recall_pass.proofs.Messages.{framed-there, size-there, part-is, message-stays, message-low, message-long, message-leads}
use Rattle.recall_pass.proofs.Messages.{message-enters}
use Rattle.rules.specs.Bytes.{data_of}
use mathlib.Core.List.{List}
use Prim.Native.Nat.{ℕ, ◌+◌, ◌≤◌}
use Rattle.recall_pass.proofs.play_message.Goals as goal

pub slice_bounds-l-end : goal.slice_bounds-l-end
slice_bounds-l-end c =
    let number2 = c.number2-size in
    omega (arith, size-there c.args.log.now c.args.from c.requires.from_in_bounds number2.ensures, c.requires.from_in_bounds)

pub returns-in_default : goal.returns-in_default
returns-in_default c =
    let number2 = c.number2-size in
    let framed = c.framed in
    message-stays c.args.log.now c.args.from c.requires.from_in_bounds c.args.conn c.args.h c.args.m.now framed.result
    (framed-there c.args.log.now c.args.from c.requires.from_in_bounds number2.ensures c.args.conn c.args.h
    c.args.m.now c.requires.scratch_len framed.ensures) c.in_default.not-Ok c.requires.ready.fits

pub data_of-requires : goal.data_of-requires
data_of-requires c =
    let number2 = c.number2-size in
    let framed = c.framed in
    let is = framed-there c.args.log.now c.args.from c.requires.from_in_bounds number2.ensures c.args.conn c.args.h
    c.args.m.now c.requires.scratch_len framed.ensures in
    let at = part-is c.args.log.now c.args.from c.requires.from_in_bounds number2.ensures in
    subst (λ (x : List ℕ). 8 + c.in-Ok.header.size ≤ length x) (sym at) (message-long c.args.log.now c.args.from c.requires.from_in_bounds
    c.args.conn c.args.h c.args.m.now framed.result is c.in-Ok.header c.in-Ok.is)

pub hear-g-requires : goal.hear-g-requires
hear-g-requires c =
    let number2 = c.number2-size in
    let framed = c.framed in
    let is = framed-there c.args.log.now c.args.from c.requires.from_in_bounds number2.ensures c.args.conn c.args.h
    c.args.m.now c.requires.scratch_len framed.ensures in record {
      ready = c.requires.ready;
      fits = c.requires.fits;
      conn_bound = message-low c.args.log.now c.args.from c.requires.from_in_bounds
          c.args.conn c.args.h
          c.args.m.now framed.result is c.in-Ok.header c.in-Ok.is;
      card_room_in_bounds = omega
          (arith, c.requires.scratch_len);
    }

pub placed-requires : goal.placed-requires
placed-requires c =
    let number2 = c.number2-size in
    let framed = c.framed in
    let is = framed-there c.args.log.now c.args.from c.requires.from_in_bounds number2.ensures c.args.conn c.args.h
    c.args.m.now c.requires.scratch_len framed.ensures in
    message-low c.args.log.now c.args.from c.requires.from_in_bounds c.args.conn c.args.h c.args.m.now framed.result is
    c.in-Ok.header c.in-Ok.is

pub returns-in-Enters : goal.returns-in-Enters
returns-in-Enters c =
    let number2 = c.number2-size in
    let framed = c.framed in
    let data_of_lem = c.data_of in
    let hear = c.hear-g in
    let placed = c.placed in
    let is = framed-there c.args.log.now c.args.from c.requires.from_in_bounds number2.ensures c.args.conn c.args.h
    c.args.m.now c.requires.scratch_len framed.ensures in
    let at = part-is c.args.log.now c.args.from c.requires.from_in_bounds number2.ensures in
    message-enters c.args.log.now c.args.from c.requires.from_in_bounds c.args.conn c.args.h c.args.m.now framed.result
    is c.in-Ok.header c.in-Ok.is _ (data_of_lem.ensures ∙ ap (data_of c.in-Ok.header.size) at) hear.ensures
    c.in-Enters.is placed.ensures

pub returns : goal.returns
returns c =
    let number2 = c.number2-size in
    let framed = c.framed in
    let data_of_lem = c.data_of in
    let hear = c.hear-g in
    let is = framed-there c.args.log.now c.args.from c.requires.from_in_bounds number2.ensures c.args.conn c.args.h
    c.args.m.now c.requires.scratch_len framed.ensures in
    let at = part-is c.args.log.now c.args.from c.requires.from_in_bounds number2.ensures in
    message-leads c.args.log.now c.args.from c.requires.from_in_bounds c.args.conn c.args.h c.args.m.now framed.result
    is c.in-Ok.header c.in-Ok.is _ (data_of_lem.ensures ∙ ap (data_of c.in-Ok.header.size) at) hear.ensures
    c.in_default-effect.not-Enters

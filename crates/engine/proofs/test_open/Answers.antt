-- The tests 1, 2, 7 in their order: each return is one law of proofs/Calls. What the connection is comes from memory.
use mathlib.Core.Path.{◌≡◌, sym, ap, ◌∙◌}
use mathlib.Core.Bool.{true, false, not}
use native.Mathlib.Omega.{arith}
use Rattle.std.proofs.lemmas.Result.{err_from_is_err_and}
use Rattle.rules.specs.State.{is_open}
use Rattle.memory.specs.Memory.{see}
use Rattle.engine.proofs.Calls.{open-is, room-refused, room-past, test-bad, test-small, test-shut, test_good}
use Rattle.engine.proofs.test_open.Goals as goal

pub returns-then-conn-gt3 : goal.returns-then-conn-gt3
returns-then-conn-gt3 c =
    test-bad c.args.conn c.args.room (see c.args.m.now).links (omega arith)

pub returns-in_err-test_room : goal.returns-in_err-test_room
returns-in_err-test_room c =
    let p = err_from_is_err_and c.from_residual.result c.from_residual.ensures.1 in
    let r = room-refused c.args.room c.test_room.ensures c.in_err-test_room.field-0.0 c.in_err-test_room.was in
    rw (p.1, p.2, r.1) (test-small c.args.conn c.args.room (see c.args.m.now).links (omega arith) r.0)

pub returns-then-eq : goal.returns-then-eq
returns-then-eq c =
    let roomy = room-past c.args.room c.test_room.ensures c.in_ok-test_room.was in
    let o : is_open c.link.result ≡ false = open-is c.link.result ∙ ap not (sym c.eq.ensures ∙ c.if-eq.true) in
    test-shut c.args.conn c.args.room (see c.args.m.now).links c.link.result (omega arith) roomy c.link.ensures o

pub returns : goal.returns
returns c =
    let roomy = room-past c.args.room c.test_room.ensures c.in_ok-test_room.was in
    let o : is_open c.link.result ≡ true = open-is c.link.result ∙ ap not (sym c.eq.ensures ∙ c.if-eq.false) in
    test_good c.args.conn c.args.room (see c.args.m.now).links c.link.result (omega arith) roomy c.link.ensures o

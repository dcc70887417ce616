-- Each return is one law of proofs/Calls; what `answers` asks holds of every splicer that the calls have given.
use Rattle.rules.specs.Calls.{message_call}
use mathlib.Core.Path.{sym, ◌∙◌}
use Prim.Native.Nat.{◌≤◌}
use native.Mathlib.Omega.{arith}
use lib.ListN.{length}
use Rattle.std.proofs.lemmas.Result.{err_from_is_err_and}
use Rattle.rules.specs.Follows.Wires.{Byte}
use Rattle.rules.specs.HouseNumbers.{longest_section}
use Rattle.rules.proofs.All.{all-at}
use Rattle.rules.proofs.Sound.{reached-sound}
use Rattle.reading.proofs.Laws.{framed}
use Rattle.memory.specs.Memory.{see}
use Rattle.engine.proofs.Calls.{test-past, guard-refused, message-section, message-unframed, message-done}
use Rattle.engine.proofs.message.Goals as goal

pub returns-in_err-test_open : goal.returns-in_err-test_open
unfolding message_call
returns-in_err-test_open c =
    let p = err_from_is_err_and c.from_residual.result c.from_residual.ensures.1 in
    rw (p.1, p.2) (guard-refused c.args.conn _ c.in_err-test_open.field-0.0 c.requires c.test_open.ensures c.in_err-test_open.was)

pub returns-then-section-gt-SECTION : goal.returns-then-section-gt-SECTION
returns-then-section-gt-SECTION c =
    let if1 = c.if-section-gt-SECTION in
    message-section c.args.conn c.requires (sym c.in_ok-test_open.was ∙ c.test_open.ensures) c.args.l.now c.args.section.now
    (omega (arith, if1.true))

pub answer-did-requires : goal.answer-did-requires
answer-did-requires c =
    let if1 = c.if-section-gt-SECTION in
    let good = sym c.in_ok-test_open.was ∙ c.test_open.ensures in
    let past = test-past c.args.conn (length c.args.out.now) (see c.args.m.now).links good in
    let h : length c.args.section.now ≤ longest_section = omega (arith, if1.false) in
    record {
      whole = c.requires.whole;
      sound = reached-sound _ c.requires.reached;
      conn_bound = past.0;
      section_len_bound = h;
      in_bounds = past.1;
    }

pub data_of-d-requires : goal.data_of-d-requires
data_of-d-requires c = (framed c.args.l.now c.in_ok-header.header (sym c.frame.ensures ∙ c.in_ok-header.was)).0

pub returns-in_err-header : goal.returns-in_err-header
returns-in_err-header c =
    let p = err_from_is_err_and c.from_residual-in_err-header.result c.from_residual-in_err-header.ensures.1 in
    let good = sym c.in_ok-test_open.was ∙ c.test_open.ensures in
    rw (p.1, p.2) (message-unframed c.args.conn c.requires good c.args.l.now c.args.section.now
    (omega (arith, c.if-section-gt-SECTION.false))
    c.in_err-header.field-0.0 c.frame.ensures c.in_err-header.was)

pub returns : goal.returns
returns c =
    let good = sym c.in_ok-test_open.was ∙ c.test_open.ensures in
    let l = c.args.l.now in
    let p = c.args.section.now in
    let a = all-at Byte 0 l (λ i. omega (arith, c.shared_slice_known-1.given i)) in
    let b = all-at Byte 0 p (λ i. omega (arith, c.shared_slice_known-2-1.given i)) in
    message-done c.args.conn c.requires good l p (omega (arith, c.if-section-gt-SECTION.false)) c.in_ok-header.header
    (a, b) c.frame.ensures c.in_ok-header.was c.data_of-d.ensures c.answer-did.ensures

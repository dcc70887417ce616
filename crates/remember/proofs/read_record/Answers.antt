-- Each part is read behind the last, and what came is one record, or begins none: proofs/Records.
-- Rests on the tests that led there.
use Rattle.std.proofs.Common.{sym, ◌∙◌, arith}
use borrow.Author.Tests.{lt-ltb, le-ltb}
use Rattle.remember.proofs.Records.{marked-first, filled-all, marked-on, size-on, long-mark}
use Rattle.remember.proofs.Records.{reads-cut-mark, reads-mark, reads-cut-header, reads-tick, reads-oversize}
use Rattle.remember.proofs.Records.{reads-cut-data, reads-message}
use Rattle.remember.proofs.read_record.Goals as goal
use Rattle.remember.proofs.read_record.Goals.{then-kind-eq-TICK_MARK-via-then-kind-eq-TICK_MARK}
use Rattle.remember.proofs.read_record.Goals.{then-kind-eq-TICK_MARK-via-else-kind-eq-TICK_MARK+then-size-gt-LONGEST}

pub returns-then-not-is_whole : goal.returns-then-not-is_whole
returns-then-not-is_whole c =
    let mark = c.fill-mark in
    reads-cut-mark mark.ensures (mark.auto.l ∙ c.requires) (sym c.is_whole.ensures ∙ c.if-not-is_whole.true)

pub returns-then-head-lt-HEADER_END : goal.returns-then-head-lt-HEADER_END
returns-then-head-lt-HEADER_END c =
    let mark = c.fill-mark in
    let long = mark.auto.l ∙ c.requires in
    reads-mark mark.ensures long (marked-first mark.new.l long) (sym c.is_whole.ensures ∙ c.if-not-is_whole.false) c.head_of-head.ensures
    c.if-head-lt-HEADER_END.true

pub returns-then-not-is_whole-2 : goal.returns-then-not-is_whole-2
returns-then-not-is_whole-2 c =
    let mark = c.fill-mark in
    let header = c.fill-header in
    let long = mark.auto.l ∙ c.requires in
    let two = filled-all mark.ensures (sym c.is_whole.ensures ∙ c.if-not-is_whole.false) in
    let first = marked-first mark.new.l long in
    let second = marked-on header.ensures first (header.auto.l ∙ long) (omega (arith, two)) (omega (arith, two)) in
    reads-cut-header header.ensures second (long-mark _ (omega (arith, c.head_of-head.ensures, c.if-head-lt-HEADER_END.false))) two
    (sym c.is_whole-2.ensures ∙ c.if-not-is_whole-2.true)

pub returns-then-kind-eq-TICK_MARK : goal.returns-then-kind-eq-TICK_MARK
returns-then-kind-eq-TICK_MARK c =
    let mark = c.fill-mark in
    let header = c.fill-header in
    let long = mark.auto.l ∙ c.requires in
    let two = filled-all mark.ensures (sym c.is_whole.ensures ∙ c.if-not-is_whole.false) in
    let first = marked-first mark.new.l long in
    let second = marked-on header.ensures first (header.auto.l ∙ long) (omega (arith, two)) (omega (arith, two)) in
    let kind = long-mark _ (omega (arith, c.head_of-head.ensures, c.if-head-lt-HEADER_END.false)) in
    let whole = sym c.is_whole-2.ensures ∙ c.if-not-is_whole-2.false in
    elim c.then-kind-eq-TICK_MARK.branch [
      | then-kind-eq-TICK_MARK-via-then-kind-eq-TICK_MARK w ↦ reads-tick header.ensures second whole w.if-kind-eq-TICK_MARK.true
      | then-kind-eq-TICK_MARK-via-else-kind-eq-TICK_MARK+then-size-gt-LONGEST w ↦
          reads-oversize header.ensures second whole kind w.if-kind-eq-TICK_MARK.false c.number2-size.ensures
          (lt-ltb 4088 _ w.if-size-gt-LONGEST.true)
    ]

pub returns-then-is_whole : goal.returns-then-is_whole
returns-then-is_whole c =
    let mark = c.fill-mark in
    let header = c.fill-header in
    let body = c.fill-data in
    let long = mark.auto.l ∙ c.requires in
    let two = filled-all mark.ensures (sym c.is_whole.ensures ∙ c.if-not-is_whole.false) in
    let ten = filled-all header.ensures (sym c.is_whole-2.ensures ∙ c.if-not-is_whole-2.false) in
    let first = marked-first mark.new.l long in
    let second = marked-on header.ensures first (header.auto.l ∙ long) (omega (arith, two)) (omega (arith, two)) in
    let third = marked-on body.ensures second (body.auto.l ∙ second.long) (omega (arith, ten)) (omega (arith, ten)) in
    let kind = long-mark _ (omega (arith, c.head_of-head.ensures, c.if-head-lt-HEADER_END.false)) in
    let size = c.number2-size.ensures ∙ sym (size-on body.ensures second third ten) in
    reads-message body.ensures third kind c.if-kind-eq-TICK_MARK.false ten size (le-ltb 4088 _ c.if-size-gt-LONGEST.false)
    (sym c.is_whole-3.ensures ∙ c.if-is_whole.true)

pub returns-else-is_whole : goal.returns-else-is_whole
returns-else-is_whole c =
    let mark = c.fill-mark in
    let header = c.fill-header in
    let body = c.fill-data in
    let long = mark.auto.l ∙ c.requires in
    let two = filled-all mark.ensures (sym c.is_whole.ensures ∙ c.if-not-is_whole.false) in
    let ten = filled-all header.ensures (sym c.is_whole-2.ensures ∙ c.if-not-is_whole-2.false) in
    let first = marked-first mark.new.l long in
    let second = marked-on header.ensures first (header.auto.l ∙ long) (omega (arith, two)) (omega (arith, two)) in
    let third = marked-on body.ensures second (body.auto.l ∙ second.long) (omega (arith, ten)) (omega (arith, ten)) in
    let kind = long-mark _ (omega (arith, c.head_of-head.ensures, c.if-head-lt-HEADER_END.false)) in
    let size = c.number2-size.ensures ∙ sym (size-on body.ensures second third ten) in
    reads-cut-data body.ensures third kind c.if-kind-eq-TICK_MARK.false ten size (le-ltb 4088 _ c.if-size-gt-LONGEST.false)
    (sym c.is_whole-3.ensures ∙ c.if-is_whole.false)

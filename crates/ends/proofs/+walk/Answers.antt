-- One session: it follows, gets its flag, and the walk goes on behind its number (`walk-on`), or it is passed (`walk-by`).
-- Rests on what `is_behind` and memory promise, and on its own promise for fewer.
use Rattle.std.proofs.Common.{◌≡◌, ◌≤◌, ◌<◌, length, arith, sym, ap, ◌∙◌}
use Rattle.rules.specs.declared.Session.{Session}
use Rattle.rules.specs.State.{follows}
use Rattle.memory.specs.Memory.{see}
use Rattle.ends.proofs.Followers.{walk-on, walk-by, walk-out, last_on, last-by, last_out, few-places}
use Rattle.ends.proofs.+walk.Goals as goal

pub bounds-flags-i : goal.bounds-flags-i
bounds-flags-i t c = omega (arith, c.if-i-count.true, c.count.ensures, few-places c.args.m.now c.requires.form)

pub returns-then-is_behind : goal.returns-then-is_behind
returns-then-is_behind t c =
    let a = c.args in
    let w = (see a.m.now).queue.waiting in
    let h : a.i < length w = omega (arith, c.if-i-count.true, c.count.ensures) in
    let x = c.load-x.ensures.is in
    let k : a.i < length a.flags.now = omega (arith, c.requires.flags_len, few-places a.m.now c.requires.form) in
    let y = ap (λ (y : Session). y.id) x in
    let e = sym (ap (follows a.conn a.id) x) ∙ sym c.is_behind.ensures ∙ c.if-is_behind.true in
    record {
      marks = c.walk.ensures.marks ∙ walk-on a.conn a.id w a.flags.now a.i h k c.load-x.result.id y e;
      last = c.walk.ensures.last ∙ last_on a.conn a.id w a.flags.now a.i h k c.load-x.result.id a.end y e;
    }

pub returns-else-is_behind : goal.returns-else-is_behind
returns-else-is_behind t c =
    let a = c.args in
    let w = (see a.m.now).queue.waiting in
    let h : a.i < length w = omega (arith, c.if-i-count.true, c.count.ensures) in
    let x = c.load-x.ensures.is in
    let k : a.i < length a.flags.now = omega (arith, c.requires.flags_len, few-places a.m.now c.requires.form) in
    let e = sym (ap (follows a.conn a.id) x) ∙ sym c.is_behind.ensures ∙ c.if-is_behind.false in
    record {
      marks = c.walk-else-is_behind.ensures.marks ∙ walk-by a.conn a.id w a.flags.now a.i h k e;
      last = c.walk-else-is_behind.ensures.last ∙ last-by a.conn a.id w a.flags.now a.i h k a.end e;
    }

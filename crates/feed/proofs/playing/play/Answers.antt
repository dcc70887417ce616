-- Each arm is its call of the engine and what is written behind it; the record says how many bytes it took.
-- Rests on the laws of proofs/Plays, one for each kind of arm.
use Prim.Native.Nat.{◌-◌}
use native.Mathlib.Omega.{arith}
use Rattle.rules.specs.Bytes.{part}
use Rattle.rules.specs.Calls.{closes, messages, ticks, call}
use Rattle.rules.specs.HouseNumbers.{lending}
use Rattle.rules.specs.Card.{message_end}
use Rattle.memory.specs.Memory.{shown}
use Rattle.feed.specs.Feed.{next_of, used_by, is_cut}
use Rattle.feed.specs.Play.{step_by}
use Rattle.feed.proofs.Plays.{ended-plays, open-silent, made-plays, plays-as, message-plays, used-within, stopped-plays}
use Rattle.feed.proofs.playing.play.Goals as goal

pub slice_bounds-message-end : goal.slice_bounds-message-end
unfolding used_by
slice_bounds-message-end c =
    omega (arith, used-within c.args.l.now c.requires.r_value c.in-Message.is)

pub slice_bounds-message-end-in-Oversize : goal.slice_bounds-message-end-in-Oversize
unfolding used_by
slice_bounds-message-end-in-Oversize c =
    omega (arith, used-within c.args.l.now c.requires.r_value c.in-Oversize.is)

pub returns-in-Open : goal.returns-in-Open
unfolding used_by is_cut next_of step_by call
returns-in-Open c =
    let u = shown c.args.m.now c.args.b.now in
    plays-as c.args.l.now u c.requires.r_value c.in-Open.is
    (ended-plays c.open-a.ensures (open-silent _ u c.args.out.now) c.ended.ensures)

pub returns-in-Close : goal.returns-in-Close
unfolding used_by is_cut next_of step_by call
returns-in-Close c =
    let u = shown c.args.m.now c.args.b.now in
    plays-as c.args.l.now u c.requires.r_value c.in-Close.is
    (made-plays (closes c.in-Close.c) u c.requires.out_len c.close-a.ensures c.ended-in-Close.ensures)

pub returns-in-Message : goal.returns-in-Message
unfolding call
returns-in-Message c =
    let u = shown c.args.m.now c.args.b.now in
    let l = c.args.l.now in
    plays-as l u c.requires.r_value c.in-Message.is
    (message-plays c.in-Message.c c.in-Message.size l u
    (made-plays (λ n. messages c.in-Message.c (part 2 (message_end c.in-Message.size - 2) l) (lending n)) u c.requires.out_len
    c.message-a.ensures c.ended-in-Message.ensures))

pub returns-in-Oversize : goal.returns-in-Oversize
unfolding used_by is_cut next_of step_by call
returns-in-Oversize c =
    let u = shown c.args.m.now c.args.b.now in
    plays-as c.args.l.now u c.requires.r_value c.in-Oversize.is
    (made-plays (λ n. messages c.in-Oversize.c (part 2 8 c.args.l.now) (lending n)) u c.requires.out_len
    c.message-a-in-Oversize.ensures c.ended-in-Oversize.ensures)

pub returns-in-Tick : goal.returns-in-Tick
unfolding used_by is_cut next_of step_by call
returns-in-Tick c =
    let u = shown c.args.m.now c.args.b.now in
    plays-as c.args.l.now u c.requires.r_value c.in-Tick.is
    (made-plays (ticks c.in-Tick.seconds c.in-Tick.micros) u c.requires.out_len c.tick-a.ensures c.ended-in-Tick.ensures)

pub returns-in-Cut : goal.returns-in-Cut
unfolding used_by is_cut next_of step_by
returns-in-Cut c =
    let m = c.args.m.now in
    let b = c.args.b.now in
    plays-as c.args.l.now (shown m b) c.requires.r_value c.in-Cut.is
    (rw c.stopped.ensures (stopped-plays _ m b c.args.out.now c.requires.lent))

pub returns-in-Unknown : goal.returns-in-Unknown
unfolding used_by is_cut next_of step_by
returns-in-Unknown c =
    let m = c.args.m.now in
    let b = c.args.b.now in
    plays-as c.args.l.now (shown m b) c.requires.r_value c.in-Unknown.is
    (rw c.stopped-in-Unknown.ensures (stopped-plays _ m b c.args.out.now c.requires.lent))

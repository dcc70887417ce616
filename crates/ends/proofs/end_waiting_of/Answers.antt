use native.Mathlib.Omega.{arith}
use borrow.Author.Tests.{eq-eqb, ne_eqb}
use mathlib.Core.Path.{sym, ap, ◌∙◌}
use Prim.Native.Nat.{◌≤◌, ◌<◌}
use lib.ListN.{length, get_or}
use mathlib.Core.List.{List}
use Rattle.rules.specs.declared.Session.{Session}
use Rattle.rules.specs.Lists.{omit}
use Rattle.rules.specs.State.{empty, of}
use Rattle.memory.specs.declared.Which.TheVariants.{Waiting}
use Rattle.memory.specs.Memory.{see, sessions, list_of}
use Rattle.memory.proofs.Laws.{sessions-list}
use Rattle.ends.proofs.Closing.{theirs-none, theirs-goes, theirs-stays, theirs-list, theirs-left, theirs-done, theirs-spared}
use Rattle.ends.proofs.Closing.{closing-room}
use Rattle.ends.proofs.end_waiting_of.Goals as goal
use Rattle.ends.proofs.end_waiting_of.Goals.{then-conn-x, else-conn-x}

pub loop-i-init : goal.loop-i-init
loop-i-init c = theirs-none Waiting c.args.m.now c.requires.form c.requires.m_in_bounds

pub load-x-requires : goal.load-x-requires
load-x-requires c =
    let within : (c.loop-i.i < length (list_of Waiting (see c.args.m.now).queue))
    = (omega (arith, c.count-n.ensures, c.loop-i-test.true, ap length (sessions-list Waiting c.args.m.now))) in
    let among : (c.loop-i.i < length (sessions Waiting c.loop-i.m))
    = (omega (arith, within, ap length (theirs-list Waiting c.loop-i.invariant))) in
    record { form = c.loop-i.invariant.form; at_in_bounds = among }

pub write_end-to-requires : goal.write_end-to-requires
write_end-to-requires c =
    let within : (c.loop-i.i < length (list_of Waiting (see c.args.m.now).queue))
    = (omega (arith, c.count-n.ensures, c.loop-i-test.true, ap length (sessions-list Waiting c.args.m.now))) in
    let l = c.loop-i in
    let a = c.args in
    record {
      form = l.invariant.form;
      writable = tt;
      room_for_in_bounds = closing-room (list_of Waiting (see a.m.now).queue) l.i
          l.invariant.writes (within);
    }

pub loop-i-preserved : goal.loop-i-preserved
loop-i-preserved c =
    let within : (c.loop-i.i < length (list_of Waiting (see c.args.m.now).queue))
    = (omega (arith, c.count-n.ensures, c.loop-i-test.true, ap length (sessions-list Waiting c.args.m.now))) in
    let l = c.loop-i in
    let a = c.args in
    let same = theirs-list Waiting l.invariant in
    let found = c.load-x.ensures.is ∙ ap (λ (u : List Session). get_or u l.i empty) same in
    let whose = ap (λ (x : Session). x.conn) found in
    elim c.if-conn-x.branch [
      | then-conn-x w ↦ rw (w.m-is, w.out-is, w.to-is, w.left-is)
          (theirs-goes Waiting l.invariant within (eq-eqb _ _ (w.if-conn-x.true ∙ whose)) found w.write_end-to.ensures)
      | else-conn-x w ↦ rw (w.m-is, w.out-is, w.to-is, w.left-is)
          (theirs-stays Waiting l.invariant within (ne_eqb _ _ (λ e. w.if-conn-x.false (e ∙ sym whose))))
    ]

pub omit_of-requires : goal.omit_of-requires
omit_of-requires c =
    let passed : (length (list_of Waiting (see c.args.m.now).queue) ≤ c.loop-i.i)
    = (omega (arith, c.count-n.ensures, c.loop-i-test.false, ap length (sessions-list Waiting c.args.m.now))) in
    let inv = c.loop-i.invariant in record {
      form = inv.form;
      left_value = theirs-left Waiting inv (passed) ∙ ap
          (λ (u : List Session). length (omit (of c.args.conn) u))
          (sym (theirs-list Waiting inv));
      conn_bound = c.requires.conn_bound;
    }

pub shape_of-out-then-left-n : goal.shape_of-out-then-left-n
shape_of-out-then-left-n c = c.loop-i.invariant.writes.long

pub returns-then-left-n : goal.returns-then-left-n
returns-then-left-n c =
    let passed : (length (list_of Waiting (see c.args.m.now).queue) ≤ c.loop-i.i)
    = (omega (arith, c.count-n.ensures, c.loop-i-test.false, ap length (sessions-list Waiting c.args.m.now))) in
    theirs-done Waiting c.loop-i.invariant (passed) c.omit_of.ensures

pub shape_of-out-else-left-n : goal.shape_of-out-else-left-n
shape_of-out-else-left-n c = c.loop-i.invariant.writes.long

pub returns-else-left-n : goal.returns-else-left-n
returns-else-left-n c =
    let passed : (length (list_of Waiting (see c.args.m.now).queue) ≤ c.loop-i.i)
    = (omega (arith, c.count-n.ensures, c.loop-i-test.false, ap length (sessions-list Waiting c.args.m.now))) in
    theirs-spared Waiting c.loop-i.invariant (passed)
    (omega (arith, c.count-n.ensures, c.if-left-n.false, ap length (sessions-list Waiting c.args.m.now)))

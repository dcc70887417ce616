use native.Mathlib.Omega.{arith}
use borrow.Author.Tests.{eq-eqb, ne_eqb}
use mathlib.Core.Path.{◌≡◌, sym, ap, subst, ◌∙◌}
use mathlib.Core.Bool.{true}
use lib.Dec.{eqb}
use Prim.Native.Nat.{ℕ, ◌+◌, ◌-◌, ◌≤◌, ◌<◌}
use lib.ListN.{length, drop, get_or}
use mathlib.Core.List.{List}
use Rattle.rules.specs.declared.Session.{Session}
use Rattle.rules.specs.Lists.{All, keep, omit}
use Rattle.rules.specs.State.{empty, of}
use Rattle.rules.specs.Follows.Wires.{Sorted}
use Rattle.places.specs.Places.{flagged, unflagged, Unflagged}
use Rattle.places.proofs.Laws.{flag_at}
use Rattle.ends.proofs.Followers.{few-places}
use Rattle.memory.specs.declared.Which.TheVariants.{Waiting}
use Rattle.memory.specs.Memory.{see, sessions, list_of, relisted, Now}
use Rattle.ends.proofs.Closing.{Theirs, theirs-none, theirs-goes, theirs-stays, theirs-by, theirs-list, theirs-left, theirs-done}
use Rattle.ends.proofs.Closing.{closing-room}
use Rattle.ends.proofs.end_flagged.Goals as goal
use Rattle.ends.proofs.end_flagged.Goals.{then-flags-i-eq1, else-flags-i-eq1}

pub overflow_sub-left : goal.overflow_sub-left
overflow_sub-left c =
    let fits : (c.args.chain.end ≤ c.count-n.result) = (omega (arith, c.requires.unflagged.within, c.count-n.ensures)) in
    fits

pub loop-i-init : goal.loop-i-init
loop-i-init c =
    let z : c.count-n.result - c.args.chain.end - (c.count-n.result - c.args.chain.end) ≡ 0 = omega arith in
    (rw z (theirs-none Waiting c.args.m.now c.requires.form c.requires.m_in_bounds), omega arith, omega arith)

pub bounds-flags-i : goal.bounds-flags-i
bounds-flags-i c =
    let within : (c.loop-i.i < length (list_of Waiting (see c.args.m.now).queue))
    = (omega (arith, c.loop-i-test.true, c.requires.unflagged.within)) in
    omega (arith, within, few-places c.args.m.now c.requires.form)

pub load-x-requires : goal.load-x-requires
load-x-requires c =
    let within : (c.loop-i.i < length (list_of Waiting (see c.args.m.now).queue))
    = (omega (arith, c.loop-i-test.true, c.requires.unflagged.within)) in
    let among : (c.loop-i.i < length (sessions Waiting c.loop-i.m))
    = (omega (arith, within, ap length (theirs-list Waiting c.loop-i.invariant.0))) in
    record { form = c.loop-i.invariant.0.form; at_in_bounds = among }

pub write_end-to-requires : goal.write_end-to-requires
write_end-to-requires c =
    let within : (c.loop-i.i < length (list_of Waiting (see c.args.m.now).queue))
    = (omega (arith, c.loop-i-test.true, c.requires.unflagged.within)) in
    let l = c.loop-i in
    let a = c.args in
    record {
      form = l.invariant.0.form;
      writable = tt;
      room_for_in_bounds = closing-room (see a.m.now).queue.waiting l.i
          l.invariant.0.writes (within);
    }

pub overflow_add-left : goal.overflow_add-left
overflow_add-left c =
    let fits : (c.args.chain.end ≤ c.count-n.result) = (omega (arith, c.requires.unflagged.within, c.count-n.ensures)) in
    let l = c.loop-i in
    omega (arith, c.count-n.ensures, few-places c.args.m.now c.requires.form, l.invariant.0.few, l.invariant.1, l.invariant.2, fits)

pub loop-i-preserved : goal.loop-i-preserved
loop-i-preserved c =
    let within : (c.loop-i.i < length (list_of Waiting (see c.args.m.now).queue))
    = (omega (arith, c.loop-i-test.true, c.requires.unflagged.within)) in
    let whether : (let w = (see c.args.m.now).queue.waiting in flagged c.args.flags.now w (get_or w c.loop-i.i empty) ≡ eqb 1
    (get_or c.args.flags.now c.loop-i.i 0)) = (flag_at c.args.flags.now (see c.args.m.now).queue.waiting c.loop-i.i c.requires.sorted
    (within)) in
    let l = c.loop-i in
    let a = c.args in
    let rest = c.count-n.result - a.chain.end in
    let inv = c.loop-i.invariant.0 in
    let same = theirs-list Waiting inv in
    let on = c.loop-i-test.true in
    let e : l.left - rest + 1 ≡ l.left + 1 - rest = omega (arith, l.invariant.2) in
    elim c.if-flags-i-eq1.branch [
      | then-flags-i-eq1 w ↦ rw (w.m-is, w.out-is, w.to-is, w.left-is) (
        theirs-goes Waiting inv within (whether ∙ eq-eqb _ _ (sym w.if-flags-i-eq1.true))
            (w.load-x.ensures.is ∙ ap (λ (u : List Session). get_or u l.i empty) same) w.write_end-to.ensures,
        omega (arith, on),
        l.invariant.2,
      )
      | else-flags-i-eq1 w ↦ rw (w.m-is, w.out-is, w.to-is, w.left-is) (
        subst (λ (k : ℕ). Theirs (flagged a.flags.now (see a.m.now).queue.waiting) a.res Waiting (see a.m.now)
            a.out.now a.len l.m (l.i + 1) l.to k l.out) e
            (theirs-stays Waiting inv within (whether ∙ ne_eqb _ _ (λ q. w.if-flags-i-eq1.false (sym q)))),
        omega (arith, on),
        omega (arith, l.invariant.2),
      )
    ]

pub omit_flagged-requires : goal.omit_flagged-requires
omit_flagged-requires c =
    let passed : (let l = c.loop-i in let a = c.args in let u = (see a.m.now).queue.waiting in Theirs (flagged a.flags.now u) a.res Waiting
    (see a.m.now) a.out.now a.len l.m (length u) l.to l.left l.out)
    = (let l = c.loop-i in let a = c.args in let u = (see a.m.now).queue.waiting in let f = c.requires.unflagged in let rest
    = c.count-n.result - a.chain.end in let e : l.i ≡ a.chain.end = omega (arith, c.loop-i-test.false, l.invariant.1) in
    theirs-by Waiting l.i (l.left - rest) (length u - l.i) (length u) l.left l.invariant.0 (omega (arith, e, f.within))
    (omega (arith, e, f.within)) (omega (arith, e, f.within, c.count-n.ensures, l.invariant.2))
    (subst (λ (k : ℕ). drop k u ≡ omit (flagged a.flags.now u) (drop k u)) (sym e) f.all)) in
    let f = c.args.flags.now in
    let end = c.args.chain.end in
    let inv = passed in
    let k =
    subst
    (λ (u : List Session). Sorted u × Unflagged f end u × All (λ y. of c.args.chain.conn y ≡ true) (keep (flagged f u) u) ×
    (c.loop-i.left ≡ length (unflagged f u)))
    (sym (theirs-list Waiting inv)) (c.requires.sorted, c.requires.unflagged, c.requires.all, theirs-left Waiting inv (omega arith)) in
    record { form = inv.form; conn_bound = c.requires.conn_bound; sorted = k.0; unflagged = k.1; all = k.2; left_value = k.3 }

pub shape_of-out : goal.shape_of-out
shape_of-out c = c.loop-i.invariant.0.writes.long

pub returns : goal.returns
returns c =
    let passed : (let l = c.loop-i in let a = c.args in let u = (see a.m.now).queue.waiting in Theirs (flagged a.flags.now u) a.res Waiting
    (see a.m.now) a.out.now a.len l.m (length u) l.to l.left l.out)
    = (let l = c.loop-i in let a = c.args in let u = (see a.m.now).queue.waiting in let f = c.requires.unflagged in let rest
    = c.count-n.result - a.chain.end in let e : l.i ≡ a.chain.end = omega (arith, c.loop-i-test.false, l.invariant.1) in
    theirs-by Waiting l.i (l.left - rest) (length u - l.i) (length u) l.left l.invariant.0 (omega (arith, e, f.within))
    (omega (arith, e, f.within)) (omega (arith, e, f.within, c.count-n.ensures, l.invariant.2))
    (subst (λ (k : ℕ). drop k u ≡ omit (flagged a.flags.now u) (drop k u)) (sym e) f.all)) in
    let l = c.loop-i in
    let inv = passed in
    let was = c.omit_flagged.ensures in
    theirs-done Waiting inv (omega arith)
    (subst (λ (u : List Session). Now c.omit_flagged.new.m (relisted Waiting
    (omit (flagged c.args.flags.now u) (sessions Waiting l.m)) (see l.m))) (theirs-list Waiting inv) was)

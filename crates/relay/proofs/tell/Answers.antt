use mathlib.Core.Path.{◌≡◌}
use mathlib.Core.Bool.{true, false}
use Rattle.rules.specs.State.{is_initialised}
use Rattle.memory.specs.Memory.{see}
use lib.ListN.{get_or}
use Rattle.rules.specs.declared.Link.TheVariants.{Closed}
use Rattle.relay.proofs.Laws.{same-initialised, sofar-none, sofar-tells, sofar-skips, sofar-done}
use Rattle.relay.proofs.tell.Goals.{then-eq, else-eq}
use Rattle.relay.proofs.tell.Goals as goal

pub loop-conn-init : goal.loop-conn-init
loop-conn-init c =
    let a = c.args in
    sofar-none a.cue a.time a.section.now (see a.m.now).links a.out.now

pub loop-conn-preserved : goal.loop-conn-preserved
loop-conn-preserved c =
    let l = c.loop-conn in
    let a = c.args in
    let links = (see a.m.now).links in
    let r = c.requires in
    let e = same-initialised c.link.result in
    elim c.if-eq.branch [
      | then-eq w ↦
          let i : is_initialised (get_or links l.conn Closed) ≡ true = cc in
          rw (w.out-is, w.len-is)
          (sofar-tells a.cue a.time a.section.now links a.out.now r.section_len_bound r.cue_room_in_bounds l.invariant
          c.loop-conn-test.true i
          w.write_cue-len.ensures)
      | else-eq w ↦
          let i : is_initialised (get_or links l.conn Closed) ≡ false = cc in
          rw (w.out-is, w.len-is)
          (sofar-skips a.cue a.time a.section.now links a.out.now r.section_len_bound r.cue_room_in_bounds l.invariant
          c.loop-conn-test.true i)
    ]

pub returns : goal.returns
returns c =
    let a = c.args in
    sofar-done a.cue a.time a.section.now (see a.m.now).links a.out.now c.loop-conn-test.false c.loop-conn.invariant

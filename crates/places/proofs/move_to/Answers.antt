-- A session written onto itself changes nothing (`set-get_or`); else it is read and written in the list (`slot_read`, `slot-set`).
use mathlib.Core.Path.{refl, sym, ap, ◌∙◌}
use Prim.Native.Nat.{ℕ, ◌+◌, ◌-◌}
use lib.ListN.{set, get_or}
use lib.Seq.{set-get_or}
use Rattle.rules.specs.State.{empty}
use Rattle.places.specs.Places.{capacity, turned, places, lot, used}
use Rattle.places.proofs.Laws.{used-fits, slot-within, slot_read, slot-set}
use Rattle.places.proofs.move_to.Goals as goal

pub returns-then-from-to : goal.returns-then-from-to
returns-then-from-to c =
    let u = used (lot c.args.q.now c.args.ring_end c.args.n) in
    record {
      good = c.requires.good;
      list = sym (ap (λ (i : ℕ). set u c.args.to (get_or u i empty)) c.if-from-to.true
          ∙ set-get_or u c.args.to empty);
      rest = refl;
    }

pub overflow_sub-free : goal.overflow_sub-free
overflow_sub-free c = used-fits c.args.q.now c.args.ring_end c.args.n c.requires.good

pub read_at-x-requires : goal.read_at-x-requires
read_at-x-requires c = record {
  ring = c.requires.ring;
  i_bound = slot-within c.args.q.now c.args.ring_end c.args.n c.args.from
      c.requires.good c.requires.from_lt_n.0;
}

pub write_at-requires : goal.write_at-requires
write_at-requires c = record {
  ring = c.requires.ring;
  i_bound = slot-within c.args.q.now c.args.ring_end c.args.n c.args.to
      c.requires.good c.requires.from_lt_n.1;
  narrow = c.read_at-x.ensures.narrow;
}

pub returns : goal.returns
returns c =
    let e = c.args.ring_end in
    let k = capacity c.args.q.now - c.args.n + c.args.to in
    let x = c.read_at-x.ensures.is ∙ slot_read c.args.q.now e c.args.n c.args.from c.requires.good
    c.requires.from_lt_n.0 empty in
    let w = c.write_at.ensures in
    let m = slot-set c.args.q.now e c.args.n c.args.to c.requires.good c.requires.from_lt_n.1 _ _
    (w.list ∙ ap (set (turned e (places c.args.q.now)) k) x) in
    record { good = m.0; list = m.1; rest = w.rest }

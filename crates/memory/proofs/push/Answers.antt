-- The part comes back with one more, and then the count: all else shows as before (`changed-at`).
use mathlib.Core.Path.{refl, ap, ◌∙◌}
use mathlib.Core.List.{◌∷◌}
use Prim.Native.Nat.{◌+◌}
use native.Mathlib.Omega.{arith}
use Rattle.places.specs.Places.{Lot, used}
use Rattle.memory.specs.declared.Which.TheVariants.{Started}
use Rattle.memory.proofs.Laws.{lot-at, good-at, room_at, changed-at, started-now}
use Rattle.memory.proofs.push.Goals as goal

pub push-requires : goal.push-requires
push-requires c =
    let count = c.count-n in record {
      good = good-at Started refl refl refl c.requires.form count.ensures;
      n_bound = omega
          (arith, c.requires.m_len_bound.0, count.ensures, room_at Started refl refl c.requires.form);
      narrow = c.requires.m_len_bound.1;
    }

pub returns : goal.returns
returns c =
    let count = c.count-n in
    let push = c.push in
    let l = lot-at Started refl refl refl c.requires.form count.ensures in
    started-now refl c.requires.form
    (changed-at Started refl refl refl c.requires.form push.new.q push.auto.q (count.result + 1) refl
    push.ensures.good (push.ensures.list ∙ ap (λ (x : Lot). c.args.x ∷ used x) l))

-- The part comes back with one session changed, the count as it was (`replaced-now`).
use mathlib.Core.Path.{refl, ap, ◌∙◌}
use native.Mathlib.Omega.{arith}
use lib.ListN.{get_or}
use Rattle.rules.specs.State.{empty}
use Rattle.rules.specs.Instants.{on_air}
use Rattle.places.specs.Places.{Lot, used}
use Rattle.memory.specs.declared.Which.TheVariants.{Started}
use Rattle.memory.proofs.Laws.{lot-at, good-at, replaced-now}
use Rattle.memory.proofs.play.Goals as goal

pub play-requires : goal.play-requires
play-requires c =
    let count = c.count-n in
    let l = lot-at Started refl refl refl c.requires.form count.ensures in record {
      good = good-at Started refl refl refl c.requires.form count.ensures;
      n_nonzero = omega
          (arith, c.requires.nonzero, count.ensures);
      d_bound = omega
          (arith, c.requires.d_bound, ap (λ (x : Lot). (get_or (used x) 0 empty).played.0) l);
    }

pub returns : goal.returns
returns c =
    let count = c.count-n in
    let play = c.play in
    let l = lot-at Started refl refl refl c.requires.form count.ensures in
    replaced-now play.new.q c.requires.form play.auto.q count.ensures
    play.ensures.good (play.ensures.list ∙ ap (λ (x : Lot). on_air c.args.d (used x)) l)

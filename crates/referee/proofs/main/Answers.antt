-- The first stage holds of a fresh splicer and any buffers.
-- Rests on the promise of follow's `fresh`.
use Rattle.std.proofs.Common.{◌≡◌, ℕ, List, replicate, sym, subst}
use lib.ListN.{length-replicate}
use Rattle.follow.specs.declared.Stage.{Stage}
use Rattle.follow.specs.Following.{Holds}
use Rattle.referee.proofs.main.Goals as goal

holds_at : {s t : Stage} (m b o k : List ℕ) → s ≡ t → Holds t m b o k → Holds s m b o k
holds_at m b o k e h = subst (λ y. Holds y m b o k) (sym e) h

pub turns-requires : goal.turns-requires
turns-requires c =
    let begins = c.fresh.ensures.by_index (replicate 4096 0) (replicate 4098 0) (length-replicate {A = ℕ} 4098 0) in
    holds_at _ _ _ _ c.first.ensures begins.holds

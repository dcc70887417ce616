-- The log that `fresh` leaves is zeros, and from there all records are played.
-- Rests on the promises of `fresh` and `turns`.
use Rattle.std.proofs.Common.{List, ℕ, sym, subst, ◌∙◌}
use Rattle.remember.specs.Remembered.{Stopped}
use Rattle.remember.proofs.Turning.{fresh-is}
use Rattle.remember.proofs.play.Goals as goal

pub returns : goal.returns
returns c =
    let buffer = c.large_buffer-log in
    let zeros = c.fresh.ensures.log ∙ fresh-is buffer.result (sym buffer.ensures) in
    subst (λ (g : List ℕ). Stopped g c.turns.result) zeros c.turns.ensures

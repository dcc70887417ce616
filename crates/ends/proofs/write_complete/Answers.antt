-- Either kind leaves the numbers of its one record, which is written behind the last (`tells-part`).
-- Rests on what units and writing promise.
use Rattle.std.proofs.Common.{◌≡◌, ℕ, refl, ap, sym, arith}
use mathlib.Core.Logic.{◌⊎◌, inl, inr}
use Rattle.rules.specs.declared.Session.{Session}
use Rattle.rules.specs.declared.Ending.TheVariants.{Complete, Failed, Response}
use Rattle.rules.specs.declared.Ending.{Ending}
use Rattle.rules.specs.Records.{SpliceComplete}
use Rattle.rules.specs.Ends.{ended}
use Rattle.ends.specs.Does.{Completing}
use Rattle.ends.proofs.Laws.{tells-part}
use Rattle.ends.proofs.write_complete.Goals as goal
use Rattle.ends.proofs.write_complete.Goals.{in-Complete, in-Failed}

failed : (x : Session) (h : Ending) → Completing h → (h ≡ Failed) ⊎ ((r : ℕ) × h ≡ Response r) → SpliceComplete x.conn 109 x.id 0 0
    ≡ ended h x
failed x Failed k e = refl
failed x (Complete r) k e = elim e [ inl p ↦ cc | inr p ↦ absurd (let q = p.1 in cc) ]
failed x (Response r) k e = absurd k

pub returns : goal.returns
returns c =
    let x = c.args.x in
    let k = c.match-how.result in
    let q : SpliceComplete x.conn k.0 x.id k.1 k.2.0 ≡ ended c.args.how x =
    elim c.match-how.branch [
      | in-Complete w ↦ rw (w.result-is, w.to_ticks.ensures) (sym (ap (λ (h : Ending). ended h x) w.in-Complete.is))
      | in-Failed w ↦ rw w.result-is (failed x c.args.how c.requires.completing w.in-Failed.is)
    ] in
    rw (← q) (tells-part (omega (arith, c.requires.room_for_in_bounds)) c.splice_complete.ensures)

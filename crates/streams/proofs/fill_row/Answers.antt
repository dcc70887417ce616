-- Each word is what its reader promises; the stores, one behind the other, are the row (`sets-eq`).
use mathlib.Core.List.{[], ◌∷◌}
use mathlib.Core.Path.{sym, ap, ◌∙◌}
use Prim.Native.Nat.{◌-◌}
use native.Mathlib.Omega.{arith}
use lib.ListN.{get_or}
use lib.Seq.{sets-eq}
use Rattle.rules.specs.Bytes.{written}
use Rattle.rules.proofs.Streams.{length-kept}
use Rattle.streams.proofs.fill_row.Goals as goal

pub returns : goal.returns
unfolding written
returns c =
    let p = c.args.p.now in
    let e = c.args.row.now in
    let last = sym (length-kept p c.requires.p_value) in
    let vs = c.number2.result
    ∷ c.number2-2.result
    ∷ c.number4.result ∷ c.number4-2.result
    ∷ c.number4-3.result ∷ c.number2-3.result ∷ c.number2-4.result
    ∷ (get_or p 0 0 - 21) ∷ [] in
    sets-eq vs e 0 (omega (arith, c.requires.in_bounds))
    ∙ ap (written e 0) (λ i. c.number2.ensures i
    ∷ c.number2-2.ensures i
    ∷ c.number4.ensures i ∷ c.number4-2.ensures i
    ∷ c.number4-3.ensures i ∷ c.number2-3.ensures i ∷ c.number2-4.ensures i ∷ last i
    ∷ [])

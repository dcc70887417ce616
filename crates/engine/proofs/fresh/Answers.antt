-- Each return is one law of proofs/Beginning; that the name is 32 bytes comes from its type.
use mathlib.Core.Path.{◌≡◌, sym, ◌∙◌}
use native.Mathlib.Omega.{arith}
use lib.ListN.{length}
use Rattle.rules.specs.Follows.Wires.{Byte}
use Rattle.rules.proofs.All.{all-at}
use Rattle.engine.proofs.Beginning.{fresh-good, fresh-bad}
use borrow.Author.Rules.{rules}
use Rattle.engine.proofs.fresh.Goals as goal

pub returns-then-has_zero : goal.returns-then-has_zero
returns-then-has_zero c =
    let l = c.args.name.now in
    let n : length l ≡ 32 = search rules in
    rw c.unmoved.ensures (fresh-good l n (all-at Byte 0 l (λ i. omega (arith, c.fits-name i))) c.clear.ensures c.keep_name.ensures
    (sym c.has_zero.ensures ∙ c.if-has_zero.true))

pub returns : goal.returns
returns c =
    let l = c.args.name.now in
    let n : length l ≡ 32 = search rules in
    fresh-bad l n (all-at Byte 0 l (λ i. omega (arith, c.fits-name i))) c.clear.ensures c.clear_name.ensures
    (sym c.has_zero.ensures ∙ c.if-has_zero.false)

-- The engine's fresh, and the counter's words anew; that the name is 32 bytes comes from its type.
use Rattle.std.proofs.Common.{◌≡◌, length, arith, rules}
use Rattle.rules.specs.Follows.Wires.{Byte}
use Rattle.rules.proofs.All.{all-at}
use Rattle.rolling.proofs.Calls.{fresh-rolls}
use Rattle.rolling.proofs.fresh.Goals as goal

pub returns : goal.returns
returns c =
    let n : length c.args.name.now ≡ 32 = search rules in
    fresh-rolls c.args.name.now n (all-at Byte 0 c.args.name.now (λ i. omega (arith, c.fits-name i))) c.fresh-a.ensures (search rules)

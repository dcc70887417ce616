-- `put2` meets its contract: the library's two bytes of the number are those of `bytes`, and they stand in front.
use mathlib.Core.Path.{ap, ◌∙◌}
use mathlib.Core.List.{List, ◌++◌}
use Prim.Native.Nat.{ℕ}
use lib.ListN.{drop}
use Rattle.rules.specs.Bytes.{bytes}
use Rattle.rules.proofs.Bytes.{length-bytes}
use Rattle.writing.proofs.Parts.{written-front, two_bytes}
use Rattle.writing.proofs.put2.Goals as goal

pub returns : goal.returns
returns c =
    let out = c.args.out.now in
    ap (λ (l : List ℕ). l ++ drop 2 out) (c.copy_from_slice.ensures.after ∙ c.to_be_bytes.ensures ∙ two_bytes c.args.x)
    ∙ written-front out (bytes 2 c.args.x) 2 (length-bytes 2 c.args.x)

-- `put4` meets its contract: the library's four bytes of the low part are those of `bytes`, and they stand in front.
use mathlib.Core.Path.{ap, ◌∙◌}
use mathlib.Core.List.{List, ◌++◌}
use Prim.Native.Nat.{ℕ}
use lib.ListN.{drop}
use Rattle.rules.specs.Bytes.{bytes}
use Rattle.rules.proofs.Bytes.{length-bytes}
use Rattle.writing.proofs.Parts.{written-front, four_bytes}
use Rattle.writing.proofs.put4.Goals as goal

pub returns : goal.returns
returns c =
    let out = c.args.out.now in
    ap (λ (l : List ℕ). l ++ drop 4 out) (c.copy_from_slice.ensures.after ∙ c.to_be_bytes.ensures ∙ four_bytes c.args.x)
    ∙ written-front out (bytes 4 c.args.x) 4 (length-bytes 4 c.args.x)

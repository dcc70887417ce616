-- The bytes before the first zero are copied over zeros (`recall_log`). That the name has its length comes from its type.
use mathlib.Core.Path.{◌≡◌, sym, subst}
use mathlib.Core.List.{List}
use Prim.Native.Nat.{ℕ}
use native.Mathlib.Omega.{arith}
use lib.ListN.{length}
use Rattle.rules.specs.Bytes.{name_in}
use Rattle.memory.specs.Memory.{name_size, Named}
use Rattle.memory.proofs.Names.{name-short, kept}
use borrow.Author.Rules.{rules}
use Rattle.memory.proofs.keep_name.Goals as goal

pub copy-requires : goal.copy-requires
copy-requires c =
    let h = name-short c.args.name.now in
    (omega arith, omega arith)

pub returns : goal.returns
returns c =
    let l = c.args.name.now in
    let w : length l ≡ name_size = search rules in
    subst (λ (b : List ℕ). Named b (name_in l)) (sym c.copy.ensures) (kept l _ w c.name_len-n.ensures)

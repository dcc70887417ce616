-- `copy_name` meets its contract: the name's 32 bytes are the name, and they stand in front.
use mathlib.Core.Path.{ap, ◌∙◌}
use mathlib.Core.List.{List, ◌++◌}
use Prim.Native.Nat.{ℕ}
use native.Mathlib.Omega.{arith}
use lib.ListN.{drop, length-take}
use lib.Seq.{take_all}
use Rattle.writing.proofs.Parts.{written-front}
use Rattle.writing.proofs.copy_name.Goals as goal

pub slice_bounds-copy_from_slice-end-2 : goal.slice_bounds-copy_from_slice-end-2
slice_bounds-copy_from_slice-end-2 c = omega (arith, c.requires.name_len, length-take {A = ℕ})

pub copy_from_slice-requires : goal.copy_from_slice-requires
copy_from_slice-requires c = omega (arith, c.requires.name_len, length-take {A = ℕ})

pub copy_from_slice-requires-2 : goal.copy_from_slice-requires-2
copy_from_slice-requires-2 c = omega (arith, c.copy_from_slice.ensures.len, length-take {A = ℕ})

pub returns : goal.returns
returns c =
    let out = c.args.out.now in
    let name = c.args.name.now in
    ap (λ (l : List ℕ). l ++ drop 32 out)
    (c.copy_from_slice-2.ensures.after ∙ c.copy_from_slice.ensures.after ∙ take_all 32 name (omega (arith, c.requires.name_len)))
    ∙ written-front out name 32 c.requires.name_len

-- The structure over zeros (`spread-over`).
use mathlib.Core.Path.{◌≡◌, ap, ◌∙◌}
use borrow.Author.Rules.{rules}
use lib.ListN.{length}
use lib.Seq.{paste}
use Rattle.rules.specs.Hardware.{longest_hardware}
use Rattle.places.specs.Places.{zeros}
use Rattle.memory.proofs.Names.{spread-over}
use Rattle.memory.proofs.put_kept.Goals as goal

pub returns : goal.returns
returns c =
    let h = c.args.h.now in
    let z : c.fill.new.self ≡ zeros longest_hardware = c.fill.ensures.after (search rules) ∙ ap zeros c.requires.k_len in
    c.copy.ensures ∙ ap (λ e. paste e 0 h (length h)) z ∙ spread-over h c.requires.h_len_bound

-- The bytes of the connection are zeros (`forgotten`).
use mathlib.Core.Path.{◌≡◌, ap, ◌∙◌}
use borrow.Author.Rules.{rules}
use Rattle.rules.specs.Hardware.{longest_hardware}
use Rattle.places.specs.Places.{zeros}
use Rattle.memory.proofs.Names.{forgotten, kept-long}
use Rattle.memory.proofs.forget.Goals as goal

pub returns : goal.returns
returns c =
    let z : c.fill.new.self ≡ zeros longest_hardware = c.fill.ensures.after (search rules)
    ∙ ap zeros (kept-long c.args.b.now c.args.c c.requires.stored c.requires.c_bound) in
    rw z (forgotten c.args.b.now c.args.c c.requires.stored c.requires.c_bound)

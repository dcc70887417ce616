-- What most calls do.
use Rattle.std.specs.Prelude.{ℕ}
use Rattle.reply.specs.declared.Did.{Did}

-- a call that consumed nothing and shifted no place
abbrev pub unmoved : ℕ → Did
unmoved len = record { consumed = 0; written = len; moved = 0 }

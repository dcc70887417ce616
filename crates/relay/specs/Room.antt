-- How much room the records of a cue take. Assumes nothing.
use Rattle.std.specs.Prelude.{ℕ, ◌*◌}

-- for n connections: no record takes more than 18 bytes and a section of 512
abbrev pub cue_room : ℕ → ℕ
cue_room n = 530 * n

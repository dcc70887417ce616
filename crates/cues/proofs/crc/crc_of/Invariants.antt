-- The invariant: the bytes that are left take the register to where all of them take the first.
use mathlib.Core.Path.{◌≡◌}
use lib.ListN.{drop}
use Rattle.rules.specs.Crc.{crc_from}
use Rattle.cues.proofs.crc.crc_of.Given as goal

abbrev pub invariant-loop-b : goal.invariant-loop-b
invariant-loop-b l = crc_from l.c (drop l.b-index l.l) ≡ crc_from 0xFFFFFFFF l.l

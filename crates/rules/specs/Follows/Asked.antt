-- What is known of every message that is read: the ranges of its numbers; proofs/Readings shows it.
use Rattle.std.specs.Prelude.{◌≤◌, ◌<◌, None, Option, Some}
use Rattle.rules.specs.declared.Start.{Start}
use Rattle.rules.specs.declared.Start.TheVariants.{Timed, Linked}
use Rattle.rules.specs.declared.Request.{Request}
use Rattle.rules.specs.declared.Message.{Message}
use Rattle.rules.specs.declared.Message.TheVariants.{Init, Alive, Splice, Abort, Config, Extended}
use Rattle.rules.specs.Request.{nobody}

-- a time stays below 2^52
abbrev pub Within : Start → Type 0
Within (Timed t) = t.0 < 4503599627370496
Within (Linked p) = p < nobody

-- of every request
pub record Asked (r : Request) : Type 0 where
  pub id : r.id < 4294967296
  pub start : Within r.start
  pub duration : r.duration.0 < 4294967296
  pub event : r.event < 4294967296
  pub access : r.access ≤ 9
  pub overrides : r.overrides ≤ 1
  pub mux : (1 ≤ r.mux) × (r.mux ≤ 10)

abbrev pub Reads : Option Message → Type 0
Reads (Some (Init revision)) = revision < 65536
Reads (Some Alive) = Unit {0}
Reads (Some (Splice r)) = Asked r
Reads (Some (Abort x)) = x < 4294967296
Reads (Some (Extended x)) = x < 4294967296
Reads (Some Config) = Unit {0}
Reads None = Unit {0}

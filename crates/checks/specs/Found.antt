-- Where a search finds a session, the start of a request if it has one, and how few each connection has.
use Rattle.std.specs.Prelude.{cond, List, Option, Some, None, ℕ, ◌≤◌, ltb, length, get_or}
use Rattle.rules.specs.declared.Ninths.{Ninths}
use Rattle.rules.specs.declared.Start.{Start}
use Rattle.rules.specs.declared.Start.TheVariants.{Timed, Linked}
use Rattle.rules.specs.Units.{from_micros}
use Rattle.rules.specs.Lists.{place}
use Rattle.rules.specs.State.{Queue, is, held, holds}
use Rattle.rules.specs.Splicing.{end_of}
use Rattle.memory.specs.declared.Which.TheVariants.{Waiting, Started}
use Rattle.memory.specs.declared.Which.{Which}
use Rattle.checks.specs.declared.Place.{Place}

-- the place i of a list
abbrev pub placed : Which → ℕ → Place
placed v i = record { which = v; at = i }

-- where connection c's number x is held
unfoldable pub where_in : ℕ → ℕ → Queue → Option Place
where_in c x q =
    let i = place (is c x) q.waiting in
    let j = place (is c x) q.started in
    cond (ltb i (length q.waiting)) (Some (placed Waiting i)) (cond (ltb j (length q.started)) (Some (placed Started j)) None)

-- the end of connection c's number x, if it holds one
unfoldable pub end_in : ℕ → ℕ → Queue → Option Ninths
end_in c x q = cond (holds c x q) (Some (record { 0 = end_of c x (held q) })) None

-- the start that a request asks for: none, if its prior is not held
unfoldable pub start_in : ℕ → Start → Queue → Option Ninths
start_in c (Timed t) q = Some (from_micros t)
start_in c (Linked p) q = end_in c p q

-- t: how many of each connection wait, in 64 places
abbrev pub Few : List ℕ → Type 0
Few t = (c : ℕ) → c ≤ 3 → get_or t c 0 ≤ 64

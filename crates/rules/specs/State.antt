-- The splicer as plain lists and numbers: sessions held, connections, the clock in ninths, the ChannelName.
use Rattle.std.specs.Prelude.{Bool, true, false, cond, ◌&&◌, List, [], ◌∷◌, ◌++◌, ℕ, ◌+◌, ◌*◌, eqb, leb, ltb, length, get_or, set}
use Rattle.rules.specs.declared.Ninths.{Ninths}
use Rattle.rules.specs.declared.Session.{Session}
use Rattle.rules.specs.declared.Past.{Past}
use Rattle.rules.specs.declared.Link.{Link}
use Rattle.rules.specs.declared.Link.TheVariants.{Closed, Opened, Initialised}
use Rattle.rules.specs.Lists.{some}
use Rattle.std.specs.declared.option.Option.{Option}
use Rattle.std.specs.declared.option.Option.TheVariants.{Some, None}

-- 02, CR 8: "the last 16 ended sessions", in sixteen places that are written in turn, the oldest over. next: the place of the next end
pub record Lately : Type 0 where
  pub places : List Past
  pub next : ℕ

-- waiting: in order of start, the next first.
-- started: from the highest AccessType down: the first is on air, the others are covered.
-- lately: what ended lately.
pub record Queue : Type 0 where
  pub waiting : List Session
  pub started : List Session
  pub lately : Lately

-- name: the configured ChannelName, up to its first zero. links: of connections 0 to 3. primary: 02, CR 13, the ninths up to the clock in
-- which nothing was on air. hardware: 02, CR 6, of connections 0 to 3, the Hardware_Config that is kept, its Length before it
-- "One output channel"
pub record Splicer : Type 0 where
  pub name : List ℕ
  pub clock : ℕ
  pub primary : ℕ
  pub links : List Link
  pub hardware : List (List ℕ)
  pub queue : Queue

-- ## Sessions

-- what stands where no session is
unfoldable pub empty : Session
empty =
    record {
      conn = 0;
      id = 0;
      prior = 0;
      start = record { 0 = 0 };
      end = record { 0 = 0 };
      access = 0;
      overrides = 0;
      mux = 0;
      event = 0;
      played = record { 0 = 0 };
    }

-- s is connection c's
abbrev pub of : ℕ → Session → Bool
of c s = eqb c s.conn

-- connection c's number x and connection c''s number x' are one
abbrev pub same_number : (c x c' x' : ℕ) → Bool
same_number c x c' x' = eqb c c' && eqb x x'

-- s is connection c's number x
abbrev pub is : ℕ → ℕ → Session → Bool
is c x s = same_number c x s.conn s.id

-- s was requested behind connection c's number x
abbrev pub follows : ℕ → ℕ → Session → Bool
follows c x s = same_number c x s.conn s.prior

abbrev pub starts_at : ℕ → Session → Bool
starts_at t s = eqb t s.start.0

abbrev pub starts_after : ℕ → Session → Bool
starts_after t s = ltb t s.start.0

abbrev pub ends_at : ℕ → Session → Bool
ends_at t s = eqb t s.end.0

-- "Held means waiting, on air or covered."
abbrev pub held : Queue → List Session
held q = q.waiting ++ q.started

abbrev pub holds : ℕ → ℕ → Queue → Bool
holds c x q = some (is c x) (held q)

-- ## The next start or end

-- the sooner of two instants
abbrev pub sooner : Option Ninths → Option Ninths → Option Ninths
sooner None u = u
sooner (Some t) None = Some t
sooner (Some t) (Some u) = cond (leb t.0 u.0) (Some t) (Some u)

-- the earliest start, or end, of l
abbrev pub earliest : (Session → Ninths) → List Session → Option Ninths
earliest f [] = None
earliest f (s ∷ l) = sooner (Some (f s)) (earliest f l)

-- the next start or end
unfoldable pub due : Queue → Option Ninths
due q = sooner (earliest (λ s. s.end) q.started) (earliest (λ s. s.start) q.waiting)

-- t, if it is "not later than" the time until
abbrev pub not_after : ℕ → Option Ninths → Option Ninths
not_after until None = None
not_after until (Some t) = cond (ltb until t.0) None (Some t)

-- the starts and ends that are still to come
abbrev pub to_come : Queue → ℕ
to_come q = 2 * length q.waiting + length q.started

-- ## Connections

abbrev pub link_of : ℕ → Splicer → Link
link_of c s = get_or s.links c Closed

abbrev pub is_open : Link → Bool
is_open Closed = false
is_open Opened = true
is_open Initialised = true

abbrev pub is_initialised : Link → Bool
is_initialised Closed = false
is_initialised Opened = false
is_initialised Initialised = true

-- 02, CR 6: what stands where no Hardware_Config is kept: a Length 0
abbrev pub no_hardware : List ℕ
no_hardware = 0 ∷ 0 ∷ []

abbrev pub hardware_of : ℕ → Splicer → List ℕ
hardware_of c s = get_or s.hardware c no_hardware

-- ## The state with one part made anew

abbrev pub with_queue : Queue → Splicer → Splicer
with_queue q s = record { name = s.name; clock = s.clock; primary = s.primary; links = s.links; hardware = s.hardware; queue = q }

abbrev pub with_link : ℕ → Link → Splicer → Splicer
with_link c l s =
    record { name = s.name; clock = s.clock; primary = s.primary; links = set s.links c l; hardware = s.hardware; queue = s.queue }

-- connection c keeps the Hardware_Config h
abbrev pub with_hardware : ℕ → List ℕ → Splicer → Splicer
with_hardware c h s =
    record { name = s.name; clock = s.clock; primary = s.primary; links = s.links; hardware = set s.hardware c h; queue = s.queue }

-- d ninths more of it were the primary channel's
abbrev pub with_clock : (clock d : ℕ) → Splicer → Splicer
with_clock t d s =
    record { name = s.name; clock = t; primary = s.primary + d; links = s.links; hardware = s.hardware; queue = s.queue }

abbrev pub with_waiting : List Session → Queue → Queue
with_waiting w q = record { waiting = w; started = q.started; lately = q.lately }

abbrev pub with_started : List Session → Queue → Queue
with_started k q = record { waiting = q.waiting; started = k; lately = q.lately }

abbrev pub with_lately : Lately → Queue → Queue
with_lately l q = record { waiting = q.waiting; started = q.started; lately = l }

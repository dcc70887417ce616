-- What holds of every splicer that fresh and the calls since have given; proofs/Sound shows it.
use Rattle.std.specs.Prelude.{Bool, true, false, ◌&&◌, List, [], ◌∷◌, ◌≡◌, ℕ, ◌+◌, ◌*◌, ◌≤◌, ◌<◌, eqb, length}
use Rattle.rules.specs.declared.Session.{Session}
use Rattle.rules.specs.declared.Past.{Past}
use Rattle.rules.specs.Lists.{some, count, All}
use Rattle.rules.specs.Units.{horizon}
use Rattle.rules.specs.State.{Queue, Splicer, of, is, link_of, is_initialised, hardware_of, no_hardware, is_open, Lately}
use Rattle.rules.specs.Recent.{most_kept}
use Rattle.rules.specs.Hardware.{length_in, longest_hardware}
use Rattle.rules.specs.Request.{nobody}
use Rattle.rules.specs.Records.{Record, General, InitResponse, AliveResponse, SpliceResponse, AbortResponse, ConfigResponse}
use Rattle.rules.specs.Records.{ExtendedFound, ExtendedNone, SpliceComplete, CueRequest, result_of}
use Rattle.rules.specs.Splicing.{waits, sum_of}
use Rattle.rules.specs.Calls.{fresh, Call, opens, closes, messages, ticks, moves, cues, after}
use Rattle.rules.specs.Follows.Wires.{Byte, NoZero, Sorted}

abbrev pub raised_sum : List Session → ℕ
raised_sum w = sum_of (λ c. waits c w)

-- ## The sessions held at a time: the clock, or an instant of a tick

-- P holds of each session held
pub record Each (P : Session → Type 0) (q : Queue) : Type 0 where
  pub waiting : All P q.waiting
  pub started : All P q.started

-- how many held ones pass p
abbrev pub held_count : Queue → (Session → Bool) → ℕ
held_count q p = count p q.waiting + count p q.started

abbrev pub Later : ℕ → Session → Type 0
Later now s = (now < s.start.0) × (s.start.0 < s.end.0)

-- starts are in order, no two alike, and after the time; ends are after it
pub record OnTime (now : ℕ) (q : Queue) : Type 0 where
  pub sorted : Sorted q.waiting
  pub later : All (Later now) q.waiting
  pub ends : All (λ s. now < s.end.0) q.started

abbrev pub Since : ℕ → Session → Type 0
Since now s = s.start.0 + s.played.0 ≤ now

-- nothing that waits was on air, and a started session was not on air for longer than since its start
pub record Played (now : ℕ) (q : Queue) : Type 0 where
  pub silent : All (λ s. s.played.0 ≡ 0) q.waiting
  pub since : All (Since now) q.started

-- AccessTypes fall strictly: no two are the same
-- 02, CR 4: "so no two started sessions ever have the same AccessType"
abbrev pub Falling : List Session → Type 0
Falling [] = Unit {0}
Falling (s ∷ k) = All (λ u. u.access < s.access) k × Falling k

-- at most 20 of a connection wait, and the raised counts sum to at most 64
pub record Room (w : List Session) : Type 0 where
  pub each : (c : ℕ) → waits c w ≤ 20
  pub sum : raised_sum w ≤ 64

-- a session as it was accepted, whatever the bytes
pub record Proper (s : Session) : Type 0 where
  pub conn : s.conn ≤ 3
  pub somebody : eqb s.id nobody ≡ false
  pub access : s.access ≤ 9
  pub overrides : s.overrides ≤ 1
  pub mux : (1 ≤ s.mux) × (s.mux ≤ 10)
  pub lasts : s.start.0 < s.end.0

-- the numbers that bytes hold: a SessionID and a PriorSession are four of them, and so is a Duration
pub record Small (s : Session) : Type 0 where
  pub id : s.id < 0xFFFFFFFF
  pub event : s.event ≤ 0xFFFFFFFF
  pub prior : s.prior ≤ 0xFFFFFFFF
  pub duration : s.end.0 ≤ s.start.0 + 100 * 0xFFFFFFFF
  pub timed : s.prior ≡ nobody → s.start.0 < horizon

-- no connection holds a number twice
abbrev pub Once : Queue → Type 0
Once q = (c x : ℕ) → held_count q (is c x) ≤ 1

-- u is the number that s names, and ends where s starts
abbrev pub is_prior : Session → Session → Bool
is_prior s u = is s.conn s.prior u && eqb s.start.0 u.end.0

-- n counts sessions: the prior of s, if it names one, is among them
abbrev pub Tied : ((Session → Bool) → ℕ) → Session → Type 0
Tied n s = eqb s.prior nobody ≡ false → 0 < n (is_prior s)

pub record Holding (now : ℕ) (q : Queue) : Type 0 where
  pub timed : OnTime now q
  pub played : Played now q
  pub falling : Falling q.started
  pub room : Room q.waiting
  pub proper : Each Proper q
  pub small : Each Small q
  pub once : Once q
  pub tied : All (Tied (held_count q)) q.waiting

-- ## 02, CR 8: what ended lately

-- the numbers of what is kept, or of a place where none is
pub record Noted (e : Past) : Type 0 where
  pub conn : e.conn ≤ 3
  pub id : e.id ≤ 0xFFFFFFFF
  pub event : e.event ≤ 0xFFFFFFFF
  pub result : e.result < 65536
  pub played : e.played ≤ 0xFFFFFFFF

pub record Recalled (l : Lately) : Type 0 where
  pub sixteen : length l.places ≡ most_kept
  pub next : l.next < most_kept
  pub noted : All Noted l.places

-- ## The splicer

-- 02, CR 6: a Hardware_Config that is kept has as many bytes as its Length says, "up to 256 bytes with its Length"
pub record Structure (h : List ℕ) : Type 0 where
  pub whole : length h ≡ 2 + length_in h
  pub short : length h ≤ longest_hardware
  pub bytes : All Byte h

-- four connections, of which a closed one holds nothing; a name of less than 32 bytes, none of them zero; 02, CR 6: of each connection a
-- Hardware_Config, of Length 0 where it is not initialised
pub record Linking (s : Splicer) : Type 0 where
  pub four : length s.links ≡ 4
  pub shut : (c : ℕ) → is_open (link_of c s) ≡ false → held_count s.queue (of c) ≡ 0
  pub zeros : NoZero s.name
  pub short : length s.name < 32
  pub bytes : All Byte s.name
  pub keeping : length s.hardware ≡ 4
  pub kept : All Structure s.hardware
  pub unkept : (c : ℕ) → is_initialised (link_of c s) ≡ false → hardware_of c s ≡ no_hardware

pub record Sound (s : Splicer) : Type 0 where
  pub linking : Linking s
  pub clock : s.clock < horizon
  pub primary : s.primary ≤ s.clock
  pub holding : Holding s.clock s.queue
  pub lately : Recalled s.queue.lately

-- ## "A splicer is what fresh and the calls since have given; a call may rely on that and on nothing else."

-- a call whose bytes, those of lent sections too, are bytes and whose Seconds are four of them, or whose time in ninths is below all that
-- those have
abbrev pub Wired : Call → Type 0
Wired (opens c) = Unit {0}
Wired (closes c room) = Unit {0}
Wired (messages c l loans) = All Byte l × All Byte loans.primary × All Byte loans.insertion
Wired (ticks seconds micros room) = seconds < 4294967296
Wired (moves until room) = until < horizon
Wired (cues l pts seconds micros room) = All Byte l

pub record Reached (s : Splicer) : Type 0 where
  pub name : List ℕ
  pub whole : length name ≡ 32
  pub bytes : All Byte name
  pub calls : List Call
  pub wired : All Wired calls
  pub same : s ≡ after calls (fresh name).splicer

-- ## 02, CR 1: "From here result 110 is no longer met"

-- the result codes that are given
abbrev pub codes : List ℕ
codes = 100 ∷ 102 ∷ 103 ∷ 104 ∷ 109 ∷ 112 ∷ 114 ∷ 116 ∷ 117 ∷ 120 ∷ 121 ∷ 123 ∷ 125 ∷ []

abbrev pub Given : ℕ → Type 0
Given n = some (eqb n) codes ≡ true

-- 02, CR 7: of a Cue_Request 0xFFFF alone
abbrev pub codes_of : Record → List ℕ
codes_of (General c r) = codes
codes_of (InitResponse c r name) = codes
codes_of (AliveResponse c r state x t) = codes
codes_of (SpliceResponse c r x) = codes
codes_of (SpliceComplete c r x flag played) = codes
codes_of (AbortResponse c r x) = codes
codes_of (CueRequest c a u l) = 0xFFFF ∷ []
codes_of (ExtendedFound c x event ended played) = codes
codes_of (ExtendedNone c x) = codes
codes_of (ConfigResponse c r name hardware section) = codes

abbrev pub Coded : Record → Type 0
Coded r = some (eqb (result_of r)) (codes_of r) ≡ true

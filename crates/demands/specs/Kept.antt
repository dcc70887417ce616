-- 02, CR 6: the Hardware_Config that a connection keeps, from the calls and the answers' bytes alone, and the answers that tell it.
use Rattle.std.specs.Prelude.{◌≡◌, Bool, true, false, cond, ◌&&◌, List, [], ◌∷◌, ℕ, eqb, Ok}
use Rattle.rules.specs.Reading.{alive_request, config_request}
use Rattle.rules.specs.Hardware.{hardware_in}
use Rattle.rules.specs.Follows.ReadBack.{data_in}
use Rattle.rules.specs.State.{Splicer, no_hardware, link_of, is_initialised}
use Rattle.rules.specs.Records.{Record, General, InitResponse, AliveResponse, SpliceResponse, SpliceComplete, AbortResponse, ConfigResponse}
use Rattle.rules.specs.Records.{ExtendedFound, ExtendedNone, CueRequest}
use Rattle.rules.specs.Follows.ReadBack.{records_in}
use Rattle.rules.specs.HouseNumbers.{no_connection, no_room, long_section, Loans}
use Rattle.rules.specs.Calls.{framing, Call, opens, closes, messages, ticks, moves, cues}
use Rattle.rules.specs.Follows.Sound.{Wired}
use Rattle.demands.specs.History.{Reply, refusal, wrote, Event}
use Rattle.rules.specs.Calls.{headed}

-- ## What is kept: "the Hardware_Config of their Init_Request"; "A later Init that gets 100 replaces it; close forgets it."

-- the record is an Init_Response 100
unfoldable pub is_initialising : Record → Bool
is_initialising (General c r) = false
is_initialising (InitResponse c r n) = eqb r 100
is_initialising (AliveResponse c r state x t) = false
is_initialising (SpliceResponse c r x) = false
is_initialising (SpliceComplete c r x flag played) = false
is_initialising (AbortResponse c r x) = false
is_initialising (ConfigResponse c r n h m) = false
is_initialising (ExtendedFound c x event ended played) = false
is_initialising (ExtendedNone c x) = false
is_initialising (CueRequest c a u l) = false

-- the answer is that one record
unfoldable pub initialises : List Record → Bool
initialises [] = false
initialises (r ∷ []) = is_initialising r
initialises (r ∷ t ∷ rs) = false

-- a good call with an answer changes what connection c keeps: its close, or its Init_Request answered with 100. An open finds nothing kept
unfoldable pub changes : ℕ → Call → List Record → Bool
changes c (opens d) rs = false
changes c (closes d room) rs = eqb c d
changes c (messages d l loans) rs = initialises rs && eqb c d
changes c (ticks seconds micros room) rs = false
changes c (moves until room) rs = false
changes c (cues l pts seconds micros room) rs = false

-- to this
unfoldable pub left : Call → List ℕ
left (opens d) = no_hardware
left (closes d room) = no_hardware
left (messages d l loans) = hardware_in (data_in l)
left (ticks seconds micros room) = no_hardware
left (moves until room) = no_hardware
left (cues l pts seconds micros room) = no_hardware

unfoldable pub changed : ℕ → Call → Reply → Bool
changed c k (refusal n) = false
changed c k (wrote l) = changes c k (records_in l)

-- what c keeps behind a history, if it kept h before
unfoldable pub kept_behind : ℕ → List Event → List ℕ → List ℕ
kept_behind c [] h = h
kept_behind c (e ∷ es) h = kept_behind c es (cond (changed c e.call e.reply) (left e.call) h)

-- from fresh on
unfoldable pub kept_told : ℕ → List Event → List ℕ
kept_told c es = kept_behind c es no_hardware

-- ## Requests

-- the bytes l of connection c begin with a whole message of that MessageID and that size, and no number but 7 stops the call
pub record Sends (c : ℕ) (l : List ℕ) (loans : Loans) (id size : ℕ) (s : Splicer) : Type 0 where
  pub bytes : Wired (messages c l loans)
  pub low : no_connection c ≡ false
  pub roomy : no_room loans.room ≡ false
  pub sections : long_section loans ≡ false
  -- l begins with it
  pub framed : framing l ≡ Ok (headed id size)

-- a GetConfig_Request without data
abbrev pub AsksConfig : ℕ → List ℕ → Loans → Splicer → Type 0
AsksConfig c l loans s = Sends c l loans config_request 0 s

-- an Alive_Request
abbrev pub AsksAlive : ℕ → List ℕ → Loans → Splicer → Type 0
AsksAlive c l loans s = Sends c l loans alive_request 8 s

-- the connection is initialised
abbrev pub Ready : ℕ → Splicer → Type 0
Ready c s = is_initialised (link_of c s) ≡ true

-- the State of an Alive_Response that is the first record
unfoldable pub state_in : List Record → ℕ
state_in [] = 0
state_in (General c r ∷ rs) = 0
state_in (InitResponse c r n ∷ rs) = 0
state_in (AliveResponse c r state x t ∷ rs) = state
state_in (SpliceResponse c r x ∷ rs) = 0
state_in (SpliceComplete c r x flag played ∷ rs) = 0
state_in (AbortResponse c r x ∷ rs) = 0
state_in (ConfigResponse c r n h m ∷ rs) = 0
state_in (ExtendedFound c x event ended played ∷ rs) = 0
state_in (ExtendedNone c x ∷ rs) = 0
state_in (CueRequest c a u l ∷ rs) = 0

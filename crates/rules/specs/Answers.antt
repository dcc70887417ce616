-- 01, "Answering a message, first that applies".
use Rattle.std.specs.Prelude.{Bool, false, cond, not, ◌&&◌, List, [], ◌∷◌, ℕ, eqb, get_or, None, Option, Some}
use Rattle.rules.specs.declared.Message.{Message}
use Rattle.rules.specs.declared.Message.TheVariants.{Init, Alive, Splice, Abort, Config, Extended}
use Rattle.rules.specs.declared.Link.TheVariants.{Initialised}
use Rattle.rules.specs.declared.Session.{Session}
use Rattle.rules.specs.declared.Past.{Past}
use Rattle.rules.specs.Lists.{place}
use Rattle.rules.specs.Units.{to_micros}
use Rattle.rules.specs.Bytes.{same_name}
use Rattle.rules.specs.State.{Queue, Splicer, same_number, holds, link_of, is_initialised, hardware_of, with_queue, with_link}
use Rattle.rules.specs.State.{with_hardware}
use Rattle.rules.specs.Recent.{unused, is_kept, recent}
use Rattle.rules.specs.Hardware.{hardware_in}
use Rattle.rules.specs.Descriptors.{average_mux}
use Rattle.rules.specs.Request.{nobody}
use Rattle.rules.specs.Reading.{init_request, channel_name, is_read, read}
use Rattle.rules.specs.Records.{Record, General, InitResponse, AliveResponse, AbortResponse, ConfigResponse, ExtendedFound}
use Rattle.rules.specs.Records.{ExtendedNone}
use Rattle.rules.specs.Ends.{Turn, and_then, writes, aborted}
use Rattle.rules.specs.Splicing.{Spliced, answer_splice}

-- the splicer after an answer, and the records of the answer; 02, CR 11: whether it accepted a request, and how many places that shifted
pub record Answered : Type 0 where
  pub splicer : Splicer
  pub written : List Record
  pub accepted : Bool
  pub moved : ℕ

-- nothing changes
abbrev pub says : List Record → Splicer → Answered
says rs s = record { splicer = s; written = rs; accepted = false; moved = 0 }

-- what a turn did to the sessions held
abbrev pub turns : Turn → Splicer → Answered
turns t s = record { splicer = with_queue t.queue s; written = t.written; accepted = false; moved = 0 }

-- ## Init

-- "Revision not 2 gives 102, another name 104, else 100"
-- "Init: Revision not 2 gives 102"
unfoldable pub init_result : ℕ → List ℕ → List ℕ → ℕ
init_result revision asked name = cond (not (eqb revision 2)) 102 (cond (not (same_name asked name)) 104 100)

-- "else 100 and initialised"; 02, CR 6: "A later Init that gets 100 replaces it"
abbrev pub initialised : ℕ → List ℕ → Splicer → Splicer
initialised c hardware s = with_hardware c hardware (with_link c Initialised s)

-- "A failed later Init leaves the connection initialised. All three are Init_Response."
unfoldable pub answer_init : ℕ → ℕ → List ℕ → Splicer → Answered
answer_init c revision d s =
    let r = init_result revision (channel_name d) s.name in
    says (InitResponse c r s.name ∷ []) (cond (eqb r 100) (initialised c (hardware_in d) s) s)

-- ## Alive

-- "State 2 and the SessionID on air, or State 1 and 0xFFFFFFFF"
unfoldable pub air_state : List Session → ℕ
air_state [] = 1
air_state (air ∷ k) = 2

unfoldable pub air_id : List Session → ℕ
air_id [] = nobody
air_id (air ∷ k) = air.id

-- 02, CR 5: "the caller can read that of the one on air, 5 with none"
unfoldable pub air_mux : List Session → ℕ
air_mux [] = average_mux
air_mux (air ∷ k) = air.mux

-- the one on air, in words: 1, its connection and SessionID, its start, end and time on air so far in ninths, its SpliceEventID, AccessType
-- and MuxPriorityValue; with none all 0
unfoldable pub air_row : List Session → List ℕ
air_row [] = 0 ∷ 0 ∷ 0 ∷ 0 ∷ 0 ∷ 0 ∷ 0 ∷ 0 ∷ 0 ∷ []
air_row (air ∷ k) =
    1 ∷ air.conn ∷ air.id ∷ air.start.0 ∷ air.end.0 ∷ air.played.0 ∷ air.event ∷ air.access ∷ air.mux ∷ []

-- "the present clock, microseconds rounded down"
-- "Alive: 100"
unfoldable pub alive_response : ℕ → Splicer → Record
alive_response c s =
    AliveResponse c 100 (air_state s.queue.started) (air_id s.queue.started) (to_micros (record { 0 = s.clock })).0

-- ## 02, CR 6: GetConfig

-- "Our card passes the map of the feed that is on air", which is the insertion's exactly where Alive's State is 2: 0 the primary's, 1 the
-- insertion's
unfoldable pub air_feed : List Session → ℕ
air_feed [] = 0
air_feed (air ∷ k) = 1

-- "the caller lends both sections, the primary's and the insertion's, and gets back the one on air"
abbrev pub air_map : List Session → (primary insertion : List ℕ) → List ℕ
air_map k primary insertion = cond (eqb (air_feed k) 0) primary insertion

-- section: the one on air
unfoldable pub config_response : ℕ → (section : List ℕ) → Splicer → Record
config_response c section s = ConfigResponse c 100 s.name (hardware_of c s) section

-- ## Abort

-- "Abort: Abort_Response 121 if this connection doesn't hold the SessionID; else 100, then the session's end and after it its followers'
-- ends"
unfoldable pub answer_abort : ℕ → ℕ → Queue → Turn
answer_abort c x q =
    cond (holds c x q)
    (and_then (writes (AbortResponse c 100 x ∷ []) q) (aborted c x))
    (writes (AbortResponse c 121 x ∷ []) q)

-- ## 02, CR 8: what ended lately

-- e is kept, and is of connection c's number x
abbrev pub is_past : ℕ → ℕ → Past → Bool
is_past c x e = is_kept e && same_number c x e.conn e.id

-- "the asking connection's latest ended session of that number": the first such of l, which has the newest first, or what stands where none
-- is
unfoldable pub latest : ℕ → ℕ → List Past → Past
latest c x l = get_or l (place (is_past c x) l) unused

-- "121 with the SessionID alone where none is kept"
abbrev pub recalls : ℕ → ℕ → Past → Record
recalls c x e = cond (is_kept e) (ExtendedFound c x e.event e.result e.played) (ExtendedNone c x)

unfoldable pub extended_response : ℕ → ℕ → Queue → Record
extended_response c x q = recalls c x (latest c x (recent q.lately))

-- ## Splice

abbrev pub splices : Spliced → Splicer → Answered
splices a s =
    record { splicer = with_queue a.turn.queue s; written = a.turn.written; accepted = a.accepted; moved = a.moved }

-- ## The answer

-- a message of that list, read from the data d; section: the map on air. "5. Not readable: General_Response 123."
unfoldable pub answer_read : ℕ → Option Message → List ℕ → (section : List ℕ) → Splicer → Answered
answer_read c (Some (Init revision)) d section s = answer_init c revision d s
answer_read c (Some Alive) d section s = says (alive_response c s ∷ []) s
answer_read c (Some (Splice r)) d section s = splices (answer_splice s.clock c r s.queue) s
answer_read c (Some (Abort x)) d section s = turns (answer_abort c x s.queue) s
answer_read c (Some (Extended x)) d section s = says (extended_response c x s.queue ∷ []) s
answer_read c (Some Config) d section s = says (config_response c section s ∷ []) s
answer_read c None d section s = says (General c 123 ∷ []) s

-- "1. ID 0x0000: no answer. 2. Not initialised and not Init_Request: General_Response 103. 3. ID 0x000D: no answer.
-- 4. ID not in the list of four: General_Response 120." 02, CR 8 and CR 6: of six
unfoldable pub answer : ℕ → ℕ → List ℕ → (section : List ℕ) → Splicer → Answered
answer c id d section s =
    cond (eqb id 0x0000) (says [] s)
    (cond (not (is_initialised (link_of c s)) && not (eqb id init_request)) (says (General c 103 ∷ []) s)
    (cond (eqb id 0x000D) (says [] s)
    (cond (not (is_read id)) (says (General c 120 ∷ []) s)
    (answer_read c (read id d) d section s))))

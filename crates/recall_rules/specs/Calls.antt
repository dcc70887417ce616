-- 01's answers and calls over verdicts, and a pass over any list of calls.
use Rattle.std.specs.Prelude.{Bool, false, cond, not, ◌&&◌, List, [], ◌∷◌, ℕ, ◌+◌, eqb, ltb, get_or, set, Err, Ok, Result}
use Rattle.rules.specs.declared.Link.{Link}
use Rattle.rules.specs.declared.Link.TheVariants.{Closed, Opened, Initialised}
use Rattle.rules.specs.declared.Refusal.{Refusal}
use Rattle.rules.specs.declared.Refusal.TheVariants.{NoConnection, NoRoom, ClockBack, AlreadyOpen, NotOpen, BadMicros, LongSection}
use Rattle.rules.specs.declared.Refusal.TheVariants.{BadSection}
use Rattle.rules.specs.declared.Message.{Message}
use Rattle.rules.specs.declared.Message.TheVariants.{Init, Alive, Splice, Abort, Config, Extended}
use Rattle.rules.specs.Units.{time_of, bad_micros, from_micros, to_micros}
use Rattle.rules.specs.Bytes.{data_of}
use Rattle.rules.specs.Reading.{init_request, channel_name, is_read, read}
use Rattle.rules.specs.Hardware.{hardware_in}
use Rattle.rules.specs.State.{no_hardware, is_open, is_initialised}
use Rattle.rules.specs.Records.{Record, General, InitResponse, AliveResponse, ConfigResponse}
use Rattle.rules.specs.Answers.{init_result}
use Rattle.rules.specs.Cues.{bad_section, read_cue, cue_time, initialised_ones, cue_records}
use Rattle.rules.specs.HouseNumbers.{Answer, refused, good, no_connection, no_room, long_section, Loans}
use Rattle.rules.specs.Calls.{framing, Call, opens, closes, messages}
use Rattle.rules.specs.Calls.{ticks, moves, cues}
use Rattle.recall_rules.specs.Verdicts.{Verdict}
use Rattle.recall_rules.specs.Work.{Turn, Spliced, closed_by, run_all, answer_splice, answer_abort, air_state, air_id, air_feed}
use Rattle.recall_rules.specs.Work.{extended_response}
use Rattle.rules.specs.declared.Header.{Header}
use Rattle.std.specs.declared.option.Option.{Option}
use Rattle.std.specs.declared.option.Option.TheVariants.{Some, None}

-- what a pass over calls carries; hardware: 02, CR 6, of connections 0 to 3, the Hardware_Config of the latest Init_Request that got 100,
-- its
-- Length before it. 02's CR 13 keeps a primary sum too, which no answer of 01's calls shows
pub record Pass : Type 0 where
  pub name : List ℕ
  pub clock : ℕ
  pub links : List Link
  pub hardware : List (List ℕ)
  pub verdicts : List Verdict

-- after an answer, and its records; 02, CR 11
pub record Answered : Type 0 where
  pub pass : Pass
  pub written : List Record
  pub accepted : Bool
  pub moved : ℕ

pub record Called : Type 0 where
  pub pass : Pass
  pub answer : Answer
  pub accepted : Bool
  pub moved : ℕ

abbrev pub link_of : ℕ → Pass → Link
link_of c s = get_or s.links c Closed

abbrev pub not_open : ℕ → Pass → Bool
not_open c s = not (is_open (link_of c s))

abbrev pub with_link : ℕ → Link → Pass → Pass
with_link c k s =
    record { name = s.name; clock = s.clock; links = set s.links c k; hardware = s.hardware; verdicts = s.verdicts }

abbrev pub with_hardware : ℕ → List ℕ → Pass → Pass
with_hardware c h s =
    record { name = s.name; clock = s.clock; links = s.links; hardware = set s.hardware c h; verdicts = s.verdicts }

abbrev pub with_verdicts : List Verdict → Pass → Pass
with_verdicts l s = record { name = s.name; clock = s.clock; links = s.links; hardware = s.hardware; verdicts = l }

abbrev pub with_clock : ℕ → Pass → Pass
with_clock t s = record { name = s.name; clock = t; links = s.links; hardware = s.hardware; verdicts = s.verdicts }

-- ## The answer to a message

abbrev pub says : List Record → Pass → Answered
says rs s = record { pass = s; written = rs; accepted = false; moved = 0 }

abbrev pub turns : Turn → Pass → Answered
turns t s = record { pass = with_verdicts t.verdicts s; written = t.written; accepted = false; moved = 0 }

abbrev pub splices : Spliced → Pass → Answered
splices a s =
    record { pass = with_verdicts a.turn.verdicts s; written = a.turn.written; accepted = a.accepted; moved = a.moved }

-- 02, CR 6: "A later Init that gets 100 replaces it"
abbrev pub initialised : ℕ → List ℕ → Pass → Pass
initialised c hardware s = with_hardware c hardware (with_link c Initialised s)

-- "Revision not 2 gives 102, another name 104, else 100 and initialised. A failed later Init leaves the connection initialised."
unfoldable pub answer_init : ℕ → ℕ → List ℕ → Pass → Answered
answer_init c revision d s =
    let r = init_result revision (channel_name d) s.name in
    says (InitResponse c r s.name ∷ []) (cond (eqb r 100) (initialised c (hardware_in d) s) s)

-- "the present clock, microseconds rounded down"
unfoldable pub alive_response : ℕ → Pass → Record
alive_response c s = AliveResponse c 100 (air_state s.verdicts) (air_id s.verdicts) (to_micros (record { 0 = s.clock })).0

-- 02, CR 6: ChannelName, the Hardware_Config that is kept, and the section on air
unfoldable pub config_response : ℕ → (section : List ℕ) → Pass → Record
config_response c section s = ConfigResponse c 100 s.name (get_or s.hardware c no_hardware) section

-- section: the map on air. "5. Not readable: General_Response 123."
unfoldable pub answer_read : ℕ → Option Message → List ℕ → (section : List ℕ) → Pass → Answered
answer_read c (Some (Init revision)) d section s = answer_init c revision d s
answer_read c (Some Alive) d section s = says (alive_response c s ∷ []) s
answer_read c (Some (Splice r)) d section s = splices (answer_splice s.clock c r s.verdicts) s
answer_read c (Some (Abort x)) d section s = turns (answer_abort c x s.verdicts) s
answer_read c (Some (Extended x)) d section s = says (extended_response c x s.verdicts ∷ []) s
answer_read c (Some Config) d section s = says (config_response c section s ∷ []) s
answer_read c None d section s = says (General c 123 ∷ []) s

-- "1. ID 0x0000: no answer. 2. Not initialised and not Init_Request: General_Response 103. 3. ID 0x000D: no answer.
-- 4. ID not in the list of four: General_Response 120." 02: of six
unfoldable pub answer : ℕ → ℕ → List ℕ → (section : List ℕ) → Pass → Answered
answer c id d section s =
    cond (eqb id 0x0000) (says [] s)
    (cond (not (is_initialised (link_of c s)) && not (eqb id init_request)) (says (General c 103 ∷ []) s)
    (cond (eqb id 0x000D) (says [] s)
    (cond (not (is_read id)) (says (General c 120 ∷ []) s)
    (answer_read c (read id d) d section s))))

-- ## The calls

-- "and changes no state"
abbrev pub refuse : Refusal → Pass → Called
refuse n s = record { pass = s; answer = refused n; accepted = false; moved = 0 }

abbrev pub does : ℕ → List Record → Pass → Called
does consumed rs s = record { pass = s; answer = good consumed rs; accepted = false; moved = 0 }

abbrev pub replies : ℕ → Answered → Called
replies consumed a = record { pass = a.pass; answer = good consumed a.written; accepted = a.accepted; moved = a.moved }

-- 02, CR 6: of the sections "the one on air"
abbrev pub section_of : Loans → Pass → List ℕ
section_of loans s = cond (eqb (air_feed s.verdicts) 0) loans.primary loans.insertion

-- "Message handles the first message only, and each is handed on as its own part of what was read."
unfoldable pub handled : ℕ → Result Header Refusal → List ℕ → Loans → Pass → Called
handled c (Err n) l loans s = refuse n s
handled c (Ok h) l loans s = replies (8 + h.size) (answer c h.id (data_of h.size l) (section_of loans s) s)

-- "open 1, 6". "Opening leaves the connection not initialised."
unfoldable pub open_call : ℕ → Pass → Called
open_call c s =
    cond (no_connection c) (refuse NoConnection s)
    (cond (is_open (link_of c s)) (refuse AlreadyOpen s)
    (does 0 [] (with_link c Opened s)))

-- a connection that is closed; 02, CR 6: "close forgets it"
abbrev pub shut : ℕ → Pass → Pass
shut c s = with_hardware c no_hardware (with_link c Closed s)

-- "close 1, 2, 7"
unfoldable pub close_call : ℕ → ℕ → Pass → Called
close_call c room s =
    let t = closed_by c s.verdicts in
    cond (no_connection c) (refuse NoConnection s)
    (cond (no_room room) (refuse NoRoom s)
    (cond (not_open c s) (refuse NotOpen s)
    (does 0 t.written (shut c (with_verdicts t.verdicts s)))))

-- "message 1, 2, 7"; 02, CR 6: "house number 10 .., in the message call after 7"; then "5 (header), 4, 5 (body)"
unfoldable pub message_call : ℕ → List ℕ → Loans → Pass → Called
message_call c l loans s =
    cond (no_connection c) (refuse NoConnection s)
    (cond (no_room loans.room) (refuse NoRoom s)
    (cond (not_open c s) (refuse NotOpen s)
    (cond (long_section loans) (refuse LongSection s)
    (handled c (framing l) l loans s))))

-- the clock brought to until
unfoldable pub ticked : ℕ → Pass → Called
ticked until s =
    let t = run_all s.clock until s.verdicts in
    does 0 t.written (with_clock until (with_verdicts t.verdicts s))

-- a tick whose time is in ninths: 2, 3. "A tick to the present time is good and writes nothing."
unfoldable pub move_call : (until room : ℕ) → Pass → Called
move_call until room s =
    cond (no_room room) (refuse NoRoom s)
    (cond (ltb until s.clock) (refuse ClockBack s)
    (ticked until s))

-- "tick 2, 8, 3"
unfoldable pub tick_call : (seconds micros room : ℕ) → Pass → Called
tick_call seconds micros room s =
    cond (no_room room) (refuse NoRoom s)
    (cond (bad_micros micros) (refuse BadMicros s)
    (move_call (from_micros (time_of seconds micros)).0 room s))

-- 02, CR 7: 2, 8, 11. Like `move_call` no call of the engine that keeps a log; it looks at no verdict
unfoldable pub cue_call : (section : List ℕ) (pts seconds micros room : ℕ) → Pass → Called
cue_call l pts seconds micros room s =
    cond (no_room room) (refuse NoRoom s)
    (cond (bad_micros micros) (refuse BadMicros s)
    (cond (bad_section l) (refuse BadSection s)
    (does 0 (cue_records (read_cue l) (cue_time pts seconds micros (read_cue l)) l (initialised_ones s.links)) s)))

unfoldable pub call : Call → Pass → Called
call (opens c) s = open_call c s
call (closes c room) s = close_call c room s
call (messages c l loans) s = message_call c l loans s
call (ticks seconds micros room) s = tick_call seconds micros room s
call (moves until room) s = move_call until room s
call (cues l pts seconds micros room) s = cue_call l pts seconds micros room s

-- before the first call
unfoldable pub begun : List ℕ → Pass
begun name =
    record {
      name = name;
      clock = 0;
      links = Closed ∷ Closed ∷ Closed ∷ Closed ∷ [];
      hardware = no_hardware ∷ no_hardware ∷ no_hardware ∷ no_hardware ∷ [];
      verdicts = [];
    }

-- through the calls, once, from the first
unfoldable pub passed : List Call → Pass → Pass
passed [] s = s
passed (k ∷ ks) s = passed ks (call k s).pass

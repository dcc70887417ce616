-- 01, "Calls and house numbers".
use Rattle.std.specs.Prelude.{Bool, cond, List, [], ◌∷◌, ℕ, ◌+◌, ◌*◌, ◌/◌, ◌%◌, leb, ltb, length, Err, None, Ok, Option, Result, Some}
use Rattle.rules.specs.declared.Link.TheVariants.{Closed, Opened}
use Rattle.rules.specs.declared.Refusal.TheVariants.{NoConnection, NoRoom, ClockBack, Oversize, Short, AlreadyOpen, NotOpen}
use Rattle.rules.specs.declared.Refusal.TheVariants.{BadMicros, BadName, LongSection, BadSection}
use Rattle.rules.specs.Units.{horizon, second, time_of, bad_micros, from_micros, up_micros}
use Rattle.rules.specs.Bytes.{message_id, message_size, oversize, data_of, has_zero, name_in}
use Rattle.rules.specs.State.{Splicer, no_hardware, link_of, is_open, with_link, with_hardware, with_queue, with_clock}
use Rattle.rules.specs.Recent.{none_held}
use Rattle.rules.specs.Ends.{closed_by}
use Rattle.rules.specs.Instants.{run_all, silent_all}
use Rattle.rules.specs.Answers.{air_map, answer}
use Rattle.rules.specs.Cues.{bad_section, read_cue, cue_time, initialised_ones, cue_records}
use Rattle.rules.specs.HouseNumbers.{Called, refuse, does, replies, no_connection, no_room, not_open, Loans, long_section}
use Rattle.rules.specs.declared.Ninths.{Ninths}
use Rattle.rules.specs.declared.Header.{Header}
use Rattle.rules.specs.declared.Refusal.{Refusal}

-- ## The five calls

-- "A fresh splicer has clock 0, all connections closed."
-- "connections 0 to 3"
unfoldable pub named : List ℕ → Splicer
named name =
    record {
      name = name;
      clock = 0;
      primary = 0;
      links = Closed ∷ Closed ∷ Closed ∷ Closed ∷ [];
      hardware = no_hardware ∷ no_hardware ∷ no_hardware ∷ no_hardware ∷ [];
      queue = none_held;
    }

-- "9: name without a zero byte." "A refused fresh gives, with number 9, the splicer of an empty name."
-- "Fresh (a 32-byte ChannelName)"
unfoldable pub fresh : List ℕ → Called
fresh name = cond (has_zero name) (does 0 [] (named (name_in name))) (refuse BadName (named []))

-- "Order: open 1, 6". "Opening leaves the connection not initialised."
-- 6: "already open"
unfoldable pub open_call : ℕ → Splicer → Called
open_call c s =
    cond (no_connection c) (refuse NoConnection s)
    (cond (is_open (link_of c s)) (refuse AlreadyOpen s)
    (does 0 [] (with_link c Opened s)))

-- a connection that is closed; 02, CR 6: "close forgets it"
abbrev pub shut : ℕ → Splicer → Splicer
shut c s = with_hardware c no_hardware (with_link c Closed s)

-- "close 1, 2, 7"
-- "Close, message and tick lend an output buffer."
-- "and leaves it closed"
unfoldable pub close_call : ℕ → ℕ → Splicer → Called
close_call c room s =
    let t = closed_by c s.queue in
    cond (no_connection c) (refuse NoConnection s)
    (cond (no_room room) (refuse NoRoom s)
    (cond (not_open c s) (refuse NotOpen s)
    (does 0 t.written (shut c (with_queue t.queue s)))))

-- a message's MessageID and MessageSize
abbrev pub headed : ℕ → ℕ → Header
headed id size = record { id = id; size = size }

-- "5 (header), 4, 5 (body)"; l: the bytes read so far
-- 5: "fewer than 8 bytes, or fewer than 8 + MessageSize"
unfoldable pub framing : List ℕ → Result Header Refusal
framing l =
    cond (ltb (length l) 8) (Err Short)
    (cond (oversize l) (Err Oversize)
    (cond (ltb (length l) (8 + message_size l)) (Err Short) (Ok (headed (message_id l) (message_size l)))))

-- 02, CR 6: of the sections "the one on air"
abbrev pub section_of : Loans → Splicer → List ℕ
section_of loans s = air_map s.queue.started loans.primary loans.insertion

-- "Message handles the first message only, and each is handed on as its own part of what was read."
unfoldable pub handled : ℕ → Result Header Refusal → List ℕ → Loans → Splicer → Called
handled c (Err n) l loans s = refuse n s
handled c (Ok h) l loans s = replies (8 + h.size) (answer c h.id (data_of h.size l) (section_of loans s) s)

-- "message 1, 2, 7"; 02, CR 6: "house number 10 .., in the message call after 7"; then as above
-- "message (one connection, bytes read so far)"
unfoldable pub message_call : ℕ → List ℕ → Loans → Splicer → Called
message_call c l loans s =
    cond (no_connection c) (refuse NoConnection s)
    (cond (no_room loans.room) (refuse NoRoom s)
    (cond (not_open c s) (refuse NotOpen s)
    (cond (long_section loans) (refuse LongSection s)
    (handled c (framing l) l loans s))))

-- the clock brought to until
unfoldable pub ticked : ℕ → Splicer → Called
ticked until s =
    let t = run_all s.clock until s.queue in
    does 0 t.written (with_clock until (silent_all s.clock until s.queue) (with_queue t.queue s))

-- a tick whose time is in ninths: 2, 3. "A tick to the present time is good and writes nothing."
-- 3: "clock earlier than the present one"
unfoldable pub move_call : (until room : ℕ) → Splicer → Called
move_call until room s =
    cond (no_room room) (refuse NoRoom s)
    (cond (ltb until s.clock) (refuse ClockBack s)
    (ticked until s))

-- "tick 2, 8, 3"
-- "tick (Seconds, MicroSeconds)"
unfoldable pub tick_call : (seconds micros room : ℕ) → Splicer → Called
tick_call seconds micros room s =
    cond (no_room room) (refuse NoRoom s)
    (cond (bad_micros micros) (refuse BadMicros s)
    (move_call (from_micros (time_of seconds micros)).0 room s))

-- no tick's time is so late: Seconds has four bytes
abbrev pub beyond : ℕ → Bool
beyond t = leb horizon (up_micros t * 9)

-- when a tick would next do anything, in words: 0 with nothing due; 1 and the instant in ninths, if no tick reaches it; 2, the instant, and
-- Seconds and MicroSeconds of the first tick that does
unfoldable pub due_row : Option Ninths → List ℕ
due_row None = 0 ∷ 0 ∷ 0 ∷ 0 ∷ []
due_row (Some t) =
    cond (beyond t.0) (1 ∷ t.0 ∷ 0 ∷ 0 ∷ []) (2 ∷ t.0 ∷ up_micros t.0 / second ∷ up_micros t.0 % second ∷ [])

-- 02, CR 7: a section of cues, a PTS and the UTC instant that belongs to it: 2, 8, 11. It changes nothing, and the clock plays no part
unfoldable pub cue_call : (section : List ℕ) (pts seconds micros room : ℕ) → Splicer → Called
cue_call l pts seconds micros room s =
    cond (no_room room) (refuse NoRoom s)
    (cond (bad_micros micros) (refuse BadMicros s)
    (cond (bad_section l) (refuse BadSection s)
    (does 0 (cue_records (read_cue l) (cue_time pts seconds micros (read_cue l)) l (initialised_ones s.links)) s)))

-- ## Sequences of calls: "A splicer is what fresh and the calls since have given"

pub data Call : Type 0 where
  opens : (conn : ℕ) → Call
  closes : (conn room : ℕ) → Call
  messages : (conn : ℕ) (l : List ℕ) (loans : Loans) → Call
  ticks : (seconds micros room : ℕ) → Call
  moves : (until room : ℕ) → Call
  cues : (section : List ℕ) (pts seconds micros room : ℕ) → Call

unfoldable pub call : Call → Splicer → Called
call (opens c) s = open_call c s
call (closes c room) s = close_call c room s
call (messages c l loans) s = message_call c l loans s
call (ticks seconds micros room) s = tick_call seconds micros room s
call (moves until room) s = move_call until room s
call (cues l pts seconds micros room) s = cue_call l pts seconds micros room s

unfoldable pub after : List Call → Splicer → Splicer
after [] s = s
after (k ∷ ks) s = after ks (call k s).splicer

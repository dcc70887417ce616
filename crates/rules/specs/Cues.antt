-- 02, CR 7: what is read of a section of cues (layouts: docs/SCTE35.md), what comes of it, the time of its cue.
use Rattle.std.specs.Prelude.{Bool, cond, not, ◌&&◌, ◌||◌, List, [], ◌∷◌, map, ℕ, ◌+◌, ◌-◌, ◌*◌, ◌/◌, ◌%◌, eqb, ltb, length, get_or}
use Rattle.rules.specs.declared.Cue.{Cue}
use Rattle.rules.specs.declared.Cue.TheVariants.{At, Timeless, Silent, Bad}
use Rattle.rules.specs.declared.WireTime.{WireTime}
use Rattle.rules.specs.declared.Link.{Link}
use Rattle.rules.specs.declared.Link.TheVariants.{Closed}
use Rattle.rules.specs.Lists.{keep}
use Rattle.rules.specs.Units.{second, time_of, from_micros, from_ticks, to_micros}
use Rattle.rules.specs.Bytes.{field}
use Rattle.rules.specs.State.{is_initialised}
use Rattle.rules.specs.Records.{Record, General, CueRequest}
use Rattle.rules.specs.Crc.{right_crc}

-- ## The section: table_id 0, section_length the low 12 bits at 1, encrypted_packet the highest bit of 4, pts_adjustment the low 33 bits at
-- 4,
-- splice_command_length the low 12 bits at 11, splice_command_type 13, the command from 14 on

abbrev pub section_length : List ℕ → ℕ
section_length l = field 1 2 l % 4096

-- house number 11: "a section not 3 + section_length bytes long, under 20 or over 512"
abbrev pub bad_section : List ℕ → Bool
bad_section l = not (eqb (length l) (3 + section_length l)) || (ltb (length l) 20 || ltb 512 (length l))

abbrev pub table_id : List ℕ → ℕ
table_id l = get_or l 0 0

-- whether the bit of that weight is set in the byte at a
abbrev pub flag_at : (weight a : ℕ) → List ℕ → Bool
flag_at weight a l = eqb (get_or l a 0 / weight % 2) 1

abbrev pub is_encrypted : List ℕ → Bool
is_encrypted l = flag_at 128 4 l

-- a PTS has 33 bits: "modulo 2^33"
abbrev pub pts_turn : ℕ
pts_turn = 8589934592

-- "33-bit PTS": the lowest bit of the byte at a, and four bytes behind it
abbrev pub pts_at : ℕ → List ℕ → ℕ
pts_at a l = get_or l a 0 % 2 * 4294967296 + field (1 + a) 4 l

abbrev pub pts_adjustment : List ℕ → ℕ
pts_adjustment l = pts_at 4 l

abbrev pub command_length : List ℕ → ℕ
command_length l = field 11 2 l % 4096

abbrev pub command_type : List ℕ → ℕ
command_type l = get_or l 13 0

abbrev pub command_at : ℕ
command_at = 14

-- what a section has for its command: behind those 14 bytes, before descriptor_loop_length 2 and CRC_32 4
abbrev pub command_room : List ℕ → ℕ
command_room l = length l - 20

-- ## Lengths: "lengths of command or descriptors that don't fit a section otherwise passed"

-- "A command length of 0xFFF counts as not given."
abbrev pub given_otherwise : ℕ → List ℕ → Bool
given_otherwise c l = not (eqb (command_length l) 0xFFF) && not (eqb (command_length l) c)

-- descriptor_loop_length stands behind the command's c bytes; its bytes end before CRC_32, and stuffing may follow them
abbrev pub loop_length : ℕ → List ℕ → ℕ
loop_length c l = field (command_at + c) 2 l

abbrev pub bad_lengths : ℕ → List ℕ → Bool
bad_lengths c l = ltb (command_room l) c || (given_otherwise c l || ltb (command_room l) (c + loop_length c l))

-- x, if the command has c bytes by its own syntax and the lengths fit that
abbrev pub fitting : ℕ → List ℕ → Cue → Cue
fitting c l x = cond (bad_lengths c l) Bad x

-- ## Commands

-- splice_time at a: time_specified_flag, and with it pts_time
abbrev pub is_specified : ℕ → List ℕ → Bool
is_specified a l = flag_at 128 a l

abbrev pub time_size : ℕ → List ℕ → ℕ
time_size a l = cond (is_specified a l) 5 1

-- "a cue's 33-bit PTS (with pts_adjustment added, modulo 2^33)"; "No pts_time gives all ones"
abbrev pub time_in : ℕ → List ℕ → Cue
time_in a l = cond (is_specified a l) (At ((pts_at a l + pts_adjustment l) % pts_turn)) Timeless

-- time_signal: one splice_time
unfoldable pub read_signal : List ℕ → Cue
read_signal l = fitting (time_size command_at l) l (time_in command_at l)

-- splice_insert: splice_event_id 4, then a byte whose highest bit cancels, then the flags' byte
abbrev pub cancel_at : ℕ
cancel_at = 18

abbrev pub flags_at : ℕ
flags_at = 19

abbrev pub insert_time_at : ℕ
insert_time_at = 20

abbrev pub is_cancelled : List ℕ → Bool
is_cancelled l = flag_at 128 cancel_at l

abbrev pub is_program : List ℕ → Bool
is_program l = flag_at 64 flags_at l

abbrev pub has_duration : List ℕ → Bool
has_duration l = flag_at 32 flags_at l

abbrev pub is_immediate : List ℕ → Bool
is_immediate l = flag_at 16 flags_at l

-- in program mode: the first 6 bytes, splice_time if not immediate, break_duration 5 with duration_flag, then 4
abbrev pub program_size : List ℕ → ℕ
program_size l = 6 + cond (is_immediate l) 0 (time_size insert_time_at l) + cond (has_duration l) 5 0 + 4

unfoldable pub read_program : List ℕ → Cue
read_program l = fitting (program_size l) l (cond (is_immediate l) Timeless (time_in insert_time_at l))

-- "splice_insert in program mode or cancelled"; in a section too short for the byte that tells, its length does not fit
unfoldable pub read_insert : List ℕ → Cue
read_insert l =
    cond (ltb (command_room l) 5) Bad
    (cond (is_cancelled l) (fitting 5 l Timeless)
    (cond (ltb (command_room l) 6) Bad
    (cond (is_program l) (read_program l) Silent)))

-- "Read splice_null, splice_insert in program mode or cancelled, and time_signal"
unfoldable pub read_command : List ℕ → Cue
read_command l =
    cond (eqb (command_type l) 0x00) (fitting 0 l Timeless)
    (cond (eqb (command_type l) 0x05) (read_insert l)
    (cond (eqb (command_type l) 0x06) (read_signal l) Silent))

-- "With a right CRC, an encrypted section, another table, command or mode writes nothing."
unfoldable pub read_cue : List ℕ → Cue
read_cue l = cond (right_crc l) (cond (eqb (table_id l) 0xFC && not (is_encrypted l)) (read_command l) Silent) Bad

-- ## The time of a cue

-- "counts as the first one at or after that PTS": so many ticks later. "The caller gives a PTS (modulo 2^33)"
unfoldable pub ticks_after : (pts p : ℕ) → ℕ
ticks_after pts p = (p + (pts_turn - pts % pts_turn)) % pts_turn

-- in ninths; given: "the UTC instant that belongs to it"
unfoldable pub exact_time : (pts given p : ℕ) → ℕ
exact_time pts given p = given + (from_ticks (record { 0 = ticks_after pts p })).0

abbrev pub all_ones : WireTime
all_ones = record { seconds = 0xFFFFFFFF; micros = 0xFFFFFFFF }

-- Seconds and MicroSeconds of a time in microseconds, all ones for "an instant past the time field's range"
unfoldable pub wire_time_of : ℕ → WireTime
wire_time_of t = cond (ltb 0xFFFFFFFF (t / second)) all_ones (record { seconds = t / second; micros = t % second })

-- "The UTC written is rounded down to a microsecond"; "No pts_time gives all ones"
unfoldable pub cue_time : (pts seconds micros : ℕ) → Cue → WireTime
cue_time pts seconds micros (At p) = wire_time_of (to_micros (record { 0 = exact_time pts (from_micros (time_of seconds micros)).0 p })).0
cue_time pts seconds micros Timeless = all_ones
cue_time pts seconds micros Silent = all_ones
cue_time pts seconds micros Bad = all_ones

-- ## What is written

-- "every initialised connection", by the connections' states: open ones that are not initialised get nothing
unfoldable pub initialised_ones : List Link → List ℕ
initialised_ones links = keep (λ c. is_initialised (get_or links c Closed)) (0 ∷ 1 ∷ 2 ∷ 3 ∷ [])

abbrev pub passed_to : WireTime → (section : List ℕ) → ℕ → Record
passed_to t l c = CueRequest c t.seconds t.micros l

-- "General_Response 117"
abbrev pub complained_to : ℕ → Record
complained_to c = General c 117

-- what the connections cs get of the section l, of which x comes, with the time t
unfoldable pub cue_records : (x : Cue) (t : WireTime) (l cs : List ℕ) → List Record
cue_records (At p) t l cs = map (passed_to t l) cs
cue_records Timeless t l cs = map (passed_to t l) cs
cue_records Silent t l cs = []
cue_records Bad t l cs = map complained_to cs

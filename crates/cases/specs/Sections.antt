-- 02, CR 7: the two sections of docs/SCTE35.md and others, each put together by hand from its fields; every CRC_32 was made by another
-- program, from
-- a table of 256. The prover computes what is read of each, what comes of it, and the times. Assumes nothing.
use Rattle.std.specs.Prelude.{◌≡◌, refl, Bool, true, false, List, [], ◌∷◌, map, ◌++◌ as ◌then◌, ℕ, ◌+◌, ◌*◌, replicate, take}
use Prim.Native.String.{String}
use Rattle.rules.specs.declared.Cue.{Cue}
use Rattle.rules.specs.declared.Cue.TheVariants.{At, Timeless, Silent, Bad}
use Rattle.rules.specs.declared.WireTime.{WireTime}
use Rattle.rules.specs.Crc.{crc}
use Rattle.rules.specs.Cues.{section_length, bad_section, table_id, is_encrypted, pts_at, pts_adjustment, command_length, command_type}
use Rattle.rules.specs.Cues.{command_at}
use Rattle.rules.specs.Cues.{is_cancelled, is_program, has_duration, is_immediate, insert_time_at, program_size, loop_length, read_cue}
use Rattle.rules.specs.Cues.{all_ones}
use Rattle.rules.specs.Cues.{cue_time}
use Rattle.cases.specs.Scenario.{hex}
use Rattle.cases.specs.Computing.{computing}

-- a section, and what comes of it
record Row : Type 0 where
  section : String
  wants : Cue

row : String → Cue → Row
row l c = record { section = l; wants = c }

found : List Row → List Cue
found rows = map (λ r. read_cue (hex r.section)) rows

wanted : List Row → List Cue
wanted rows = map (λ r. r.wants) rows

reading : ℕ
unfolding row found wanted computing
reading = 0

-- ## CRC_32

-- "the nine ASCII bytes `123456789` give 0x0376E6E7"
check-value : crc (hex "313233343536373839") ≡ 0x0376E6E7
unfolding computing
check-value = refl

-- ## The page's sections

-- splice_insert with the values of document 001, Table 21
insert : String
insert = "FC 3020 00 00 00000000 00 FF F00F 05 00028CE8 7F CF FED58923BF 5566 00 00 0000 1D80D85D"

-- "The register behind the bytes": the first three, the last two before CRC_32, and through it
registers : map (λ n. crc (take n (hex insert))) (1 ∷ 2 ∷ 3 ∷ 30 ∷ 31 ∷ 32 ∷ 33 ∷ 34 ∷ 35 ∷ [])
    ≡ (0xF2BCD9D9 ∷ 0xE8D172F7 ∷ 0xAAF08A21 ∷ 0x2FBDECD3 ∷ 0x1D80D85D ∷ 0x80D85D00 ∷ 0xD85D0000 ∷ 0x5D000000 ∷ 0 ∷ [])
unfolding computing insert
registers = refl

-- table 0xFC, 32 bytes behind the length; splice_insert of 15 bytes by its own syntax too; pts_time; no descriptors
insert-numbers :
    map (λ f. f (hex insert))
    (table_id ∷ section_length ∷ pts_adjustment ∷ command_length ∷ command_type ∷ program_size ∷ pts_at insert_time_at ∷ loop_length 15 ∷
    [])
    ≡ (0xFC ∷ 32 ∷ 0 ∷ 15 ∷ 0x05 ∷ 15 ∷ 3582534591 ∷ 0 ∷ [])
unfolding computing insert
insert-numbers = refl

-- not encrypted, not cancelled, program mode, no duration, not immediate
insert-flags :
    map (λ f. f (hex insert)) (is_encrypted ∷ is_cancelled ∷ is_program ∷ has_duration ∷ is_immediate ∷ [])
    ≡ (false ∷ false ∷ true ∷ false ∷ false ∷ [])
unfolding computing insert
insert-flags = refl

insert-read : read_cue (hex insert) ≡ At 3582534591
unfolding computing insert
insert-read = refl

-- time_signal with a pts_adjustment, whose bit 32 is set as that of pts_time is
signal : String
signal = "FC 3016 00 01 00000010 00 FF F005 06 FF23456789 0000 713B22BD"

signal-numbers :
    map (λ f. f (hex signal)) (table_id ∷ section_length ∷ pts_adjustment ∷ command_length ∷ command_type ∷ pts_at command_at ∷ loop_length
    5 ∷ [])
    ≡ (0xFC ∷ 22 ∷ 0x100000010 ∷ 5 ∷ 0x06 ∷ 0x123456789 ∷ 0 ∷ [])
unfolding computing signal
signal-numbers = refl

signal-read : read_cue (hex signal) ≡ At 591751065
unfolding computing signal
signal-read = refl

-- ## House number 11: "a section not 3 + section_length bytes long, under 20 or over 512"

-- splice_null of that length, its descriptors zeros up to CRC_32
long512 : List ℕ
long512 = hex "FC 31FD 00 00 00000000 00 FF F000 00 01EC" then (replicate 492 0 then hex "AF07600C")

long513 : List ℕ
long513 = hex "FC 31FE 00 00 00000000 00 FF F000 00 01ED" then (replicate 493 0 then hex "EFA667F6")

record Sized : Type 0 where
  section : List ℕ
  refused : Bool

sized : List ℕ → Bool → Sized
sized l b = record { section = l; refused = b }

sizes : List Sized
sizes =
    -- too short to have a length, and of 19 bytes
    sized [] true
    ∷ sized (hex "FC 30") true
    ∷ sized (hex "FC 3000") true
    ∷ sized (hex "FC 3010 00 00 00000000 00 FF F000 00 0000 000000") true
    -- the smallest; one byte more than it says; one fewer
    ∷ sized (hex "FC 3011 00 00 00000000 00 FF F000 00 0000 7A4FBFFF") false
    ∷ sized (hex "FC 3010 00 00 00000000 00 FF F000 00 0000 3DB8713E") true
    ∷ sized (hex "FC 3012 00 00 00000000 00 FF F000 00 0000 B257ECBC") true
    -- section_length is the low 12 bits: those before it are not read
    ∷ sized (hex "FC F011 00 00 00000000 00 FF F000 00 0000 E4190177") false
    -- and all twelve are: 0x111, 0x411 and 0x811 say other lengths
    ∷ sized (hex "FC 3111 00 00 00000000 00 FF F000 00 0000 A7405E8D") true
    ∷ sized (hex "FC 3411 00 00 00000000 00 FF F000 00 0000 03331CEE") true
    ∷ sized (hex "FC 3811 00 00 00000000 00 FF F000 00 0000 88B6F9DD") true
    ∷ sized (hex insert) false
    ∷ sized (hex signal) false
    ∷ sized long512 false
    ∷ sized long513 true
    ∷ []

sizes-refused : map (λ s. bad_section s.section) sizes ≡ map (λ s. s.refused) sizes
unfolding computing insert signal long512 long513 sized sizes
sizes-refused = refl

-- "over 512" is not a matter of reading: both are whole
long-read : map read_cue (long512 ∷ long513 ∷ []) ≡ (Timeless ∷ Timeless ∷ [])
unfolding computing long512 long513
long-read = refl

-- ## What comes of a section

-- (i) "a wrong CRC": bad, whatever else it is
wrong_crc : List Row
wrong_crc =
    -- the page's first section, its last bit, then the first bit of its event turned
    row "FC 3020 00 00 00000000 00 FF F00F 05 00028CE8 7F CF FED58923BF 5566 00 00 0000 1D80D85C" Bad
    ∷ row "FC 3020 00 00 00000000 00 FF F00F 05 80028CE8 7F CF FED58923BF 5566 00 00 0000 1D80D85D" Bad
    -- another table, an encrypted one, another command, component mode
    ∷ row "FD 3011 00 00 00000000 00 FF F000 00 0000 55F800C4" Bad
    ∷ row "FC 3011 00 80 00000000 00 FF F000 00 0000 8C7D1A27" Bad
    ∷ row "FC 3011 00 00 00000000 00 FF F000 04 0000 7D2D0DE2" Bad
    ∷ row "FC 301C 00 00 00000000 00 FF F00B 05 00028CE8 7F 8F 00 5566 00 00 0000 D86A36D7" Bad
    -- zeros; and zlib's CRC, of the same polynomial
    ∷ row "FC 3011 00 00 00000000 00 FF F000 00 0000 00000000" Bad
    ∷ row "FC 3011 00 00 00000000 00 FF F000 00 0000 53E8412A" Bad
    ∷ []

wrong_crc-read : found wrong_crc ≡ wanted wrong_crc
unfolding reading wrong_crc
wrong_crc-read = refl

-- (ii) "With a right CRC, an encrypted section, another table .. writes nothing", lengths that do not fit included
other_tables : List Row
other_tables =
    row "FD 3011 00 00 00000000 00 FF F000 00 0000 55F800C5" Silent
    ∷ row "7C 3011 00 00 00000000 00 FF F000 00 0000 F3C6A98A" Silent
    ∷ row "FC 3011 00 80 00000000 00 FF F000 00 0000 8C7D1A26" Silent
    -- with a command length and a loop that do not fit
    ∷ row "FE 3011 00 00 00000000 00 FF F001 00 0000 F94D5B3C" Silent
    ∷ row "FC 3011 00 FE 00000000 00 FF F000 00 FFFF 247FA0E8" Silent
    -- the other bits of that byte are not read
    ∷ row "FC 3011 00 7E 00000000 00 FF F000 00 0000 2D05614C" Timeless
    ∷ []

other_tables-read : found other_tables ≡ wanted other_tables
unfolding reading other_tables
other_tables-read = refl

-- (iii) ".. command .. writes nothing": splice_schedule, bandwidth_reservation, a reserved one, private_command
other_commands : List Row
other_commands =
    row "FC 3012 00 00 00000000 00 FF F001 04 00 0000 D6A82198" Silent
    ∷ row "FC 3011 00 00 00000000 00 FF F000 07 0000 7F44F86A" Silent
    ∷ row "FC 3011 00 00 00000000 00 FF F009 01 0100 8C09D019" Silent
    ∷ row "FC 3015 00 00 00000000 00 FF F004 FF 43554549 0000 395D631A" Silent
    ∷ []

other_commands-read : found other_commands ≡ wanted other_commands
unfolding reading other_commands
other_commands-read = refl

-- (iv) ".. or mode writes nothing": component mode, its lengths right, wrong, and one that would not reach its byte
other_mode : List Row
other_mode =
    row "FC 301C 00 00 00000000 00 FF F00B 05 00028CE8 7F 8F 00 5566 00 00 0000 D86A36D6" Silent
    ∷ row "FC 301C 00 00 00000000 00 FF F000 05 00028CE8 7F 8F 00 5566 00 00 0000 49424ED5" Silent
    ∷ row "FC 301C 00 00 00000000 00 FF F00B 05 00028CE8 7F 8F 00 5566 00 00 FFFF 272252AB" Silent
    -- cut behind its flags
    ∷ row "FC 3017 00 00 00000000 00 FF F063 05 00028CE8 7F 8F 0000 5570EDDF" Silent
    ∷ []

other_mode-read : found other_mode ≡ wanted other_mode
unfolding reading other_mode
other_mode-read = refl

-- (v) "lengths of command or descriptors that don't fit"
lengths : List Row
lengths =
    -- a splice_insert of 4 bytes; of 5 that is not cancelled
    row "FC 3015 00 00 00000000 00 FF F004 05 00028CE8 0000 442B28DF" Bad
    ∷ row "FC 3016 00 00 00000000 00 FF F005 05 00028CE8 7F 0000 BBFCB1DB" Bad
    -- a command length one less and one more
    ∷ row "FC 3020 00 00 00000000 00 FF F00E 05 00028CE8 7F CF FED58923BF 5566 00 00 0000 179B5004" Bad
    ∷ row "FC 3020 00 00 00000000 00 FF F010 05 00028CE8 7F CF FED58923BF 5566 00 00 0000 DAA6A68A" Bad
    ∷ row "FC 3011 00 00 00000000 00 FF F001 00 0000 A6222548" Bad
    ∷ row "FC 3016 00 00 00000000 00 FF F006 05 00028CE8 FF 0000 456A1146" Bad
    -- "A command length of 0xFFF counts as not given": then the syntax alone decides
    ∷ row "FC 3020 00 00 00000000 00 FF FFFF 05 00028CE8 7F CF FED58923BF 5566 00 00 0000 4631EDBA" (At 3582534591)
    ∷ row "FC 3013 00 00 00000000 00 FF FFFF 06 FF 00 0000 22501E79" Bad
    -- 0xFFE is given
    ∷ row "FC 3011 00 00 00000000 00 FF FFFE 00 0000 9348A921" Bad
    -- a splice_time with pts_time, one byte short
    ∷ row "FC 3015 00 00 00000000 00 FF F005 06 FE 0000 00 0000 F8C0D2E9" Bad
    -- descriptors up to CRC_32; one past it; fewer, and stuffing behind them
    ∷ row "FC 3017 00 00 00000000 00 FF F000 00 0006 00 04 43554549 978B3084" Timeless
    ∷ row "FC 3017 00 00 00000000 00 FF F000 00 0007 00 04 43554549 D8DC5895" Bad
    ∷ row "FC 3019 00 00 00000000 00 FF F000 00 0006 00 04 43554549 FFFF 8A4616D4" Timeless
    ∷ row "FC 3011 00 00 00000000 00 FF F000 00 0001 7E8EA248" Bad
    -- descriptors are not walked
    ∷ row "FC 3013 00 00 00000000 00 FF F000 00 0002 00 FF 0511B620" Timeless
    ∷ []

lengths_read : found lengths ≡ wanted lengths
unfolding reading lengths
lengths_read = refl

-- (vi) "splice_null, splice_insert in program mode or cancelled, and time_signal"
passed : List Row
passed =
    -- splice_null
    row "FC 3011 00 00 00000000 00 FF F000 00 0000 7A4FBFFF" Timeless
    -- cancelled: not read on for a time, even where one would stand
    ∷ row "FC 3016 00 00 00000000 00 FF F005 05 00028CE8 FF 0000 57AAF25B" Timeless
    ∷ row "FC 3020 00 00 00000000 00 FF F005 05 00028CE8 FF 000A CF FED58923BF 5566 00 00 8E6E7F1F" Timeless
    -- the six sizes of program mode
    ∷ row "FC 301B 00 00 00000000 00 FF F00A 05 00028CE8 7F DF 5566 00 00 0000 2B8C19FC" Timeless
    ∷ row "FC 3020 00 00 00000000 00 FF F00F 05 00028CE8 7F FF FE00A4CB80 5566 00 00 0000 88228174" Timeless
    ∷ row "FC 301C 00 00 00000000 00 FF F00B 05 00028CE8 7F CF 7F 5566 00 00 0000 470810B8" Timeless
    ∷ row "FC 3021 00 00 00000000 00 FF F010 05 00028CE8 7F EF 7F FE00A4CB80 5566 00 00 0000 607058C9" Timeless
    ∷ row "FC 3020 00 00 00000000 00 FF F00F 05 00028CE8 7F CF FED58923BF 5566 00 00 0000 1D80D85D" (At 3582534591)
    ∷ row "FC 3025 00 00 00000000 00 FF F014 05 00028CE8 7F EF FED58923BF FE00A4CB80 5566 00 00 0000 C901CE2E" (At 3582534591)
    -- back to the network
    ∷ row "FC 3020 00 00 00000000 00 FF F00F 05 00028CE8 7F 4F FED58923BF 5566 00 00 0000 EBB27D84" (At 3582534591)
    -- time_signal
    ∷ row "FC 3012 00 00 00000000 00 FF F001 06 7F 0000 31C853BC" Timeless
    ∷ row "FC 3016 00 00 00000000 00 FF F005 06 FED58923BF 0000 8B201081" (At 3582534591)
    -- pts_adjustment is added, modulo 2^33: to 2^33 - 1, and one more
    ∷ row "FC 3016 00 00 00000000 00 FF F005 06 FF FFFFFFFF 0000 0463B539" (At 8589934591)
    ∷ row "FC 3016 00 00 00000001 00 FF F005 06 FF FFFFFFFF 0000 ECC7E33C" (At 0)
    -- bit 32 of the one and of the other
    ∷ row "FC 3016 00 00 00000000 00 FF F005 06 FF 00000000 0000 3E19094B" (At 4294967296)
    ∷ row "FC 3016 00 01 00000000 00 FF F005 06 FE 00000000 0000 669D5007" (At 4294967296)
    ∷ row "FC 3016 00 01 00000000 00 FF F005 06 FF 00000000 0000 29CA3816" (At 0)
    -- without pts_time it is not used
    ∷ row "FC 3012 00 01 00000001 00 FF F001 06 7F 0000 2B6CAFDF" Timeless
    -- protocol_version is not read
    ∷ row "FC 3011 01 00 00000000 00 FF F000 00 0000 92EBE9FA" Timeless
    ∷ []

passed-read : found passed ≡ wanted passed
unfolding reading passed
passed-read = refl

-- The CRC_32 of the three lists below were computed bit by bit, by a program of its own.

-- (vii) "with pts_adjustment added, modulo 2^33", and 33 bits of pts_time: in an insert as in a time_signal
alike : List Row
alike =
    -- pts_adjustment 0x10; bit 32 of both, as in `signal`; bit 32 of pts_time alone, with and without break_duration; the sum is 2^33
    row "FC 3020 00 00 00000010 00 FF F00F 05 00028CE8 7F CF FED58923BF 5566 00 00 0000 7942455D" (At 3582534607)
    ∷ row "FC 3020 00 01 00000010 00 FF F00F 05 00028CE8 7F CF FF23456789 5566 00 00 0000 5CE306C9" (At 591751065)
    ∷ row "FC 3020 00 00 00000000 00 FF F00F 05 00028CE8 7F CF FF00000000 5566 00 00 0000 1581975D" (At 4294967296)
    ∷ row "FC 3020 00 01 00000000 00 FF F00F 05 00028CE8 7F CF FE00000000 5566 00 00 0000 3A277CCA" (At 4294967296)
    ∷ row "FC 3025 00 00 00000002 00 FF F014 05 00028CE8 7F EF FF00000001 FE00A4CB80 5566 00 00 0000 2C744C42" (At 4294967299)
    ∷ row "FC 3020 00 00 00000001 00 FF F00F 05 00028CE8 7F CF FFFFFFFFFF 5566 00 00 0000 822410B5" (At 0)
    -- without pts_time it is not used: immediate, with none, cancelled, splice_null
    ∷ row "FC 301B 00 01 00000010 00 FF F00A 05 00028CE8 7F DF 5566 00 00 0000 E87B24E6" Timeless
    ∷ row "FC 301C 00 01 00000010 00 FF F00B 05 00028CE8 7F CF 7F 5566 00 00 0000 E0FCBCF8" Timeless
    ∷ row "FC 3016 00 01 00000010 00 FF F005 05 00028CE8 FF 0000 F6B2035C" Timeless
    ∷ row "FC 3011 00 01 00000010 00 FF F000 00 0000 D061FB32" Timeless
    ∷ []

alike_read : found alike ≡ wanted alike
unfolding reading alike
alike_read = refl

-- (viii) one bit tells, and the reserved ones beside it are not read: splice_event_cancel_indicator
one_bit : List Row
one_bit =
    -- cancelled; not cancelled
    row "FC 3016 00 00 00000000 00 FF F005 05 00028CE8 80 0000 0CD0A8A6" Timeless
    ∷ row "FC 3020 00 00 00000000 00 FF F00F 05 00028CE8 00 CF FED58923BF 5566 00 00 0000 D92AC65A" (At 3582534591)
    -- the flags' byte: program mode alone; immediate; with a duration; component mode in all its forms
    ∷ row "FC 3020 00 00 00000000 00 FF F00F 05 00028CE8 7F 40 FED58923BF 5566 00 00 0000 C3C5CCA6" (At 3582534591)
    ∷ row "FC 301B 00 00 00000000 00 FF F00A 05 00028CE8 7F 50 5566 00 00 0000 9D0089BF" Timeless
    ∷ row "FC 3025 00 00 00000000 00 FF F014 05 00028CE8 7F 60 FED58923BF 0000A4CB80 5566 00 00 0000 7E17EC02" (At 3582534591)
    ∷ row "FC 301C 00 00 00000000 00 FF F00B 05 00028CE8 7F 00 00 5566 00 00 0000 F342B51A" Silent
    ∷ row "FC 3021 00 00 00000000 00 FF F010 05 00028CE8 7F BF 00 FE00A4CB80 5566 00 00 0000 54AA9F20" Silent
    -- time_specified_flag, in a time_signal and in an insert: with pts_time of 32 and of 33 bits, and without
    ∷ row "FC 3016 00 00 00000000 00 FF F005 06 80D58923BF 0000 E5F5FABC" (At 3582534591)
    ∷ row "FC 3016 00 00 00000000 00 FF F005 06 8100000000 0000 50CCE376" (At 4294967296)
    ∷ row "FC 3012 00 00 00000000 00 FF F001 06 00 0000 6AB20941" Timeless
    ∷ row "FC 3012 00 00 00000000 00 FF F001 06 01 0000 6B6AA5C6" Timeless
    ∷ row "FC 3020 00 00 00000000 00 FF F00F 05 00028CE8 7F CF 80D58923BF 5566 00 00 0000 B21EF268" (At 3582534591)
    ∷ row "FC 3020 00 00 00000000 00 FF F00F 05 00028CE8 7F CF 8100000000 5566 00 00 0000 BA1FBD68" (At 4294967296)
    ∷ row "FC 301C 00 00 00000000 00 FF F00B 05 00028CE8 7F CF 01 5566 00 00 0000 29DDFA85" Timeless
    -- not read: cw_index, tier, protocol_version, encryption_algorithm, splice_event_id, unique_program_id, avail_num, avails_expected
    ∷ row "FC 3020 00 00 00000000 A5 00 000F 05 00028CE8 7F CF FED58923BF 5566 00 00 0000 B8BC2838" (At 3582534591)
    ∷ row "FC 3016 FF 7E 00000000 FF 12 3005 06 FED58923BF 0000 CFA25E79" (At 3582534591)
    ∷ row "FC 3016 00 7F 00000000 00 FF F005 06 FE00000000 0000 C1F159A3" (At 4294967296)
    ∷ row "FC 3020 00 00 00000000 00 FF F00F 05 FFFFFFFF 7F CF FED58923BF FFFF FF FF 0000 35DF792C" (At 3582534591)
    ∷ row "FC 3011 00 00 00000000 00 00 0000 00 0000 C2739699" Timeless
    -- section_syntax_indicator, private_indicator and the reserved bits
    ∷ row "FC 0016 00 00 00000000 00 FF F005 06 FED58923BF 0000 5C9C7C4A" (At 3582534591)
    ∷ row "FC F016 00 00 00000000 00 FF F005 06 FED58923BF 0000 D8928574" (At 3582534591)
    -- commands and tables that differ in one bit from those that are read
    ∷ row "FC 3011 00 00 00000000 00 FF F000 80 0000 9619FC7F" Silent
    ∷ row "FC 3020 00 00 00000000 00 FF F00F 85 00028CE8 7F CF FED58923BF 5566 00 00 0000 9AED92AA" Silent
    ∷ row "FC 3016 00 00 00000000 00 FF F005 86 FED58923BF 0000 F22045B2" Silent
    ∷ row "FC 3016 00 00 00000000 00 FF F005 46 FED58923BF 0000 35C0B4C3" Silent
    ∷ row "FC 3011 00 00 00000000 00 FF F000 02 0000 79FEE6F1" Silent
    ∷ row "FC 3011 00 00 00000000 00 FF F000 08 0000 748ADBC7" Silent
    ∷ row "BC 3011 00 00 00000000 00 FF F000 00 0000 BCEBBA1E" Silent
    ∷ row "EC 3011 00 00 00000000 00 FF F000 00 0000 88B67731" Silent
    ∷ []

one_bit-read : found one_bit ≡ wanted one_bit
unfolding reading one_bit
one_bit-read = refl

-- (ix) "lengths of command or descriptors that don't fit", each command by itself
each_by_itself : List Row
each_by_itself =
    -- descriptor_loop_length has 16 bits: 0x0100, 0x1000, 0x8000 and 0xF000 in a splice_null, 0x1000 in an insert, 0xF000 in a time_signal
    row "FC 3011 00 00 00000000 00 FF F000 00 0100 A8567E23" Bad
    ∷ row "FC 3011 00 00 00000000 00 FF F000 00 1000 6A1E24EC" Bad
    ∷ row "FC 3011 00 00 00000000 00 FF F000 00 8000 F8C36767" Bad
    ∷ row "FC 3011 00 00 00000000 00 FF F000 00 F000 8977A61E" Bad
    ∷ row "FC 3020 00 00 00000000 00 FF F00F 05 00028CE8 7F CF FED58923BF 5566 00 00 1000 0DD1434E" Bad
    ∷ row "FC 3016 00 00 00000000 00 FF F005 06 FED58923BF F000 78180960" Bad
    -- descriptors up to CRC_32, one past it, and stuffing behind them: an insert, an immediate one, one that is cancelled
    ∷ row "FC 3026 00 00 00000000 00 FF F00F 05 00028CE8 7F CF FED58923BF 5566 00 00 0006 00 04 43554549 4BBC15FC" (At 3582534591)
    ∷ row "FC 3026 00 00 00000000 00 FF F00F 05 00028CE8 7F CF FED58923BF 5566 00 00 0007 00 04 43554549 04EB7DED" Bad
    ∷ row "FC 3028 00 00 00000000 00 FF F00F 05 00028CE8 7F CF FED58923BF 5566 00 00 0006 00 04 43554549 FFFF 95EA2105" (At 3582534591)
    ∷ row "FC 3021 00 00 00000000 00 FF F00F 05 00028CE8 7F CF FED58923BF 5566 00 00 0000 00 B433C12F" (At 3582534591)
    ∷ row "FC 301B 00 00 00000000 00 FF F00A 05 00028CE8 7F DF 5566 00 00 0001 2F4D044B" Bad
    ∷ row "FC 301C 00 00 00000000 00 FF F00A 05 00028CE8 7F DF 5566 00 00 0000 FF E7A15550" Timeless
    ∷ row "FC 3016 00 00 00000000 00 FF F005 05 00028CE8 FF 0001 536BEFEC" Bad
    ∷ row "FC 3018 00 00 00000000 00 FF F005 05 00028CE8 FF 0000 FFFF 1630DE94" Timeless
    -- a time_signal with pts_time and without
    ∷ row "FC 301C 00 00 00000000 00 FF F005 06 FED58923BF 0006 00 04 43554549 3ABCEE54" (At 3582534591)
    ∷ row "FC 3016 00 00 00000000 00 FF F005 06 FED58923BF 0001 8FE10D36" Bad
    ∷ row "FC 3018 00 00 00000000 00 FF F005 06 FED58923BF 0000 FFFF AE9BA590" (At 3582534591)
    ∷ row "FC 3012 00 00 00000000 00 FF F001 06 7F 0001 35094E0B" Bad
    ∷ row "FC 3016 00 00 00000000 00 FF F001 06 7F 0000 FFFFFFFF 118CB514" Timeless
    -- a command length one less and one more: a time_signal, an immediate insert, one with a duration, one without pts_time, one cancelled
    ∷ row "FC 3016 00 00 00000000 00 FF F004 06 FED58923BF 0000 7920BAE7" Bad
    ∷ row "FC 3016 00 00 00000000 00 FF F006 06 FED58923BF 0000 99E0F39C" Bad
    ∷ row "FC 3012 00 00 00000000 00 FF F000 06 7F 0000 78C53431" Bad
    ∷ row "FC 3012 00 00 00000000 00 FF F002 06 7F 0000 EADFFB2B" Bad
    ∷ row "FC 301B 00 00 00000000 00 FF F009 05 00028CE8 7F DF 5566 00 00 0000 E3944ABF" Bad
    ∷ row "FC 301B 00 00 00000000 00 FF F00B 05 00028CE8 7F DF 5566 00 00 0000 6C7BD73D" Bad
    ∷ row "FC 3025 00 00 00000000 00 FF F00F 05 00028CE8 7F EF FED58923BF FE00A4CB80 5566 00 00 0000 F3330E4D" Bad
    ∷ row "FC 301C 00 00 00000000 00 FF F00F 05 00028CE8 7F CF 7F 5566 00 00 0000 3E74B3A9" Bad
    ∷ row "FC 3016 00 00 00000000 00 FF F004 05 00028CE8 FF 0000 A5AA583D" Bad
    -- it has 12 bits: 0x105 and 0x805 are not 5
    ∷ row "FC 3016 00 00 00000000 00 FF F105 06 FED58923BF 0000 0BB0B0E6" Bad
    ∷ row "FC 3016 00 00 00000000 00 FF F805 06 FED58923BF 0000 9CA16565" Bad
    -- "A command length of 0xFFF counts as not given", in each of them; then the descriptors are still to fit
    ∷ row "FC 3011 00 00 00000000 00 FF FFFF 00 0000 4F253396" Timeless
    ∷ row "FC 3011 00 00 00000000 00 FF FFFF 00 0001 4BE42E21" Bad
    ∷ row "FC 3016 00 00 00000000 00 FF FFFF 06 FED58923BF 0000 F760F53C" (At 3582534591)
    ∷ row "FC 3016 00 00 00000000 00 FF FFFF 06 FED58923BF 0001 F3A1E88B" Bad
    ∷ row "FC 3012 00 00 00000000 00 FF FFFF 06 7F 0000 D1BE5BCA" Timeless
    ∷ row "FC 3016 00 00 00000000 00 FF FFFF 05 00028CE8 FF 0000 2BEA17E6" Timeless
    ∷ row "FC 3016 00 00 00000000 00 FF FFFF 05 00028CE8 FF 0001 2F2B0A51" Bad
    ∷ row "FC 301B 00 00 00000000 00 FF FFFF 05 00028CE8 7F DF 5566 00 00 0000 F01C03F6" Timeless
    ∷ row "FC 3020 00 00 00000000 00 FF FFFF 05 00028CE8 7F CF FED58923BF 5566 00 00 0001 42F0F00D" Bad
    -- with it an insert is whole, or bad, by its own syntax: one byte short
    ∷ row "FC 301F 00 00 00000000 00 FF FFFF 05 00028CE8 7F CF FED58923BF 5566 00 0000 6BE37172" Bad
    ∷ []

each_by_itself-read : found each_by_itself ≡ wanted each_by_itself
unfolding reading each_by_itself
each_by_itself-read = refl

-- ## The time

-- a PTS, the instant that belongs to it, a cue, and what is written
record Timing : Type 0 where
  pts : ℕ
  seconds : ℕ
  micros : ℕ
  cue : Cue
  wants : WireTime

timing : (pts seconds micros : ℕ) → Cue → WireTime → Timing
timing pts seconds micros c t = record { pts = pts; seconds = seconds; micros = micros; cue = c; wants = t }

at : (seconds micros : ℕ) → WireTime
at seconds micros = record { seconds = seconds; micros = micros }

times : List Timing
times =
    -- the page's: 100,001 ticks later; and one tick past the cue's, 2^33 - 1 ticks later
    timing 591651064 1000 0 (At 591751065) (at 0x000003E9 0x0001B212)
    ∷ timing 591751066 1000 0 (At 591751065) (at 96443 717677)
    -- the given instant itself, also by a PTS that is counted on
    ∷ timing 591751065 1000 999999 (At 591751065) (at 1000 999999)
    ∷ timing (591751065 + 8589934592) 1000 5 (At 591751065) (at 1000 5)
    ∷ timing (591751064 + 3 * 8589934592) 1000 5 (At 591751065) (at 1000 16)
    -- through the turn: from 2^33 - 1 to 0
    ∷ timing 8589934591 7 0 (At 0) (at 7 11)
    ∷ timing 0 7 0 (At 8589934591) (at 95450 717677)
    -- "rounded down to a microsecond": 1, 8 and 9 ticks are 11 1/9, 88 8/9 and 100
    ∷ timing 0 0 0 (At 1) (at 0 11)
    ∷ timing 0 0 0 (At 8) (at 0 88)
    ∷ timing 0 0 0 (At 9) (at 0 100)
    ∷ timing 0 0 999988 (At 1) (at 0 999999)
    ∷ timing 0 0 999989 (At 1) (at 1 0)
    -- "an instant past the time field's range": the last microsecond, and what is behind it
    ∷ timing 0 0xFFFFFFFF 999999 (At 0) (at 0xFFFFFFFF 999999)
    ∷ timing 0 0xFFFFFFFF 999988 (At 1) (at 0xFFFFFFFF 999999)
    ∷ timing 0 0xFFFFFFFF 999989 (At 1) all_ones
    ∷ timing 0 0xFFFFFFFF 999999 (At 1) all_ones
    ∷ timing 1 0xFFFFFFFF 0 (At 0) all_ones
    -- "No pts_time gives all ones"
    ∷ timing 0 1000 0 Timeless (at 0xFFFFFFFF 0xFFFFFFFF)
    ∷ []

times-written : map (λ t. cue_time t.pts t.seconds t.micros t.cue) times ≡ map (λ t. t.wants) times
unfolding computing timing at times
times-written = refl

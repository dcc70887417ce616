-- Numbers are read whole: all bytes of a field, a byte to its highest bit, lengths above 127 and 255 as they are. Each row has a value that
-- a reading of some bits only, of a part one off, or of one byte fewer takes for another. From 01 and 02, by hand. Assumes nothing.
use Rattle.std.specs.Prelude.{◌≡◌, refl, true, false, List, [], ◌∷◌, map, ◌++◌ as ◌then◌, ℕ, zero, suc, replicate}
use Prim.Native.String.{String}
use Rattle.rules.specs.declared.Start.{Start}
use Rattle.rules.specs.declared.Start.TheVariants.{Timed, Linked}
use Rattle.rules.specs.declared.Message.{Message}
use Rattle.rules.specs.declared.Message.TheVariants.{Init, Alive, Splice, Abort, Config, Extended}
use Rattle.rules.specs.declared.Refusal.TheVariants.{Oversize, Short}
use Rattle.rules.specs.Bytes.{name_in, same_name, written}
use Rattle.rules.specs.Hardware.{length_in}
use Rattle.rules.specs.Descriptors.{mux_of}
use Rattle.rules.specs.Reading.{read_init, read_alive, read_abort, read_extended, read_config, is_read, read}
use Rattle.rules.specs.Request.{read_splice}
use Rattle.rules.specs.Follows.ReadBack.{is_splice}
use Rattle.rules.specs.Streams.{Listed, listed, unlisted, separate_in}
use Rattle.rules.specs.Calls.{framing}
use Rattle.cases.specs.Scenario.{hex}
use Rattle.cases.specs.Computing.{computing}
use Rattle.std.specs.Prelude.{Err, None, Ok, Option, Result, Some}
use Rattle.rules.specs.declared.Header.{Header}
use Rattle.rules.specs.declared.Refusal.{Refusal}
use Rattle.rules.specs.Calls.{headed}

-- ## House numbers 4 and 5: "MessageSize above 4,088"; "5 (header), 4, 5 (body)"

record Heading : Type 0 where
  bytes : String
  wants : Result Header Refusal

heading : String → Result Header Refusal → Heading
heading l f = record { bytes = l; wants = f }

-- for MessageSize without its highest bit, in its low 12 bits, and compared in the low 7 or 8; and for MessageID so
headings : List Heading
headings =
    heading "0005 0000 FFFF FFFF" (Ok (headed 5 0))
    ∷ heading "0105 0000 FFFF FFFF" (Ok (headed 0x0105 0))
    ∷ heading "1005 0000 FFFF FFFF" (Ok (headed 0x1005 0))
    ∷ heading "8005 0000 FFFF FFFF" (Ok (headed 0x8005 0))
    ∷ heading "0005 0001 FFFF FFFF" (Err Short)
    ∷ heading "0005 0079 FFFF FFFF" (Err Short)
    ∷ heading "0005 007F FFFF FFFF" (Err Short)
    ∷ heading "0005 0080 FFFF FFFF" (Err Short)
    ∷ heading "0005 00F9 FFFF FFFF" (Err Short)
    ∷ heading "0005 00FF FFFF FFFF" (Err Short)
    ∷ heading "0005 0100 FFFF FFFF" (Err Short)
    ∷ heading "0005 0FF8 FFFF FFFF" (Err Short)
    ∷ heading "0005 0FF9 FFFF FFFF" (Err Oversize)
    ∷ heading "0005 1000 FFFF FFFF" (Err Oversize)
    ∷ heading "0005 2000 FFFF FFFF" (Err Oversize)
    ∷ heading "0005 8000 FFFF FFFF" (Err Oversize)
    ∷ heading "0005 8008 FFFF FFFF" (Err Oversize)
    ∷ heading "0005 FF00 FFFF FFFF" (Err Oversize)
    ∷ []

framed : map (λ h. framing (hex h.bytes)) headings ≡ map (λ h. h.wants) headings
unfolding computing heading headings
framed = refl

-- ## "A string ends at its first zero byte": 0x80 is none

named : map (λ l. name_in (hex l)) ("43803100" ∷ "80000041" ∷ "FF0100" ∷ "00" ∷ []) ≡ hex "438031" ∷ hex "80" ∷ hex "FF01" ∷ [] ∷ []
unfolding computing
named = refl

other_name : map (λ l. same_name (hex l) (hex "4300")) ("438000" ∷ "430080" ∷ "C300" ∷ []) ≡ false ∷ true ∷ false ∷ []
unfolding computing
other_name = refl

-- ## "bytes beyond those written stay unchanged": before the place too

placed : written (hex "010203040506") 2 (hex "0908") ≡ hex "010209080506"
unfolding computing
placed = refl

-- ## Init_Request: Revision_Num 2; 02, CR 6: "for a Hardware_Config over 256 bytes or past the message's end"

name : List ℕ
name = hex "434831" then replicate 29 0

-- a revision, two names, a Length and that many bytes behind it
init : (revision size : String) → ℕ → List ℕ
init r l n = hex r then (name then (name then (hex l then replicate n 0x55)))

record Asks : Type 0 where
  data' : List ℕ
  wants : Option Message

asks : List ℕ → Option Message → Asks
asks d m = record { data' = d; wants = m }

inits : List Asks
inits =
    asks (init "0002" "0000" 0) (Some (Init 2))
    ∷ asks (init "0102" "0000" 0) (Some (Init 0x0102))
    ∷ asks (init "1002" "0000" 0) (Some (Init 0x1002))
    ∷ asks (init "8002" "0000" 0) (Some (Init 0x8002))
    -- Lengths of which some bits say 0
    ∷ asks (init "0002" "0100" 0) None
    ∷ asks (init "0002" "1000" 0) None
    ∷ asks (init "0002" "8000" 0) None
    -- 127 bytes of 130, 255 of 257; 129 in 127, 257 in 255
    ∷ asks (init "0002" "003B" 62) (Some (Init 2))
    ∷ asks (init "0002" "00BB" 189) (Some (Init 2))
    ∷ asks (init "0002" "003D" 59) None
    ∷ asks (init "0002" "00BD" 187) None
    -- 256 with its Length, and 257
    ∷ asks (init "0002" "00FE" 254) (Some (Init 2))
    ∷ asks (init "0002" "00FF" 255) None
    ∷ []

inits-read : map (λ a. read_init a.data') inits ≡ map (λ a. a.wants) inits
unfolding computing name init asks inits
inits-read = refl

lengths : map (λ l. length_in (hex l)) ("0101" ∷ "1001" ∷ "8001" ∷ []) ≡ 0x0101 ∷ 0x1001 ∷ 0x8001 ∷ []
unfolding computing
lengths = refl

-- ## "Not readable": a size that is not the kind's, in its low bits too

alives : map (λ n. read_alive (replicate n 0)) (0 ∷ 7 ∷ 8 ∷ 9 ∷ 136 ∷ 264 ∷ [])
    ≡ None ∷ None ∷ (Some Alive) ∷ None ∷ None ∷ None ∷ []
unfolding computing
alives = refl

aborts : map (λ n. read_abort (replicate n 0)) (3 ∷ 4 ∷ 5 ∷ 132 ∷ 260 ∷ [])
    ≡ None ∷ Some (Abort 0) ∷ None ∷ None ∷ None ∷ []
unfolding computing
aborts = refl

-- "GetConfig_Request (0x000A, no data)"
configs : map (λ n. read_config (replicate n 0)) (0 ∷ 1 ∷ 128 ∷ 256 ∷ []) ≡ Some Config ∷ None ∷ None ∷ None ∷ []
unfolding computing
configs = refl

-- SessionIDs to their highest bit; "the default type, 0xFFFFFFFF", all of it
numbers : read_abort (hex "80000001") ∷ read_extended (hex "80000001 FFFFFFFF") ∷ [] ≡ Some (Abort 0x80000001)
    ∷ Some (Extended 0x80000001) ∷ []
unfolding computing
numbers = refl

extended : map read_extended
    (hex "00000001 7FFFFFFF" ∷ hex "00000001 FFFFFF7F" ∷ hex "00000001 000000FF" ∷ (hex "00000001 FFFFFFFF" then replicate 128 0)
    ∷ (hex "00000001 FFFFFFFF" then replicate 256 0) ∷ []) ≡ None ∷ None ∷ None ∷ None ∷ None ∷ []
unfolding computing
extended = refl

-- ## "Descriptor: tag 1, length 1, identifier 4, private bytes. Length counts what follows it, is 4 to 254"; 02, CR 5

record Loop : Type 0 where
  bytes : List ℕ
  wants : Option ℕ

loop : List ℕ → Option ℕ → Loop
loop l p = record { bytes = l; wants = p }

-- tag and length, and so many bytes behind them
far : String → ℕ → List ℕ
far l n = hex l then replicate n 0x41

loops : List Loop
loops =
    -- lengths whose low bits say less than 4
    loop (far "017F" 127) (Some 5)
    ∷ loop (far "0180" 128) (Some 5)
    ∷ loop (far "0183" 131) (Some 5)
    ∷ loop (far "01FE" 254) (Some 5)
    ∷ loop (far "01FF" 255) None
    -- one of 127 or 255 bytes with one of six behind it; ones of 129 and 256 bytes, of which 100 are there
    ∷ loop (far "017D" 125 then far "0104" 4) (Some 5)
    ∷ loop (far "01FD" 253 then far "0104" 4) (Some 5)
    ∷ loop (far "017F" 98) None
    ∷ loop (far "01FE" 98) None
    -- "tag 0x02 under SAPI": not 0x82, not another highest bit of the identifier; a value to its highest bit
    ∷ loop (hex "8205 53415049 0B") (Some 5)
    ∷ loop (hex "0205 D3415049 0B") (Some 5)
    ∷ loop (hex "0205 534150C9 0B") (Some 5)
    ∷ loop (hex "0205 53415049 07") (Some 7)
    ∷ loop (hex "0205 53415049 81") None
    ∷ loop (hex "0205 53415049 8A") None
    -- "the length must be 5": what stands behind a shorter one is no value
    ∷ loop (hex "0204 53415049 0504 41424344") None
    ∷ loop (hex "0206 53415049 0505") None
    ∷ []

loops-read : map (λ x. mux_of x.bytes) loops ≡ map (λ x. x.wants) loops
unfolding computing loop far loops
loops-read = refl

-- ## 02, CR 1: "PIDs are at most 0x1FFF"; "At most 16 streams"; "Length counts the whole structure", "is at least 21"

-- whether the structures are good, and how many bytes are left
left : Listed → List ℕ
left (listed l rest) = rest
left unlisted = hex "EE"

record Names : Type 0 where
  bytes : List ℕ
  wants : List ℕ

names : List ℕ → List ℕ → Names
names p l = record { bytes = p; wants = l }

-- a structure: Length, PID and StreamType, and zeros up to that many bytes
stream : String → ℕ → List ℕ
stream l n = hex l then replicate n 0

separate : List Names
separate =
    names (hex "1FFF 00000000 77") (hex "77")
    ∷ names (hex "2000 00000000 77") (hex "EE")
    ∷ names (hex "8000 00000000 77") (hex "EE")
    ∷ names (hex "2001 00000000 77") (hex "EE")
    -- PIDCounts of which some bits say 0 or 1
    ∷ names (hex "0031 00000080 77") (hex "EE")
    ∷ names (hex "0031 00000100 77") (hex "EE")
    ∷ names (hex "0031 80000000 77") (hex "EE")
    ∷ names (hex "0031 00010000 77") (hex "EE")
    -- 5 bytes, 6, 133 and 261
    ∷ names (hex "0031 000000") (hex "EE")
    ∷ names (hex "0031 00000000") []
    ∷ names (hex "0031 00000000" then replicate 127 0x77) (replicate 127 0x77)
    ∷ names (hex "0031 00000000" then replicate 255 0x77) (replicate 255 0x77)
    -- PIDs and StreamTypes of a structure
    ∷ names (hex "0031 00000001" then stream "15 1FFF 007F" 16) []
    ∷ names (hex "0031 00000001" then (stream "15 1FFF 007F" 16 then hex "77")) (hex "77")
    ∷ names (hex "0031 00000001" then (stream "15 0031 00FF" 16 then hex "77")) (hex "77")
    ∷ names (hex "0031 00000001" then (stream "15 0031 7FFF" 16 then hex "77")) (hex "77")
    ∷ names (hex "0031 00000001" then (stream "15 0031 0FFF" 16 then hex "77")) (hex "77")
    ∷ names (hex "0031 00000001" then (stream "15 2000 0002" 16 then hex "77")) (hex "EE")
    ∷ names (hex "0031 00000001" then (stream "15 8000 0002" 16 then hex "77")) (hex "EE")
    ∷ names (hex "0031 00000001" then (stream "15 0031 FFFF" 16 then hex "77")) (hex "EE")
    -- Lengths of 20, of 128 and 148 (20 in the low bits), of 127 in 130 bytes, of 255 in 257, of 129 in 127
    ∷ names (hex "0031 00000001" then stream "14 0031 0002" 15) (hex "EE")
    ∷ names (hex "0031 00000001" then (stream "80 0031 0002" 123 then hex "77")) (hex "77")
    ∷ names (hex "0031 00000001" then (stream "94 0031 0002" 143 then hex "77")) (hex "77")
    ∷ names (hex "0031 00000001" then (stream "7F 0031 0002" 122 then hex "777777")) (hex "777777")
    ∷ names (hex "0031 00000001" then (stream "FF 0031 0002" 250 then hex "7777")) (hex "7777")
    ∷ names (hex "0031 00000001" then stream "81 0031 0002" 122) (hex "EE")
    ∷ []

separate-read : map (λ x. left (separate_in x.bytes)) separate ≡ map (λ x. x.wants) separate
unfolding computing left names stream separate
separate-read = refl

-- "At most 16 streams": 128 that are good are too many, whatever the low bits of their number say
many : ℕ → List ℕ
many zero = hex "77"
many (suc n) = stream "15 0031 0002" 16 then many n

counted : map (λ x. left (separate_in x)) ((hex "0031 00000010" then many 16) ∷ (hex "0031 00000080" then many 128) ∷ [])
    ≡ hex "77" ∷ hex "EE" ∷ []
unfolding computing left stream many
counted = refl

-- each number of a structure to its highest bit
whole : separate_in (hex "0031 00000001 16 1FFF 8002 80000003 80000004 80000005 8006 8007 99 77") ≡ listed (record {
  pid = 0x1FFF;
  stream_type = 0x8002;
  avg_bitrate = 0x80000003;
  max_bitrate = 0x80000004;
  min_bitrate = 0x80000005;
  h_resolution = 0x8006;
  v_resolution = 0x8007;
  kept = hex "99";
} ∷ []) (hex "77")
unfolding computing
whole = refl

-- ## Splice_Request

-- SessionID, PriorSession and time; ServiceID; the tail; descriptors
splice : (head service tail : String) → (descriptors : List ℕ) → List ℕ
splice h s t l = hex h then (hex s then (hex t then l))

-- what is read of one whose SpliceEventID is 0x80000002, whose AccessType is 3 and whose flags are 1 and 0
reads : ℕ → Start → (duration : ℕ) → Option Message
reads x t n =
    Some (Splice (record { id = x; start = t; duration = record { 0 = n }; event = 0x80000002; access = 3; overrides = 1; mux = 5 }))

splices : List Asks
splices =
    -- each number to its highest bit: SessionID, Seconds, Duration; PriorSession
    asks (splice "80000001 FFFFFFFF 80000000 0000007F" "0001" "80000000 80000002 00000000 03 01 00" [])
    (reads 0x80000001 (Timed (record { 0 = 2147483648000127 })) 0x80000000)
    ∷ asks (splice "00000001 80000004 00000000 FFFFFFFF" "0001" "00000080 80000002 00000000 03 01 00" [])
    (reads 1 (Linked 0x80000004) 128)
    -- PriorSessions that are 0xFFFFFFFF in some bits only, ServiceIDs that are 0xFFFF so
    ∷ asks (splice "00000001 000000FF 00000000 FFFFFFFF" "007F" "00000100 80000002 00000000 03 01 00" []) (reads 1 (Linked 255) 256)
    ∷ asks (splice "00000001 7FFFFFFF 00000000 FFFFFFFF" "00FF" "00000001 80000002 00000000 03 01 00" []) (reads 1 (Linked 0x7FFFFFFF) 1)
    ∷ asks (splice "00000001 FFFFFF7F 00000000 FFFFFFFF" "0FFF" "00000001 80000002 00000000 03 01 00" []) (reads 1 (Linked 0xFFFFFF7F) 1)
    ∷ asks (splice "00000001 00000004 00000000 FFFFFFFF" "7FFF" "00000001 80000002 00000000 03 01 00" []) (reads 1 (Linked 4) 1)
    -- a tail of 142 bytes, data of 145 and 273, a tail of 270
    ∷ asks (splice "00000001 00000004 00000000 00000000" "0001" "00000001 80000002 00000000 03 01 00" (far "017D" 125))
    (reads 1 (Linked 4) 1)
    ∷ asks (splice "00000001 00000004 00000000 00000000" "0001" "00000001 80000002 00000000 03 01 00" (far "016E" 110))
    (reads 1 (Linked 4) 1)
    ∷ asks (splice "00000001 00000004 00000000 00000000" "0001" "00000001 80000002 00000000 03 01 00" (far "01EE" 238))
    (reads 1 (Linked 4) 1)
    ∷ asks (splice "00000001 00000004 00000000 00000000" "0001" "00000001 80000002 00000000 03 01 00" (far "01FD" 253))
    (reads 1 (Linked 4) 1)
    -- "MicroSeconds": 999,999 at most, of a timed one
    ∷ asks (splice "00000001 FFFFFFFF 00000001 000F423F" "0001" "00000001 80000002 00000000 03 01 00" [])
    (reads 1 (Timed (record { 0 = 1999999 })) 1)
    ∷ asks (splice "00000001 FFFFFFFF 00000001 000F4240" "0001" "00000001 80000002 00000000 03 01 00" []) None
    ∷ asks (splice "00000001 FFFFFFFF 00000001 80000000" "0001" "00000001 80000002 00000000 03 01 00" []) None
    -- AccessType 9 at most, flags 0 or 1: to their highest bits
    ∷ asks (splice "00000001 00000004 00000000 00000000" "0001" "00000001 80000002 00000000 0A 01 00" []) None
    ∷ asks (splice "00000001 00000004 00000000 00000000" "0001" "00000001 80000002 00000000 80 01 00" []) None
    ∷ asks (splice "00000001 00000004 00000000 00000000" "0001" "00000001 80000002 00000000 03 80 00" []) None
    ∷ asks (splice "00000001 00000004 00000000 00000000" "0001" "00000001 80000002 00000000 03 81 00" []) None
    ∷ asks (splice "00000001 00000004 00000000 00000000" "0001" "00000001 80000002 00000000 03 01 80" []) None
    ∷ asks (splice "00000001 00000004 00000000 00000000" "0001" "00000001 80000002 00000000 03 01 81" []) None
    ∷ asks (splice "00000001 00000004 00000000 00000000" "0001" "00000000 80000002 00000000 03 01 00" []) None
    ∷ []

splices-read : map (λ a. read_splice a.data') splices ≡ map (λ a. a.wants) splices
unfolding computing asks splice reads far splices
splices-read = refl

-- ## "ID not in the list": the ids of the list with another high bit

others : List ℕ
others =
    0x81 ∷ 0x85 ∷ 0x87 ∷ 0x8E ∷ 0x83 ∷ 0x8A ∷ 0x101 ∷ 0x105 ∷ 0x107 ∷ 0x10E ∷ 0x103 ∷ 0x10A ∷ 0x8001 ∷ 0x1005 ∷ 0 ∷ 2 ∷ 4 ∷ 6 ∷ 8
    ∷ 9 ∷ 0xB ∷ 0xC ∷ 0xD ∷ 0xF ∷ []

not-read : map is_read others ≡ replicate 24 false
unfolding computing others
not-read = refl

are-read : map is_read (1 ∷ 5 ∷ 7 ∷ 0xE ∷ 3 ∷ 0xA ∷ []) ≡ replicate 6 true
unfolding computing
are-read = refl

-- data that each kind would be read from
not-theirs :
    map (λ n. read n (init "0002" "0000" 0)) (0x81 ∷ 0x101 ∷ [])
    then (map (λ n. read n (replicate 8 0)) (0x85 ∷ 0x105 ∷ [])
    then (map (λ n. read n (replicate 4 0)) (0x8E ∷ 0x10E ∷ [])
    then (map (λ n. read n (hex "00000001 FFFFFFFF")) (0x83 ∷ 0x103 ∷ [])
    then (map (λ n. read n []) (0x8A ∷ 0x10A ∷ [])
    then map (λ n. read n (splice "00000001 00000004 00000000 00000000" "0001" "00000001 00000002 00000000 03 01 00" []))
    (0x87 ∷ 0x107 ∷ []))))) ≡ replicate 12 None
unfolding computing name init splice
not-theirs = refl

-- nor lower ones
not_lower : read 0 (init "0002" "0000" 0) ∷ read 2 (hex "00000001 FFFFFFFF") ∷ map (λ n. read n []) (4 ∷ 6 ∷ 8 ∷ 9 ∷ [])
    ≡ replicate 6 None
unfolding computing name init
not_lower = refl

-- of a message's own bytes
are-splices : map (λ l. is_splice (hex l)) ("0007" ∷ "0006" ∷ "0008" ∷ "0001" ∷ "0087" ∷ "0107" ∷ "8007" ∷ [])
    ≡ true ∷ false ∷ false ∷ false ∷ false ∷ false ∷ false ∷ []
unfolding computing
are-splices = refl

-- 02, CR 7: the cue call, from a section's bytes to the answer's: its refusals in their order, who gets what, and that nothing changes. The
-- sections are those of docs/SCTE35.md and of Sections; worked by hand. Assumes nothing.
use Rattle.std.specs.Prelude.{◌≡◌, refl, List, [], ◌∷◌, ◌++◌, map, ℕ, replicate}
use Prim.Native.String.{String}
use Rattle.rules.specs.State.{Splicer}
use Rattle.rules.specs.HouseNumbers.{Answer, refused, good, lending}
use Rattle.rules.specs.Calls.{Call, opens, closes, messages, ticks, cues, call, after, fresh}
use Rattle.rules.specs.Follows.Sequences.{answers}
use Rattle.rules.specs.HouseNumbers.{house_number, written_by, buffer_after}
use Rattle.cases.specs.Scenario.{hex}
use Rattle.cases.specs.Computing.{computing}

-- what a caller sees of an answer: the house number, or the bytes written; none is consumed
data Seen : Type 0 where
  number : ℕ → Seen
  takes : ℕ → List ℕ → Seen

seen : Answer → Seen
seen (refused n) = number (house_number n)
seen (good consumed rs) = takes consumed (written_by (good consumed rs))

abbrev says : String → Seen
says l = takes 0 (hex l)

-- of two connections
abbrev says_both : String → String → Seen
says_both l k = takes 0 (hex l ++ hex k)

record Row : Type 0 where
  calls : Call
  wants : Seen

row : Call → Seen → Row
row k x = record { calls = k; wants = x }

-- ## Sections

-- time_signal whose PTS is 591,751,065; the same with its last bit turned; splice_null; bandwidth_reservation
signal : String
signal = "FC 3016 00 01 00000010 00 FF F005 06 FF23456789 0000 713B22BD"

wrong : String
wrong = "FC 3016 00 01 00000010 00 FF F005 06 FF23456789 0000 713B22BC"

null : String
null = "FC 3011 00 00 00000000 00 FF F000 00 0000 7A4FBFFF"

reserved : String
reserved = "FC 3011 00 00 00000000 00 FF F000 07 0000 7F44F86A"

-- 24 of 25 bytes
cut : String
cut = "FC 3016 00 01 00000010 00 FF F005 06 FF23456789 0000 713B22"

-- a section with PTS 591,651,064 at 1,000 s: 100,001 ticks before the cue, which so is at 1,001 s 111,122 µs
cue : String → Call
cue l = cues (hex l) 591651064 1000 0 4096

-- ## Calls

start : Splicer
start = (fresh (hex "43483100")).splicer

-- Init_Request for "CH1" with a Hardware_Config of Length 0, 76 bytes; Init_Response 100
init : List ℕ
init = hex "0001 0044 FFFF FFFF 0002 43483100" ++ replicate 62 0

named : String → Seen
named conn = takes 76 (hex "52" ++ (hex conn ++ (hex "0002 0022 0064 FFFF 0002 43483100" ++ replicate 28 0)))

-- Alive_Request; at 1,000 s on the primary channel
alive : List ℕ
alive = hex "0005 0008 FFFF FFFF 00000000 00000000"

rows : List Row
rows =
    -- nobody is there; then 0, 1 and 2 are open and nobody is initialised: "Open but not initialised connections get nothing"
    row (cue signal) (takes 0 [])
    ∷ row (cue wrong) (takes 0 [])
    ∷ row (opens 0) (takes 0 [])
    ∷ row (opens 1) (takes 0 [])
    ∷ row (opens 2) (takes 0 [])
    ∷ row (cue signal) (takes 0 [])
    ∷ row (cue wrong) (takes 0 [])
    ∷ row (messages 0 init (lending 4096)) (named "00")
    ∷ row (messages 2 init (lending 4096)) (named "02")
    -- "2, 8, 11": all three, the last two, the last
    ∷ row (cues (hex cut) 0 1000 1000000 4095) (number 2)
    ∷ row (cues (hex cut) 0 1000 1000000 4096) (number 8)
    ∷ row (cues (hex cut) 0 1000 999999 4096) (number 11)
    ∷ row (cues [] 0 1000 0 4096) (number 11)
    -- MessageSize 8 + 25 = 0x21, Result and Result_Extension 0xFFFF, 1,001 s = 0x3E9, 111,122 = 0x1B212, the section
    ∷ row (cue signal)
    (says_both "5200 000C 0021 FFFF FFFF 000003E9 0001B212 FC301600010000001000FFF00506FF234567890000713B22BD"
    "5202 000C 0021 FFFF FFFF 000003E9 0001B212 FC301600010000001000FFF00506FF234567890000713B22BD")
    -- 117 = 0x75 to the same; nothing for a command that is not read
    ∷ row (cue wrong) (says "5200 0000 0000 0075 FFFF 5202 0000 0000 0075 FFFF")
    ∷ row (cue reserved) (takes 0 [])
    -- without a pts_time all ones; MessageSize 8 + 20 = 0x1C
    ∷ row (cue null)
    (says_both "5200 000C 001C FFFF FFFF FFFFFFFF FFFFFFFF FC301100000000000000FFF000000000 7A4FBFFF"
    "5202 000C 001C FFFF FFFF FFFFFFFF FFFFFFFF FC301100000000000000FFF000000000 7A4FBFFF")
    -- "the clock plays no part": at 1,000 s a cue of 10 s; its own PTS is the given instant, and PTS count modulo 2^33
    ∷ row (ticks 1000 0 4096) (takes 0 [])
    ∷ row (cues (hex signal) 9181685657 10 7 4096)
    (says_both "5200 000C 0021 FFFF FFFF 0000000A 00000007 FC301600010000001000FFF00506FF234567890000713B22BD"
    "5202 000C 0021 FFFF FFFF 0000000A 00000007 FC301600010000001000FFF00506FF234567890000713B22BD")
    -- past the time field's range, by a microsecond: 100,001 ticks are 1.111122 s
    ∷ row (cues (hex signal) 591651064 4294967294 888878 4096)
    (says_both "5200 000C 0021 FFFF FFFF FFFFFFFF FFFFFFFF FC301600010000001000FFF00506FF234567890000713B22BD"
    "5202 000C 0021 FFFF FFFF FFFFFFFF FFFFFFFF FC301600010000001000FFF00506FF234567890000713B22BD")
    ∷ row (cues (hex signal) 591651064 4294967294 888877 4096)
    (says_both "5200 000C 0021 FFFF FFFF FFFFFFFF 000F423F FC301600010000001000FFF00506FF234567890000713B22BD"
    "5202 000C 0021 FFFF FFFF FFFFFFFF 000F423F FC301600010000001000FFF00506FF234567890000713B22BD")
    -- "from 0 upward", though 1 is the last that was initialised; Cue_Response is not answered
    ∷ row (messages 1 init (lending 4096)) (named "01")
    ∷ row (messages 1 (hex "000D 0000 0064 FFFF") (lending 4096)) (takes 8 [])
    ∷ row (cue wrong) (says "5200 0000 0000 0075 FFFF 5201 0000 0000 0075 FFFF 5202 0000 0000 0075 FFFF")
    -- a closed one gets nothing, nor once it is open again
    ∷ row (closes 0 4096) (takes 0 [])
    ∷ row (cue wrong) (says "5201 0000 0000 0075 FFFF 5202 0000 0000 0075 FFFF")
    ∷ row (opens 0) (takes 0 [])
    ∷ row (cue wrong) (says "5201 0000 0000 0075 FFFF 5202 0000 0000 0075 FFFF")
    -- connection 3 is one of them
    ∷ row (opens 3) (takes 0 [])
    ∷ row (messages 3 init (lending 4096)) (named "03")
    ∷ row (cue wrong) (says "5201 0000 0000 0075 FFFF 5202 0000 0000 0075 FFFF 5203 0000 0000 0075 FFFF")
    -- the clock is where the tick brought it: 1,000 s = 0x3E8
    ∷ row (messages 1 alive (lending 4096)) (takes 16 (hex "5201 0006 0010 0064 FFFF 00000001 FFFFFFFF 000003E8 00000000"))
    -- and the only one, once 1 and 2 are closed
    ∷ row (closes 1 4096) (takes 0 [])
    ∷ row (closes 2 4096) (takes 0 [])
    ∷ row (cue null) (says "5203 000C 001C FFFF FFFF FFFFFFFF FFFFFFFF FC301100000000000000FFF000000000 7A4FBFFF")
    ∷ []

same : map seen (answers (map (λ r. r.calls) rows) start) ≡ map (λ r. r.wants) rows
unfolding seen row signal wrong null reserved cut cue start init named alive rows computing
same = refl

-- ## "It reads the connections' states and changes nothing"

initialised : Splicer
initialised = after (opens 0 ∷ messages 0 init (lending 4096) ∷ []) start

unchanged : after (cue signal ∷ cue wrong ∷ cue null ∷ cue cut ∷ []) initialised ≡ initialised
unfolding signal wrong null cut cue start init initialised computing
unchanged = refl

-- "bytes beyond those written stay unchanged": a buffer of 4,096 bytes 0xAA, by one that is passed on to one connection and by a refused
-- one
buffer : Call → List ℕ
buffer k = buffer_after (call k initialised).answer (replicate 4096 0xAA)

written : buffer (cue null) ≡ hex "5200 000C 001C FFFF FFFF FFFFFFFF FFFFFFFF FC301100000000000000FFF000000000 7A4FBFFF"
    ++ replicate 4058 0xAA
unfolding null cue start init initialised buffer computing
written = refl

untouched : buffer (cue cut) ≡ replicate 4096 0xAA
unfolding cut cue start init initialised buffer computing
untouched = refl

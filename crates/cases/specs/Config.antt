-- 02, CR 6: Hardware_Config in Init_Requests, GetConfig_Requests and the two lent sections, from bytes to bytes, worked by hand. Assumes
-- nothing.
use Rattle.std.specs.Prelude.{◌≡◌, refl, List, [], ◌∷◌, ◌++◌, map, ℕ, replicate}
use Prim.Native.String.{String}
use Rattle.rules.specs.State.{Splicer}
use Rattle.rules.specs.HouseNumbers.{Answer, refused, good, Loans, lending, lending_maps}
use Rattle.rules.specs.Calls.{Call, opens, closes, messages, ticks, fresh}
use Rattle.rules.specs.Follows.Sequences.{answers}
use Rattle.rules.specs.HouseNumbers.{house_number, written_by}
use Rattle.cases.specs.Scenario.{hex}
use Rattle.cases.specs.Computing.{computing}

-- what a caller sees of an answer: the house number, or the bytes consumed and those written
data Seen : Type 0 where
  number : ℕ → Seen
  takes : ℕ → List ℕ → Seen

seen : Answer → Seen
seen (refused n) = number (house_number n)
seen (good consumed rs) = takes consumed (written_by (good consumed rs))

record Row : Type 0 where
  calls : Call
  wants : Seen

row : Call → Seen → Row
row k x = record { calls = k; wants = x }

-- a splicer "CH1"; the 32 bytes of its name
start : Splicer
start = (fresh (hex "43483100")).splicer

name : List ℕ
name = hex "43483100" ++ replicate 28 0

-- Init_Request with "CH1" and an empty SplicerName, and what stands behind them; size: its MessageSize, 66 and that
init : String → List ℕ → List ℕ
init size h = hex "0001" ++ (hex size ++ (hex "FFFF FFFF 0002" ++ (name ++ (replicate 32 0 ++ h))))

-- one with another ChannelName and a Hardware_Config of Length 1
other : List ℕ
other = hex "0001 0045 FFFF FFFF 0002 43483200" ++ (replicate 60 0 ++ hex "0001 EE")

-- Init_Response, General_Response and GetConfig_Response with a mark and a result or a size
named : String → String → List ℕ
named mark result = hex mark ++ (hex "0002 0022" ++ (hex result ++ (hex "FFFF 0002" ++ name)))

general : String → List ℕ
general result = hex "5200 0000 0000" ++ (hex result ++ hex "FFFF")

gives : String → String → List ℕ → List ℕ
gives mark size rest = hex mark ++ (hex "000B" ++ (hex size ++ (hex "0064 FFFF" ++ (name ++ rest))))

-- GetConfig_Request
config : List ℕ
config = hex "000A 0000 FFFF FFFF"

-- the primary's section is three bytes, the insertion's two
both : Loans
both = lending_maps (hex "02B001") (hex "02B1") 4096

-- 1,024 = 0x400 bytes, and one more
most : List ℕ
most = replicate 1024 0x47

long : List ℕ
long = replicate 1025 0x47

rows : List Row
rows =
    row (opens 0) (takes 0 [])
    -- not initialised: 103; also where data is present
    ∷ row (messages 0 config both) (takes 8 (general "0067"))
    ∷ row (messages 0 (hex "000A 0001 FFFF FFFF 00") both) (takes 9 (general "0067"))
    -- 10 comes before 103
    ∷ row (messages 0 config (lending_maps long [] 4096)) (number 10)
    -- 66 and 67 bytes: the Length field is past the message's end, 123
    ∷ row (messages 0 (init "0042" []) both) (takes 74 (general "007B"))
    ∷ row (messages 0 (init "0043" (hex "00")) both) (takes 75 (general "007B"))
    -- 68 bytes with Length 0
    ∷ row (messages 0 (init "0044" (hex "0000")) both) (takes 76 (named "5200" "0064"))
    -- nothing on air: the primary's. 32 + 2 + 3 = 0x25
    ∷ row (messages 0 config both) (takes 8 (gives "5200" "0025" (hex "0000 02B001")))
    -- an empty section adds nothing
    ∷ row (messages 0 config (lending 4096)) (takes 8 (gives "5200" "0022" (hex "0000")))
    -- a Length below 8 is kept as it is, and a good later Init replaces it
    ∷ row (messages 0 (init "0045" (hex "0001 AA")) both) (takes 77 (named "5200" "0064"))
    ∷ row (messages 0 config (lending 4096)) (takes 8 (gives "5200" "0023" (hex "0001 AA")))
    -- 104 keeps what was there, and so does 123: one byte past the end
    ∷ row (messages 0 other both) (takes 77 (named "5200" "0068"))
    ∷ row (messages 0 (init "0045" (hex "0002 BB")) both) (takes 77 (general "007B"))
    ∷ row (messages 0 config (lending 4096)) (takes 8 (gives "5200" "0023" (hex "0001 AA")))
    -- what follows the structure is unread
    ∷ row (messages 0 (init "0048" (hex "0002 BBBB CCCC")) both) (takes 80 (named "5200" "0064"))
    ∷ row (messages 0 config (lending 4096)) (takes 8 (gives "5200" "0024" (hex "0002 BBBB")))
    -- Length 254 in 322 = 0x142 bytes is the longest; 255 never is good. 32 + 256 = 0x120
    ∷ row (messages 0 (init "0142" (hex "00FE" ++ replicate 254 0x55)) both) (takes 330 (named "5200" "0064"))
    ∷ row (messages 0 (init "0143" (hex "00FF" ++ replicate 255 0x66)) both) (takes 331 (general "007B"))
    ∷ row (messages 0 config (lending 4096)) (takes 8 (gives "5200" "0120" (hex "00FE" ++ replicate 254 0x55)))
    -- a shorter one leaves nothing of it
    ∷ row (messages 0 (init "0045" (hex "0001 AA")) both) (takes 77 (named "5200" "0064"))
    ∷ row (messages 0 config (lending 4096)) (takes 8 (gives "5200" "0023" (hex "0001 AA")))
    -- 256 = 0x100 bytes of data: 123, all of MessageSize counts
    ∷ row (messages 0 (hex "000A 0100 FFFF FFFF" ++ replicate 256 0) both) (takes 264 (general "007B"))
    -- data present: 123; 0x000B that comes in: 120
    ∷ row (messages 0 (hex "000A 0001 FFFF FFFF 00") both) (takes 9 (general "007B"))
    ∷ row (messages 0 (hex "000B 0000 FFFF FFFF") both) (takes 8 (general "0078"))
    -- 10: either section over 1,024 bytes; 32 + 3 + 1,024 = 0x423
    ∷ row (messages 0 config (lending_maps most [] 4096)) (takes 8 (gives "5200" "0423" (hex "0001 AA" ++ most)))
    ∷ row (messages 0 config (lending_maps long [] 4096)) (number 10)
    ∷ row (messages 0 config (lending_maps [] long 4096)) (number 10)
    -- of 1,024 bytes each is good, the insertion's and both at once
    ∷ row (messages 0 config (lending_maps [] most 4096)) (takes 8 (gives "5200" "0023" (hex "0001 AA")))
    ∷ row (messages 0 config (lending_maps most most 4096)) (takes 8 (gives "5200" "0423" (hex "0001 AA" ++ most)))
    -- behind 1, 2 and 7, before 5 (header), 4 and 5 (body), and for every MessageID
    ∷ row (messages 4 config (lending_maps long long 4095)) (number 1)
    ∷ row (messages 0 config (lending_maps long long 4095)) (number 2)
    ∷ row (messages 1 config (lending_maps long long 4096)) (number 7)
    ∷ row (messages 0 (hex "000A") (lending_maps [] long 4096)) (number 10)
    ∷ row (messages 0 (hex "0005 0FF9 FFFF FFFF") (lending_maps long [] 4096)) (number 10)
    ∷ row (messages 0 (hex "000A 0001 FFFF FFFF") (lending_maps long [] 4096)) (number 10)
    ∷ row (messages 0 (hex "0000 0000 FFFF FFFF") (lending_maps long [] 4096)) (number 10)
    -- another connection keeps its own; its session on air brings the insertion's section, for connection 0 too. 1,000 s = 0x3E8
    ∷ row (ticks 1000 0 4096) (takes 0 [])
    ∷ row (opens 1) (takes 0 [])
    ∷ row (messages 1 (init "0044" (hex "0000")) both) (takes 76 (named "5201" "0064"))
    ∷ row (messages 1 (hex "0007 0021 FFFF FFFF 00000007 FFFFFFFF 000003EB 00000000 0001 00015F90 FFFFFFFF 00000000 01 00 01") both)
    (takes 41 (hex "5201 0008 0004 0064 FFFF 00000007"))
    ∷ row (messages 0 config both) (takes 8 (gives "5200" "0026" (hex "0001 AA 02B001")))
    ∷ row (ticks 1003 0 4096) (takes 0 (hex "5201 0009 000D 0064 FFFF 00000007 00 00000000 00000000"))
    ∷ row (messages 0 config both) (takes 8 (gives "5200" "0025" (hex "0001 AA 02B1")))
    ∷ row (messages 1 config both) (takes 8 (gives "5201" "0024" (hex "0000 02B1")))
    -- the insertion's on air: of 1,024 bytes, and one more; a primary's section that is too long is refused all the same
    ∷ row (messages 0 config (lending_maps [] most 4096)) (takes 8 (gives "5200" "0423" (hex "0001 AA" ++ most)))
    ∷ row (messages 0 config (lending_maps [] long 4096)) (number 10)
    ∷ row (messages 0 config (lending_maps long [] 4096)) (number 10)
    -- close forgets; a refused close does not
    ∷ row (closes 0 4095) (number 2)
    ∷ row (messages 0 config both) (takes 8 (gives "5200" "0025" (hex "0001 AA 02B1")))
    ∷ row (closes 0 4096) (takes 0 [])
    ∷ row (opens 0) (takes 0 [])
    ∷ row (messages 0 config both) (takes 8 (general "0067"))
    ∷ row (messages 0 (init "0044" (hex "0000")) both) (takes 76 (named "5200" "0064"))
    ∷ row (messages 0 config both) (takes 8 (gives "5200" "0024" (hex "0000 02B1")))
    ∷ []

same : map seen (answers (map (λ r. r.calls) rows) start) ≡ map (λ r. r.wants) rows
unfolding seen row start name init other named general gives config both most long rows computing
same = refl

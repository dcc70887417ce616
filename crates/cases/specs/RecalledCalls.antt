-- 02, CR 12: the second engine's rules, call by call: what is written and consumed, and of CR 11 whether a request was accepted and how
-- many
-- start later. Worked by hand from 01 and 02. Assumes nothing.
use Rattle.std.specs.Prelude.{◌≡◌, refl, Bool, true, false, List, [], ◌∷◌, map, ℕ}
use Prim.Native.String.{String, ◌++◌}
use Rattle.rules.specs.declared.Link.TheVariants.{Closed, Opened, Initialised}
use Rattle.rules.specs.HouseNumbers.{lending_maps, consumed_by}
use Rattle.rules.specs.Calls.{Call, opens, closes, messages, cues}
use Rattle.rules.specs.Card.{card_name, told}
use Rattle.recall_rules.specs.Calls.{Pass, begun, call, passed}
use Rattle.cases.specs.Scenario.{hex}
use Rattle.cases.specs.Rehearsed.{sent, from, init_of, asks, timed, linked, aborts, to}
use Rattle.cases.specs.Recalled.{recalling}

-- a call; the bytes that it writes; how many it consumes; accepted, and how many start later
record Row : Type 0 where
  calls : Call
  writes : String
  consumes : ℕ
  accepted : Bool
  moved : ℕ

row : Call → String → ℕ → Row
row k b n = record { calls = k; writes = b; consumes = n; accepted = false; moved = 0 }

accepts : Call → String → ℕ → Row
accepts k b m = record { calls = k; writes = b; consumes = 41; accepted = true; moved = m }

-- GetConfig_Request of connection 0, with a section of three bytes lent for the primary channel and one of two for the insertion
config : Call
config = messages 0 (hex "000A 0000 FFFF FFFF") (lending_maps (hex "02B001") (hex "02B1") 4096)

-- a splice_null section
null : List ℕ
null = hex "FC 3011 00 00 00000000 00 FF F000 00 0000 7A4FBFFF"

rows : List Row
rows =
    row (opens 0) "" 0
    -- refused: 6, 1; nothing is consumed
    ∷ row (opens 0) "4506" 0
    ∷ row (opens 4) "4501" 0
    -- not initialised: MessageIDs of which some bits say Init_Request get 103, as any other
    ∷ row (from 0 0x0081 []) "5200 0000 0000 0067 FFFF" 8
    ∷ row (from 0 0x0101 []) "5200 0000 0000 0067 FFFF" 8
    ∷ row (init_of 0) "5200 0002 0022 0064 FFFF 0002 43483100 00000000 00000000 00000000 00000000 00000000 00000000 00000000" 76
    -- 0x000D gets no answer; MessageIDs of which some bits say so get 120
    ∷ row (from 0 0x000D []) "" 8
    ∷ row (from 0 0x008D []) "5200 0000 0000 0078 FFFF" 8
    ∷ row (from 0 0x010D []) "5200 0000 0000 0078 FFFF" 8
    ∷ row (to 1000 0) "" 0
    -- SessionIDs of which some bits say 0xFFFFFFFF are good; starts at 1,300 and 1,310 s
    ∷ accepts (timed 0 0x7F 1300 0 1 0 90000) "5200 0008 0004 0064 FFFF 0000007F" 0
    ∷ accepts (timed 0 0xFF 1310 0 1 0 90000) "5200 0008 0004 0064 FFFF 000000FF" 0
    -- CR 11: before them at 1,040, 1,150 and 1,100 s; one at 1,050 with followers at 1,060 and 1,061
    ∷ accepts (timed 0 1 1040 0 1 0 90000) "5200 0008 0004 0064 FFFF 00000001" 2
    ∷ accepts (timed 0 2 1150 0 1 0 90000) "5200 0008 0004 0064 FFFF 00000002" 2
    ∷ accepts (timed 0 3 1100 0 1 0 90000) "5200 0008 0004 0064 FFFF 00000003" 3
    ∷ accepts (timed 0 4 1050 0 1 0 900000) "5200 0008 0004 0064 FFFF 00000004" 4
    ∷ accepts (linked 0 5 4 90000) "5200 0008 0004 0064 FFFF 00000005" 4
    ∷ accepts (linked 0 8 5 90000) "5200 0008 0004 0064 FFFF 00000008" 4
    -- a higher one at 1,050, for 100 s: the three are evicted first, and do not count; 1,100, 1,150, 1,300 and 1,310 do
    ∷ accepts (timed 0 6 1050 0 5 0 9000000)
    ("5200 0008 0004 006D FFFF 00000004 5200 0008 0004 006D FFFF 00000005 5200 0008 0004 006D FFFF 00000008"
    ++ "5200 0008 0004 0064 FFFF 00000006") 4
    -- not accepted: 121; an abort with the end; an Alive_Request
    ∷ row (timed 0 6 1400 0 1 0 90000) "5200 0008 0004 0079 FFFF 00000006" 41
    ∷ row (aborts 0 3) "5200 000F 0004 0064 FFFF 00000003 5200 0008 0004 0074 FFFF 00000003" 12
    ∷ row (from 0 0x0005 (hex "00000000 00000000")) "5200 0006 0010 0064 FFFF 00000001 FFFFFFFF 000003E8 00000000" 16
    -- CR 6: the section on air: nothing is, then session 1
    ∷ row config
    "5200 000B 0025 0064 FFFF 43483100 00000000 00000000 00000000 00000000 00000000 00000000 00000000 0000 02B001" 8
    ∷ row (to 1040 0) "5200 0009 000D 0064 FFFF 00000001 00 00000000 00000000" 0
    ∷ row config
    "5200 000B 0024 0064 FFFF 43483100 00000000 00000000 00000000 00000000 00000000 00000000 00000000 0000 02B1" 8
    -- CR 7: cue 2, 8, 11, then the section to each initialised connection, "all ones" where it has no time
    ∷ row (cues null 0 5 1000000 4095) "4502" 0
    ∷ row (cues null 0 5 1000000 4096) "4508" 0
    ∷ row (cues [] 0 5 0 4096) "450B" 0
    ∷ row (cues null 0 5 0 4096) "5200 000C 001C FFFF FFFF FFFFFFFF FFFFFFFF FC 3011 00 00 00000000 00 FF F000 00 0000 7A4FBFFF" 0
    -- close: its session on air and those that wait by start
    ∷ row (closes 0 4096)
    ("5200 0009 000D 0074 FFFF 00000001 01 00000000 00000000 5200 0008 0004 0074 FFFF 00000006 5200 0008 0004 0074 FFFF 00000002"
    ++ "5200 0008 0004 0074 FFFF 0000007F 5200 0008 0004 0074 FFFF 000000FF") 0
    ∷ row (closes 0 4096) "4507" 0
    ∷ []

-- each call from where the one before left
record Said : Type 0 where
  bytes : List ℕ
  consumed : ℕ
  accepted : Bool
  moved : ℕ

says : List Row → Pass → List Said
says [] s = []
says (r ∷ rs) s =
    let c = call r.calls s in
    record { bytes = told c.answer; consumed = consumed_by c.answer; accepted = c.accepted; moved = c.moved } ∷ says rs c.pass

wanted : Row → Said
wanted r = record { bytes = hex r.writes; consumed = r.consumes; accepted = r.accepted; moved = r.moved }

answered : says rows (begun card_name) ≡ map wanted rows
unfolding recalling sent from init_of asks timed linked aborts to row accepts config null rows says wanted
answered = refl

-- "through the calls, once, from the first"
all-through : (passed (opens 0 ∷ opens 1 ∷ init_of 0 ∷ opens 3 ∷ []) (begun card_name)).links ≡ Initialised ∷ Opened ∷ Closed ∷ Opened ∷ []
unfolding recalling sent from init_of
all-through = refl

-- 01, "Calls and house numbers": what the card program cannot show, since it always lends 4,096 bytes, hands over whole messages and has
-- one name: the room of a lent buffer and what it holds afterwards, a message cut or with more behind it, the bytes consumed, a clock in
-- ninths, and fresh. Worked by hand from 01's table. Assumes nothing.
use Rattle.std.specs.Prelude.{◌≡◌, refl, List, [], ◌∷◌, ◌++◌, map, ℕ, replicate}
use Prim.Native.String.{String}
use Rattle.rules.specs.declared.Refusal.TheVariants.{NotSixteen}
use Rattle.rules.specs.State.{Splicer}
use Rattle.rules.specs.HouseNumbers.{Answer, refused, good, lending}
use Rattle.rules.specs.Calls.{Call, opens, closes, messages, ticks, moves, call, fresh}
use Rattle.rules.specs.Follows.Sequences.{answers}
use Rattle.rules.specs.HouseNumbers.{house_number, written_by, buffer_after}
use Rattle.cases.specs.Scenario.{hex}
use Rattle.cases.specs.Computing.{computing}

-- what a caller sees of an answer: the house number, or the bytes consumed and those written
data Seen : Type 0 where
  number : ℕ → Seen
  takes : ℕ → List ℕ → Seen

seen : Answer → Seen
seen (refused n) = number (house_number n)
seen (good consumed rs) = takes consumed (written_by (good consumed rs))

record Row : Type 0 where
  calls : Call
  wants : Seen

row : Call → Seen → Row
row k x = record { calls = k; wants = x }

-- a splicer "CH1"
start : Splicer
start = (fresh (hex "43483100")).splicer

-- Alive_Request, 8 bytes of data; General_Response 103 to connection 0: not initialised
alive : List ℕ
alive = hex "0005 0008 FFFF FFFF 00000000 00000000"

needs_init : List ℕ
needs_init = hex "5200 0000 0000 0067 FFFF"

-- 32 bytes of a name: "CH1" and a zero, then zeros or 28 bytes 0x58
ch1 : ℕ → List ℕ
ch1 b = hex "43483100" ++ replicate 28 b

-- Init_Request with a ChannelName of 32 bytes, an empty SplicerName and a Hardware_Config of Length 0: 68 = 0x44 bytes of data, 76 in all
init : List ℕ → List ℕ
init name = hex "0001 0044 FFFF FFFF 0002" ++ (name ++ replicate 34 0)

-- Init_Response with a result and a name of 32 bytes
init_answer : String → List ℕ → List ℕ
init_answer result name = hex "5200 0002 0022" ++ (hex result ++ (hex "FFFF 0002" ++ name))

rows : List Row
rows =
    row (opens 4) (number 1)
    ∷ row (opens 0) (takes 0 [])
    ∷ row (opens 0) (number 6)
    -- 2: "output buffer below 4,096 bytes"; it comes behind 1 and before 7, 4, 5 and 8
    ∷ row (messages 0 alive (lending 4095)) (number 2)
    ∷ row (messages 4 alive (lending 4095)) (number 1)
    ∷ row (messages 1 alive (lending 4095)) (number 2)
    ∷ row (messages 1 alive (lending 4096)) (number 7)
    ∷ row (closes 0 4095) (number 2)
    ∷ row (closes 4 4095) (number 1)
    ∷ row (closes 1 4095) (number 2)
    ∷ row (ticks 1000 1000000 4095) (number 2)
    ∷ row (ticks 1000 1000000 4096) (number 8)
    -- 7 before 5 (header), 4, 5 (body)
    ∷ row (messages 1 (hex "0005 0008 FFFF FF") (lending 4096)) (number 7)
    ∷ row (messages 0 (hex "0005 0FF9 FFFF FF") (lending 4096)) (number 5)
    ∷ row (messages 0 (hex "0005 0008 FFFF FF") (lending 4096)) (number 5)
    ∷ row (messages 0 (hex "0005 0FF9 FFFF FFFF") (lending 4096)) (number 4)
    ∷ row (messages 0 (hex "0005 0FF8 FFFF FFFF") (lending 4096)) (number 5)
    ∷ row (messages 0 (hex "0005 0008 FFFF FFFF 00000000 000000") (lending 4096)) (number 5)
    -- 8 + 8 bytes consumed, also with another message behind
    ∷ row (messages 0 alive (lending 4096)) (takes 16 needs_init)
    ∷ row (messages 0 (alive ++ alive) (lending 4096)) (takes 16 needs_init)
    ∷ row (closes 0 4096) (takes 0 [])
    ∷ row (closes 0 4096) (number 7)
    -- 3: the clock goes on; 2 comes before it
    ∷ row (ticks 1000 0 4096) (takes 0 [])
    ∷ row (ticks 999 999999 4096) (number 3)
    ∷ row (ticks 999 999999 4095) (number 2)
    -- initialised, the first of two messages is answered alike. 1,000 = 0x3E8
    ∷ row (opens 0) (takes 0 [])
    ∷ row (messages 0 (init (ch1 0)) (lending 4096)) (takes 76 (init_answer "0064" (ch1 0)))
    ∷ row (messages 0 (alive ++ alive) (lending 4096)) (takes 16 (hex "5200 0006 0010 0064 FFFF 00000001 FFFFFFFF 000003E8 00000000"))
    -- 1,000 s and 17 ninths are 1,000 s and 1 µs, "rounded down"
    ∷ row (moves 9000000017 4096) (takes 0 [])
    ∷ row (messages 0 alive (lending 4096)) (takes 16 (hex "5200 0006 0010 0064 FFFF 00000001 FFFFFFFF 000003E8 00000001"))
    ∷ row (moves 9000000016 4096) (number 3)
    ∷ row (moves 9000000016 4095) (number 2)
    ∷ []

same : map seen (answers (map (λ r. r.calls) rows) start) ≡ map (λ r. r.wants) rows
unfolding seen row start alive needs_init ch1 init init_answer rows computing
same = refl

-- ## "bytes beyond those written stay unchanged": a buffer of 4,096 bytes 0xAA, by a message of connection 0, open, and by a refused one

opened : Splicer
opened = (call (opens 0) start).splicer

buffer : Call → List ℕ
buffer k = buffer_after (call k opened).answer (replicate 4096 0xAA)

written : buffer (messages 0 alive (lending 4096)) ≡ needs_init ++ replicate 4086 0xAA
unfolding start alive needs_init opened buffer computing
written = refl

untouched : buffer (messages 1 alive (lending 4096)) ≡ replicate 4096 0xAA
unfolding start alive opened buffer computing
untouched = refl

-- ## fresh

-- 9: "name without a zero byte"
unnamed : seen (fresh (replicate 32 0x58)).answer ≡ number 9
unfolding seen computing
unnamed = refl

-- connection 0 of a splicer opened and initialised for each of some names
named : Splicer → List (List ℕ) → List Seen
named s names = map seen (answers (opens 0 ∷ map (λ n. messages 0 (init n) (lending 4096)) names) s)

-- the name ends at its first zero, and is written "with zeros behind the end"
configured : named (fresh (ch1 0x58)).splicer (ch1 0 ∷ ch1 0x59 ∷ [])
    ≡ takes 0 [] ∷ takes 76 (init_answer "0064" (ch1 0)) ∷ takes 76 (init_answer "0064" (ch1 0)) ∷ []
unfolding seen ch1 init init_answer named computing
configured = refl

-- "A refused fresh gives, with number 9, the splicer of an empty name.": 104 for 31 bytes 0x58, 100 for an empty name
nameless : named (fresh (replicate 32 0x58)).splicer ((replicate 31 0x58 ++ (0 ∷ [])) ∷ replicate 32 0 ∷ [])
    ≡ takes 0 [] ∷ takes 76 (init_answer "0068" (replicate 32 0)) ∷ takes 76 (init_answer "0064" (replicate 32 0)) ∷ []
unfolding seen init init_answer named computing
nameless = refl

-- ## The page

-- 02, CR 8: "house number 16 for other than sixteen rows". No call gives it; what the page answers of how many rows is worked in rows
not-sixteen : house_number NotSixteen ≡ 16
unfolding house_number
not-sixteen = refl

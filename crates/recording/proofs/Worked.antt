-- 02, CR 14, byte by byte: small recordings, each worked out by hand from its sentence; the prover computes what is found in them.
-- Rests on the definitions alone.
use mathlib.Core.Path.{◌≡◌, refl}
use mathlib.Core.Bool.{Bool, true, false}
use mathlib.Core.List.{List, [], ◌∷◌, map}
use Prim.Native.Nat.{ℕ}
use Prim.Native.String.{String, ◌++◌}
use native.Mathlib.Omega.{arith}
use lib.ListN.{length}
use Rattle.std.specs.Prelude.{Option, Some, None}
use Rattle.cases.specs.Scenario.{hex}
use Rattle.cases.specs.Computing.{computing}
use Rattle.recording.specs.declared.Finding.{Finding}
use Rattle.recording.specs.declared.Finding.TheVariants.{Longer, Unknown, Differs}
use Rattle.recording.specs.Recording.{span, entry_in, entries_by, entries_run, entries, start, called, called_by, taken, begins}
use Rattle.recording.specs.Recording.{is_nothing, judged}
use Rattle.recording.specs.Recording.{unknown_from, first_unknown, before, house_number, checked}
use Rattle.recording.specs.Recorded.{ends_cut, is_last, has_oversize}
use Rattle.recording.proofs.Recordings.{fifteen-exactly}

-- a recording, and what is found in it
record Row : Type 0 where
  bytes : String
  wants : Option Finding

row : String → Option Finding → Row
row l f = record { bytes = l; wants = f }

found : List Row → List (Option Finding)
found rows = map (λ r. checked (hex r.bytes)) rows

wanted : List Row → List (Option Finding)
wanted rows = map (λ r. r.wants) rows

finding : ℕ
unfolding row found wanted computing span entry_in entries_by entries_run entries start called called_by taken begins is_nothing judged
    unknown_from first_unknown before checked
finding = 0

-- ## Entries of connection 0

open0 : String
open0 = "4F00"

close0 : String
close0 = "4300"

-- Alive_Request; General_Response 103: not initialised
alive0 : String
alive0 = "4D00 0005 0008 FFFF FFFF 00000000 00000000"

general : String
general = "5200 0000 0000 0067 FFFF"

-- "a refusal is 0x45 and the number": 6, it is open already; 7, it is not open
opened : String
opened = "4506"

closed : String
closed = "4507"

entry : ℕ
unfolding open0 close0 alive0 general opened closed
entry = 0

-- ## "names the first call whose records aren't those that the rules give, or says that there is none"

calls : List Row
calls =
    -- 01's whole case
    row (open0 ++ alive0 ++ general ++ close0 ++ close0 ++ closed) None
    -- no call at all
    ∷ row "" None
    -- a call without its records: the last, and one before it
    ∷ row (open0 ++ alive0 ++ general ++ close0 ++ close0) (Some (Differs 4))
    ∷ row (open0 ++ alive0 ++ close0 ++ close0 ++ closed) (Some (Differs 2))
    -- another result; another connection
    ∷ row (open0 ++ alive0 ++ "5200 0000 0000 0068 FFFF" ++ close0) (Some (Differs 2))
    ∷ row (open0 ++ alive0 ++ "5201 0000 0000 0067 FFFF" ++ close0) (Some (Differs 2))
    -- twice; after the next call; before its own
    ∷ row (open0 ++ alive0 ++ general ++ general) (Some (Differs 2))
    ∷ row (open0 ++ alive0 ++ close0 ++ general) (Some (Differs 2))
    ∷ row (open0 ++ general ++ alive0) (Some (Differs 1))
    -- a refusal for a record; another refusal
    ∷ row (open0 ++ alive0 ++ closed) (Some (Differs 2))
    ∷ row (close0 ++ opened) (Some (Differs 1))
    -- refused calls are made and have their number
    ∷ row (close0 ++ closed ++ open0 ++ open0 ++ opened ++ close0) None
    ∷ row (close0 ++ closed ++ open0 ++ open0) (Some (Differs 3))
    -- the calls alone lead the splicer: a record does not change it
    ∷ row (open0 ++ open0 ++ opened ++ alive0 ++ general) None
    -- the first of two
    ∷ row (open0 ++ alive0 ++ close0 ++ close0) (Some (Differs 2))
    ∷ []

finds-calls : found calls ≡ wanted calls
unfolding finding entry calls
finds-calls = refl

-- ## "Records before any call are call 0's."

before-all : List Row
before-all =
    row closed (Some (Differs 0))
    ∷ row (general ++ open0) (Some (Differs 0))
    ∷ []

finds-call-0 : found before-all ≡ wanted before-all
unfolding finding entry before-all
finds-call-0 = refl

-- ## "A cut last record is dropped, and the last call before it then needs only the beginning of its due records."

-- Init_Request of connection 0 for "CH1", with its answer; a session of number 1 from 3 s on for 90 ticks, with its answer; at 4 s its
-- start
-- and its end
name : String
name = "43483100 00000000 00000000 00000000 00000000 00000000 00000000 00000000"

session : String
session =
    open0 ++ "4D00 0001 0044 FFFF FFFF 0002" ++ name ++ "00000000 00000000 00000000 00000000 00000000 00000000 00000000 00000000 0000"
    ++ "5200 0002 0022 0064 FFFF 0002" ++ name
    ++ "4D00 0007 0021 FFFF FFFF 00000001 FFFFFFFF 00000003 00000000 0001 0000005A 00000000 00000000 05 00 00"
    ++ "5200 0008 0004 0064 FFFF 00000001"

tick : String
tick = "5400 00000004 00000000"

starts : String
starts = "5200 0009 000D 0064 FFFF 00000001 00 00000000 00000000"

ends : String
ends = "5200 0009 000D 0064 FFFF 00000001 01 00000000 0000005A"

cuts : List Row
cuts =
    -- after a mark, inside a header
    row (open0 ++ alive0 ++ "52") None
    ∷ row (open0 ++ alive0 ++ "5200 0000 0000 0067 FF") None
    -- whatever its bytes
    ∷ row (open0 ++ alive0 ++ "5203 0009 00") None
    -- a call is dropped alike, and then too the call before it needs only a beginning
    ∷ row (open0 ++ alive0 ++ "4D") None
    ∷ row (open0 ++ alive0 ++ "5400 00000004 000000") None
    -- of call 0
    ∷ row "45" None
    -- nothing else is let off: an earlier call, a whole record before the cut one
    ∷ row (open0 ++ alive0 ++ close0 ++ "45") (Some (Differs 2))
    ∷ row (open0 ++ alive0 ++ closed ++ "52") (Some (Differs 2))
    ∷ row (closed ++ "52") (Some (Differs 0))
    -- two due records: cut in the second; between the two, where nothing is dropped; both
    ∷ row (session ++ tick ++ starts ++ "5200 0009") None
    ∷ row (session ++ tick ++ starts) (Some (Differs 4))
    ∷ row (session ++ tick ++ starts ++ ends) None
    -- only the second of them
    ∷ row (session ++ tick ++ ends ++ "52") (Some (Differs 4))
    ∷ []

finds-cuts : found cuts ≡ wanted cuts
unfolding finding entry name session tick starts ends cuts
finds-cuts = refl

-- ## "A message header with MessageSize above 4,088 ends its record."

-- 4,089 = 0x0FF9
oversizes : List Row
oversizes =
    -- a call is refused as the card program's is, by 4, 7 or 1, and the calls behind it are judged
    row (open0 ++ "4D00 0005 0FF9 FFFF FFFF" ++ "4504" ++ close0) None
    ∷ row (open0 ++ "4D00 0005 0FF9 FFFF FFFF" ++ "4504" ++ close0 ++ close0) (Some (Differs 4))
    ∷ row ("4D00 0005 0FF9 FFFF FFFF" ++ closed ++ "4D04 0005 0FF9 FFFF FFFF" ++ "4501") None
    -- a record is never due so, and ends behind its header: there the next mark stands
    ∷ row (open0 ++ "5200 0000 0FF9 0067 FFFF" ++ open0) (Some (Differs 1))
    ∷ row (open0 ++ "5200 0000 0FF9 0067 FFFF" ++ "00") (Some (Unknown 12))
    -- 4,088 bytes are looked for, and are not there
    ∷ row (open0 ++ "5200 0000 0FF8 0067 FFFF" ++ "00") None
    ∷ row (open0 ++ "4D00 0005 0FF8 FFFF FFFF" ++ "00") None
    ∷ []

finds-oversizes : found oversizes ≡ wanted oversizes
unfolding finding entry oversizes
finds-oversizes = refl

-- ## What `none-is-ours` asks of a recording that gets none: it is not cut, and no call of it is oversize

record Asked : Type 0 where
  bytes : String
  wants : Bool × Bool

asked : String → Bool → Bool → Asked
asked l c o = record { bytes = l; wants = (c, o) }

whole : List Asked
whole =
    -- 01's whole case; every kind of call; no call at all
    asked (open0 ++ alive0 ++ general ++ close0 ++ close0 ++ closed) false false
    ∷ asked (session ++ tick ++ starts ++ ends ++ close0) false false
    ∷ asked "" false false
    -- cut; oversize; both
    ∷ asked (open0 ++ alive0 ++ "52") true false
    ∷ asked (open0 ++ "4D00 0005 0FF9 FFFF FFFF" ++ "4504" ++ close0) false true
    ∷ asked (open0 ++ "4D00 0005 0FF9 FFFF FFFF" ++ "45") true true
    ∷ []

asks-of-whole : map (λ a. (ends_cut (entries (hex a.bytes)), has_oversize (entries (hex a.bytes)))) whole
    ≡ map (λ a. a.wants) whole
unfolding finding entry name session tick starts ends asked whole ends_cut is_last has_oversize
asks-of-whole = refl

-- and each of them gets none
finds-whole : map (λ a. checked (hex a.bytes)) whole ≡ map (λ a. None) whole
unfolding finding entry name session tick starts ends asked whole
finds-whole = refl

-- ## "14 for an unknown mark anywhere, with its place; both before any finding"

marks : List Row
marks =
    -- places are counted from 0, over calls and records
    row "00" (Some (Unknown 0))
    ∷ row (open0 ++ alive0 ++ general ++ "0000") (Some (Unknown 30))
    -- a lone last byte; behind a wrong record; behind a call without its records
    ∷ row (open0 ++ "FF") (Some (Unknown 2))
    ∷ row (open0 ++ closed ++ "00") (Some (Unknown 4))
    ∷ row (open0 ++ alive0 ++ "00") (Some (Unknown 20))
    -- only where an entry begins: a connection is none
    ∷ row "4F00 4F04 4501" None
    ∷ []

finds-marks : found marks ≡ wanted marks
unfolding finding entry marks
finds-marks = refl

-- ## "It reads up to 65,536 bytes." "house number 15 for a longer recording; then 14"

reads-65536 : (l : List ℕ) → length l ≡ 65536 → checked l ≡ Some Longer → ⊥
reads-65536 l h e = omega (arith, (fifteen-exactly l).0 e)

refuses-65537 : (l : List ℕ) → length l ≡ 65537 → checked l ≡ Some Longer
refuses-65537 l h = (fifteen-exactly l).1 (omega arith)

numbers : (i : ℕ) → (house_number (Some Longer) ≡ 15) × (house_number (Some (Unknown i)) ≡ 14)
numbers i = (refl, refl)

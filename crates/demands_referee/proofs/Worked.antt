-- The referee byte by byte: small recordings with the verdict worked out by hand; the prover computes what is found in them.
-- Rests on the definitions alone.
use mathlib.Core.Path.{◌≡◌, refl}
use mathlib.Core.List.{List, [], ◌∷◌, map}
use Prim.Native.Nat.{ℕ}
use Prim.Native.String.{String, ◌++◌}
use Rattle.cases.specs.Scenario.{hex}
use Rattle.cases.specs.Computing.{computing}
use Rattle.rules.specs.Bytes.{padded}
use Rattle.rules.specs.Card.{card_name}
use Rattle.recording.specs.Recording.{span, entry_in, entries_by, entries_run, entries, called, called_by, taken, begins, is_nothing}
use Rattle.follow.specs.Refereed.{in_order, a_call, a_mark, a_cut, begun, called_at, taken_at, followed, refereed, Says, said, said_of}

-- a recording; kind, number, place and good
record Row : Type 0 where
  bytes : String
  wants : Says

row : String → (kind number place good : ℕ) → Row
row l k n p g = record { bytes = l; wants = record { kind = k; number = n; place = p; good = g } }

found : List Row → List Says
found rows = map (λ r. said_of (refereed (padded card_name) (hex r.bytes))) rows

wanted : List Row → List Says
wanted rows = map (λ r. r.wants) rows

finding : ℕ
unfolding row found wanted computing span entry_in entries_by entries_run entries called called_by taken begins is_nothing
    begun called_at taken_at followed refereed said
finding = 0

-- ## Entries of connection 0: 2, 2, 18, 10 and 2 bytes

open0 : String
open0 = "4F00"

close0 : String
close0 = "4300"

-- Alive_Request; General_Response 103: not initialised
alive0 : String
alive0 = "4D00 0005 0008 FFFF FFFF 00000000 00000000"

general : String
general = "5200 0000 0000 0067 FFFF"

-- the refusal of a close: 7, it is not open
closed : String
closed = "4507"

entry : ℕ
unfolding open0 close0 alive0 general closed
entry = 0

rows : List Row
rows =
    -- 01's whole case, and no call at all
    row (open0 ++ alive0 ++ general ++ close0 ++ close0 ++ closed) in_order 4 36 4
    ∷ row "" in_order 0 0 0
    -- a call without its records, at the place of its mark: the last, and one before it
    ∷ row (open0 ++ alive0 ++ general ++ close0 ++ close0) a_call 4 32 3
    ∷ row (open0 ++ alive0 ++ close0 ++ close0 ++ closed) a_call 2 2 1
    -- another record; one too many; records before any call are call 0's
    ∷ row (open0 ++ alive0 ++ closed) a_call 2 2 1
    ∷ row (open0 ++ alive0 ++ general ++ general) a_call 2 2 1
    ∷ row closed a_call 0 0 0
    -- an unknown mark: first, and where nothing is due
    ∷ row "3F" a_mark 0 0 0
    ∷ row (open0 ++ "3F00") a_mark 1 2 1
    ∷ row (open0 ++ alive0 ++ general ++ "3F") a_mark 2 30 2
    -- where something is due it is judged as at the end; a wrong record before it is told
    ∷ row (open0 ++ alive0 ++ "3F") a_call 2 2 1
    ∷ row (open0 ++ alive0 ++ closed ++ "3F") a_call 2 2 1
    -- a cut last entry: a record, a call while something is due, a mark alone
    ∷ row (open0 ++ alive0 ++ "5200 0000") a_cut 2 20 2
    ∷ row (open0 ++ alive0 ++ "4D00") a_cut 2 20 2
    ∷ row (open0 ++ "54") a_cut 1 2 1
    -- what follows changes nothing
    ∷ row (open0 ++ alive0 ++ closed ++ open0 ++ close0) a_call 2 2 1
    ∷ row ("3F" ++ open0) a_mark 0 0 0
    ∷ []

finds : found rows ≡ wanted rows
unfolding finding entry rows
finds = refl

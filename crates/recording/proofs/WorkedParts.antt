-- 02, CR 14: what its theorems speak of, worked by hand: what our own card program's recordings are, the parts of any recording, and what
-- belongs to which call. Rests on the definitions alone.
use mathlib.Core.Path.{◌≡◌, refl}
use mathlib.Core.Bool.{true, false}
use mathlib.Core.List.{List, [], ◌∷◌, map}
use mathlib.Core.List.{◌++◌ as ◌then◌}
use Prim.Native.Nat.{ℕ, zero, suc}
use Prim.Native.String.{String, ◌++◌}
use Rattle.cases.specs.Scenario.{hex}
use Rattle.cases.specs.Computing.{computing}
use Rattle.rules.specs.declared.Refusal.TheVariants.{AlreadyOpen}
use Rattle.rules.specs.Records.{General, AbortResponse}
use Rattle.rules.specs.HouseNumbers.{refused, good}
use Rattle.rules.specs.Calls.{opens, closes, messages, ticks}
use Rattle.rules.specs.Card.{card_loans}
use Rattle.recording.specs.Recording.{span, entry_in, entries_by, entries_run, entries, start, begins}
use Rattle.recording.specs.Recording.{Item, made, wrote, cut, another}
use Rattle.recording.specs.Recorded.{recorded_by, recorded_run, recorded_up_to, recorded, unread_by, unread_run, unread, pieces, bytes_of}
use Rattle.recording.specs.Recorded.{made_bytes, wrote_bytes, ends_cut, is_last, has_oversize, call_of, calls_in, wrote_after}
use Rattle.recording.specs.Recorded.{due_from, due_after, right_by, right}

parting : ℕ
unfolding computing span entry_in entries_by entries_run entries start begins recorded_by recorded_run recorded_up_to recorded unread_by
    unread_run unread pieces bytes_of made_bytes wrote_bytes ends_cut is_last has_oversize call_of calls_in wrote_after due_from due_after
    right_by
    right
parting = 0

-- ## Entries of connection 0: Alive_Request and General_Response 103; "a refusal is 0x45 and the number"; a header that is oversize

alive0 : String
alive0 = "4D00 0005 0008 FFFF FFFF 00000000 00000000"

general : String
general = "5200 0000 0000 0067 FFFF"

large : String
large = "4D00 0005 0FF9 FFFF FFFF"

entry : ℕ
unfolding alive0 general large
entry = 0

-- ## "Every recording of that length that our own card program could have made": input, recording, and what is not read of it

record Row : Type 0 where
  input : String
  recording : String
  behind : String

row : String → String → String → Row
row i r l = record { input = i; recording = r; behind = l }

rows : List Row
rows =
    row ("4F00" ++ alive0 ++ "4300 4300") ("4F00" ++ alive0 ++ general ++ "4300 4300 4507") ""
    -- behind an oversize header it stops; at another mark; at a cut record
    ∷ row ("4F00" ++ large ++ "4300 4F01") ("4F00" ++ large ++ "4504") "4300 4F01"
    ∷ row ("4F00 00 4F01") "4F00" "00 4F01"
    ∷ row ("4304 4F") "4304 4501" "4F"
    -- a call of which nothing is written, and one that is refused
    ∷ row ("5400 00000001 00000000 5400 00000000 00000000") ("5400 00000001 00000000 5400 00000000 00000000 4503") ""
    ∷ []

recordings : map (λ r. recorded (hex r.input)) rows ≡ map (λ r. hex r.recording) rows
unfolding parting entry row rows
recordings = refl

unreads : map (λ r. unread (hex r.input)) rows ≡ map (λ r. hex r.behind) rows
unfolding parting entry row rows
unreads = refl

-- "behind all due records of a call": of none, one, two and three calls
up_to : map (λ n. recorded_up_to n (hex "4F00 4F00 4300")) (0 ∷ 1 ∷ 2 ∷ 3 ∷ [])
    ≡ map hex ("" ∷ "4F00" ∷ "4F00 4F00 4506" ∷ "4F00 4F00 4506 4300" ∷ [])
unfolding parting
up_to = refl

-- what is written for a call, record by record
in_pieces : map pieces (refused AlreadyOpen ∷ good 8 (General 0 103 ∷ AbortResponse 1 100 7 ∷ []) ∷ [])
    ≡ map (map hex) (("4506" ∷ []) ∷ (general ∷ "5201 000F 0004 0064 FFFF 00000007" ∷ []) ∷ [])
unfolding parting entry
in_pieces = refl

-- ## The parts of a recording: each kind of entry before each that counts, and that one last

items : List Item
items =
    made (1 ∷ 2 ∷ []) ∷ made (3 ∷ []) ∷ wrote (4 ∷ 5 ∷ []) ∷ wrote (6 ∷ []) ∷ cut (7 ∷ 8 ∷ []) ∷ cut (9 ∷ []) ∷ another (10 ∷ 11 ∷ [])
    ∷ another (12 ∷ []) ∷ []

bytes : map bytes_of (items ∷ (cut (1 ∷ []) ∷ made (2 ∷ []) ∷ wrote (3 ∷ []) ∷ []) ∷ [])
    ≡ (1 ∷ 2 ∷ 3 ∷ 4 ∷ 5 ∷ 6 ∷ 7 ∷ 8 ∷ 9 ∷ 10 ∷ 11 ∷ 12 ∷ []) ∷ (1 ∷ 2 ∷ 3 ∷ []) ∷ []
unfolding parting items
bytes = refl

calls-bytes : made_bytes
    (made (1 ∷ 2 ∷ []) ∷ made (3 ∷ []) ∷ wrote (4 ∷ []) ∷ made (5 ∷ []) ∷ cut (6 ∷ []) ∷ made (7 ∷ []) ∷ another (8 ∷ []) ∷ made (9 ∷ [])
    ∷ [])
    ≡ 1 ∷ 2 ∷ 3 ∷ 5 ∷ 7 ∷ 9 ∷ []
unfolding parting
calls-bytes = refl

records-bytes : wrote_bytes
    (wrote (1 ∷ 2 ∷ []) ∷ wrote (3 ∷ []) ∷ made (4 ∷ []) ∷ wrote (5 ∷ []) ∷ cut (6 ∷ []) ∷ wrote (7 ∷ []) ∷ another (8 ∷ []) ∷ wrote (9
    ∷ []) ∷ [])
    ≡ 1 ∷ 2 ∷ 3 ∷ 5 ∷ 7 ∷ 9 ∷ []
unfolding parting
records-bytes = refl

-- "A cut last record is dropped"
cuts : map ends_cut ((made [] ∷ cut [] ∷ []) ∷ (wrote [] ∷ cut [] ∷ []) ∷ (made [] ∷ wrote [] ∷ []) ∷ (made [] ∷ another [] ∷ []) ∷ [])
    ≡ true ∷ true ∷ false ∷ false ∷ []
unfolding parting
cuts = refl

cut-bytes : map (λ l. ends_cut (entries (hex l))) ("4F00 52" ∷ "4F00 4507 45" ∷ "4F00 4507" ∷ "4F00 00" ∷ [])
    ≡ true ∷ true ∷ false ∷ false ∷ []
unfolding parting
cut-bytes = refl

-- "A message header with MessageSize above 4,088 ends its record.": behind a call, a record, a cut entry and another mark
oversize : Item
oversize = made (hex large)

oversizes : map has_oversize
    ((made (hex "4F00") ∷ oversize ∷ []) ∷ (wrote [] ∷ oversize ∷ []) ∷ (cut [] ∷ oversize ∷ []) ∷ (another [] ∷ oversize ∷ [])
    ∷ (made (hex "4F00") ∷ wrote [] ∷ cut [] ∷ another [] ∷ []) ∷ []) ≡ true ∷ true ∷ true ∷ true ∷ false ∷ []
unfolding parting entry oversize
oversizes = refl

-- ## What belongs to which call: calls are numbered from 1

numbered : calls_in (entries (hex ("4F00" ++ general ++ "4301 4507" ++ large ++ "5400 00000001 00000005 00")))
    ≡ opens 0 ∷ closes 1 4096 ∷ messages 0 (hex "0005 0FF9 FFFF FFFF") card_loans ∷ ticks 1 5 4096 ∷ []
unfolding parting entry
numbered = refl

-- a cut call is none, and nothing stands behind it or behind another mark
none-behind : map calls_in
    ((cut [] ∷ made (hex "4F00") ∷ []) ∷ (another [] ∷ made (hex "4F00") ∷ []) ∷ (made (hex "4F00") ∷ cut [] ∷ []) ∷ [])
    ≡ [] ∷ [] ∷ (opens 0 ∷ []) ∷ []
unfolding parting
none-behind = refl

-- "Records before any call are call 0's."
told : List Item
told = entries (hex ("4501 4502 4F00 4503 4504 4300 4F01 4505 4506 45"))

records-of : map (wrote_after told) (0 ∷ 1 ∷ 2 ∷ 3 ∷ 4 ∷ []) ≡ map hex ("4501 4502" ∷ "4503 4504" ∷ "" ∷ "4505 4506" ∷ "" ∷ [])
unfolding parting told
records-of = refl

some-records : map (λ l. map (wrote_after (entries (hex l))) (0 ∷ 1 ∷ [])) ("4501 4502" ∷ "4501 4F00 4503" ∷ [])
    ≡ map (map hex) (("4501 4502" ∷ "" ∷ []) ∷ ("4501" ∷ "4503" ∷ []) ∷ [])
unfolding parting
some-records = refl

unread-behind : map (λ l. wrote_after l 0)
    ((cut [] ∷ wrote (1 ∷ []) ∷ []) ∷ (cut [] ∷ made [] ∷ wrote (1 ∷ []) ∷ []) ∷ (another [] ∷ wrote (1 ∷ []) ∷ []) ∷ [])
    ≡ [] ∷ [] ∷ [] ∷ []
unfolding parting
unread-behind = refl

-- "those that the rules give", by the calls alone
given : List Item
given = entries (hex ("4F00 4501" ++ alive0 ++ "4300 4300"))

due-of : map (due_after given) (0 ∷ 1 ∷ 2 ∷ 3 ∷ 4 ∷ 5 ∷ []) ≡ map hex ("" ∷ "" ∷ general ∷ "" ∷ "4507" ∷ "" ∷ [])
unfolding parting entry given
due-of = refl

-- "the last call before it then needs only the beginning of its due records": that call only, and only if one is cut
rights : map (λ l. map (right (entries (hex l))) (0 ∷ 1 ∷ 2 ∷ 3 ∷ []))
    ("4F00 4F00 4506 4300" ∷ "4F00 4F00 4506" ∷ "4F00 4F00" ∷ "4F00 4F00 45" ∷ "4F00 4F00 4507 45" ∷ "4F00 4F00 4300 45" ∷ "4501 4F00" ∷ [])
    ≡ (true ∷ true ∷ true ∷ true ∷ []) ∷ (true ∷ true ∷ true ∷ true ∷ []) ∷ (true ∷ true ∷ false ∷ true ∷ [])
    ∷ (true ∷ true ∷ true ∷ true ∷ []) ∷ (true ∷ true ∷ false ∷ true ∷ []) ∷ (true ∷ true ∷ false ∷ true ∷ [])
    ∷ (false ∷ true ∷ true ∷ true ∷ []) ∷ []
unfolding parting
rights = refl

-- the last of 257 calls is not the first
closes-of : ℕ → List ℕ
closes-of zero = hex "45"
closes-of (suc n) = hex "4300" then closes-of n

not-the-first : map (right (entries (closes-of 257))) (1 ∷ 129 ∷ 257 ∷ []) ≡ false ∷ false ∷ true ∷ []
unfolding parting closes-of
not-the-first = refl

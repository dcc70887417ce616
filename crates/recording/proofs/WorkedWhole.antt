-- 02, CR 14: recordings that a reading of some bits, of a byte one off, or of a finding left out takes for others; each worked out by hand
-- from its sentence. Rests on the definitions alone.
use mathlib.Core.Path.{◌≡◌, refl}
use mathlib.Core.List.{List, [], ◌∷◌, map}
use mathlib.Core.List.{◌++◌ as ◌then◌}
use Prim.Native.Nat.{ℕ}
use lib.ListN.{replicate}
use Rattle.std.specs.Prelude.{Some, None}
use Rattle.cases.specs.Scenario.{hex}
use Rattle.cases.specs.Computing.{computing}
use Rattle.recording.specs.declared.Finding.TheVariants.{Longer, Unknown, Differs}
use Rattle.recording.specs.Recording.{span, entry_in, entries_by, entries_run, entries, start, called, called_by, taken, begins}
use Rattle.recording.specs.Recording.{is_nothing, judged}
use Rattle.recording.specs.Recording.{unknown_from, first_unknown, before, house_number, checked}

finding : ℕ
unfolding computing span entry_in entries_by entries_run entries start called called_by taken begins is_nothing judged unknown_from
    first_unknown before checked
finding = 0

-- ## "14 for an unknown mark": each mark with its highest bit is one, in calls and in records

strange : map (λ l. checked (hex l))
    ("CF00" ∷ "C300" ∷ "CD00 0005 0000 FFFF FFFF" ∷ "D400 00000000 00000000" ∷ "C507" ∷ "D200 0000 0000 0067 FFFF" ∷ "4F00 CF01" ∷ [])
    ≡ map (λ i. Some (Unknown i)) (0 ∷ 0 ∷ 0 ∷ 0 ∷ 0 ∷ 0 ∷ 2 ∷ [])
unfolding finding
strange = refl

-- ## "A cut last record is dropped": a header with nothing behind it that asks for a byte is cut, and one that asks for none is whole

headers : map (λ l. checked (hex l)) ("4F00 5200 0000 0001 0067 FFFF" ∷ "4F00 5200 0000 0000 0067 FFFF" ∷ []) ≡ None ∷ Some (Differs 1) ∷ []
unfolding finding
headers = refl

-- ## Lengths as they are: an Alive_Request of 240 bytes, 260 from its mark to the end of its General_Response

long : checked (hex "4F00 4D00 0005 00F0 FFFF FFFF" then (replicate 240 0 then hex "5200 0000 0000 0067 FFFF")) ≡ None
unfolding finding
long = refl

-- 64 and 128 refusals of number 0x45 are written before any call
refusals : checked (replicate 128 0x45) ∷ checked (replicate 256 0x45) ∷ [] ≡ Some (Differs 0) ∷ Some (Differs 0) ∷ []
unfolding finding
refusals = refl

-- ## "names the first call whose records aren't those that the rules give": 256 bytes are due of call 3, and none is written

-- Init_Request of connection 0 for "CH1" with a Hardware_Config of Length 212, its answer, and a GetConfig_Request
name : List ℕ
name = hex "434831" then replicate 29 0

init : List ℕ
init =
    hex "4F00 4D00 0001 0118 FFFF FFFF 0002" then (name then (replicate 32 0 then (hex "00D4" then (replicate 212 0x55
    then (hex "5200 0002 0022 0064 FFFF 0002" then (name then hex "4D00 000A 0000 FFFF FFFF"))))))

-- GetConfig_Response: 10 bytes, ChannelName, 2 and 212; the card program lends an empty section
config : List ℕ
config = hex "5200 000B 00F6 0064 FFFF" then (name then (hex "00D4" then replicate 212 0x55))

untold : map checked (init ∷ (init then config) ∷ []) ≡ Some (Differs 3) ∷ None ∷ []
unfolding finding name init config
untold = refl

-- ## "house number 15 for a longer recording; then 14 for an unknown mark"; a finding has none

numbers : map house_number (Some Longer ∷ Some (Unknown 7) ∷ Some (Differs 3) ∷ None ∷ []) ≡ 15 ∷ 14 ∷ 0 ∷ 0 ∷ []
numbers = refl

-- ## "It reads up to 65,536 bytes."

most : map (λ n. checked (replicate n 0)) (65535 ∷ 65536 ∷ 65537 ∷ 65538 ∷ [])
    ≡ Some (Unknown 0) ∷ Some (Unknown 0) ∷ Some Longer ∷ Some Longer ∷ []
unfolding finding
most = refl

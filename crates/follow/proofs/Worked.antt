-- The referee on small recordings, byte by byte, each worked out by hand from 02's CR 14 and the order of the bytes; numbers and places at
-- 2^64; what is said at a stage. Rests on the definitions alone.
use Rattle.std.proofs.Common.{◌≡◌, ℕ, true, false, List, [], ◌∷◌, map, refl}
use Prim.Native.String.{String, ◌++◌}
use Rattle.cases.specs.Scenario.{hex}
use Rattle.cases.specs.Computing.{computing}
use Rattle.rules.specs.Bytes.{padded}
use Rattle.rules.specs.Calls.{fresh}
use Rattle.rules.specs.Card.{card_name}
use Rattle.recording.specs.declared.Entry.TheVariants.{Made, Wrote, Cut, Another, End}
use Rattle.recording.specs.Recording.{span, entry_in, entries_by, entries_run, entries, called, called_by, taken, begins, is_nothing}
use Rattle.follow.specs.declared.Stage.{Stage}
use Rattle.follow.specs.declared.Verdict.{Verdict}
use Rattle.follow.specs.Refereed.{begun, called_at, taken_at, followed, refereed, Says, said, said_of, Stand, Found, is_told, joined}
use Rattle.follow.specs.Following.{is_open, stand_of, found_in, span_of, told_as, found, first, told_by, end_kind, end_by}

refereeing : ℕ
unfolding computing span entry_in entries_by entries_run entries called called_by taken begins is_nothing begun called_at taken_at followed
    refereed said is_open found_in span_of end_kind
refereeing = 0

-- ## Recordings of connection 0: Alive_Request and General_Response 103; "a refusal is 0x45 and the number"

alive0 : String
alive0 = "4D00 0005 0008 FFFF FFFF 00000000 00000000"

general : String
general = "5200 0000 0000 0067 FFFF"

-- Init_Request for "CH1" and its answer; a session from 3 s on for 90 ticks and its answer: 181 bytes; a tick; its start; its end
name : String
name = "43483100 00000000 00000000 00000000 00000000 00000000 00000000 00000000"

session : String
session =
    "4F00" ++ "4D00 0001 0044 FFFF FFFF 0002" ++ name ++ "00000000 00000000 00000000 00000000 00000000 00000000 00000000 00000000 0000"
    ++ "5200 0002 0022 0064 FFFF 0002" ++ name
    ++ "4D00 0007 0021 FFFF FFFF 00000001 FFFFFFFF 00000003 00000000 0001 0000005A 00000000 00000000 05 00 00"
    ++ "5200 0008 0004 0064 FFFF 00000001"

tick : String
tick = "5400 00000004 00000000"

starts : String
starts = "5200 0009 000D 0064 FFFF 00000001 00 00000000 00000000"

ends : String
ends = "5200 0009 000D 0064 FFFF 00000001 01 00000000 0000005A"

-- 0 in order, 1 a call, 2 a mark, 3 cut; of a call its number, its place and the calls before it, else the calls and the place so far
record Row : Type 0 where
  bytes : String
  wants : Says

says : (kind number place good : ℕ) → Says
says k n p g = record { kind = k; number = n; place = p; good = g }

row : String → Says → Row
row l s = record { bytes = l; wants = s }

rows : List Row
rows =
    row "" (says 0 0 0 0)
    ∷ row ("4F00" ++ alive0 ++ general ++ "4300 4300 4507") (says 0 4 36 4)
    -- a call without its records: before another, at the end; with another record; records before any call
    ∷ row ("4F00" ++ alive0 ++ "4300 4300 4507") (says 1 2 2 1)
    ∷ row ("4F00" ++ alive0 ++ general ++ "4300 4300") (says 1 4 32 3)
    ∷ row ("4F00" ++ alive0 ++ "5200 0000 0000 0068 FFFF") (says 1 2 2 1)
    ∷ row ("4F00" ++ alive0 ++ "5200 0000 0000 0066 FFFF") (says 1 2 2 1)
    ∷ row "4507 4F00" (says 1 0 0 0)
    -- an unknown mark; behind a call whose records are missing that call comes first; it ends what is looked at
    ∷ row "4F00 00" (says 2 1 2 1)
    ∷ row ("4F00" ++ alive0 ++ "00") (says 1 2 2 1)
    ∷ row ("4F00" ++ alive0 ++ general ++ "00 4300 4300") (says 2 2 30 2)
    -- a cut last entry: nothing is asked of the call before it
    ∷ row ("4F00" ++ alive0 ++ "52") (says 3 2 20 2)
    ∷ row ("4F00" ++ alive0 ++ "4300 45") (says 1 2 2 1)
    -- two records of one call
    ∷ row (session ++ tick ++ starts ++ ends) (says 0 4 237 4)
    ∷ row (session ++ tick ++ starts) (says 1 4 181 3)
    ∷ row (session ++ tick ++ starts ++ "4300") (says 1 4 181 3)
    ∷ row (session ++ tick ++ starts ++ "5200 0009") (says 3 4 214 4)
    ∷ row (session ++ tick ++ ends) (says 1 4 181 3)
    ∷ []

finds : map (λ r. said_of (refereed (padded card_name) (hex r.bytes))) rows ≡ map (λ r. r.wants) rows
unfolding refereeing alive0 general name session tick starts ends says row rows
finds = refl

-- ## "numbers and places are counted modulo 2^64": 18446744073709551615 is the last

far : (number at : ℕ) → Stand
far n a = record { bench = record { splicer = (fresh (padded card_name)).splicer; number = n; due = 1 ∷ 2 ∷ 3 ∷ [] }; mark = 5; at = a }

numbers : Stand → List ℕ
numbers g = g.bench.number ∷ g.mark ∷ g.at ∷ []

behind-a-call : map (λ a. numbers (called_at (hex "4F00") (far a a))) (7 ∷ 18446744073709551613 ∷ 18446744073709551614
    ∷ 18446744073709551615 ∷ [])
    ≡ (8 ∷ 7 ∷ 9 ∷ []) ∷ (18446744073709551614 ∷ 18446744073709551613 ∷ 18446744073709551615 ∷ [])
    ∷ (18446744073709551615 ∷ 18446744073709551614 ∷ 0 ∷ []) ∷ (0 ∷ 18446744073709551615 ∷ 1 ∷ []) ∷ []
unfolding refereeing far numbers
behind-a-call = refl

behind-a-record : map (λ a. numbers (taken_at 2 (far 8 a))) (7 ∷ 18446744073709551615 ∷ []) ≡ (8 ∷ 5 ∷ 9 ∷ []) ∷ (8 ∷ 5 ∷ 1 ∷ []) ∷ []
unfolding refereeing far numbers
behind-a-record = refl

left-due : (taken_at 2 (far 8 7)).bench.due ≡ 3 ∷ []
unfolding refereeing far
left-due = refl

none-due : (called_at (hex "4F00") (far 8 7)).bench.due ≡ []
unfolding refereeing far
none-due = refl

-- ## How it is said

told-for-good : map is_told (0 ∷ 1 ∷ 2 ∷ 3 ∷ 129 ∷ 130 ∷ 257 ∷ 258 ∷ []) ≡ false ∷ true ∷ true ∷ false ∷ false ∷ false ∷ false ∷ false ∷ []
unfolding refereeing
told-for-good = refl

kinds-said : map (λ k. said k 20 3 4) (0 ∷ 1 ∷ 2 ∷ 3 ∷ 129 ∷ 257 ∷ [])
    ≡ says 0 20 4 20 ∷ says 1 20 3 19 ∷ says 2 20 4 20 ∷ says 3 20 4 20 ∷ says 129 20 4 20 ∷ says 257 20 4 20 ∷ []
unfolding refereeing says
kinds-said = refl

in_one : joined ((1 ∷ 2 ∷ []) ∷ [] ∷ (3 ∷ []) ∷ (4 ∷ []) ∷ []) ≡ 1 ∷ 2 ∷ 3 ∷ 4 ∷ []
unfolding refereeing
in_one = refl

-- ## A stage: told, calls, the place of the last, the place of the next entry; what is due, from and to; bytes that are kept

stage : (told number mark at from end have : ℕ) → Stage
stage f n m a i j k = record { told = f; number = n; mark = m; at = a; from = i; end = j; have = k }

verdict : (kind number place good : ℕ) → Verdict
verdict k n p g = record { kind = k; number = n; place = p; good = g }

parts : map is_open (Made 3 ∷ Wrote 3 ∷ Cut ∷ Another ∷ End ∷ []) ≡ false ∷ false ∷ true ∷ false ∷ true ∷ []
unfolding refereeing
parts = refl

spans : map span_of (Made 3 ∷ Wrote 4 ∷ Cut ∷ Another ∷ End ∷ []) ≡ 3 ∷ 4 ∷ 0 ∷ 1 ∷ 0 ∷ []
unfolding refereeing
spans = refl

told-as : told_as 9 (stage 1 2 3 4 5 6 7) ≡ stage 9 2 3 4 5 6 7
unfolding refereeing stage
told-as = refl

at_first : first ≡ stage 0 0 0 0 0 0 0
unfolding refereeing stage
at_first = refl

-- a buffer whose second and third byte are due
buffer : List ℕ
buffer = 9 ∷ 0x45 ∷ 0x07 ∷ 8 ∷ []

stand-due : (stand_of (stage 1 20 30 40 1 3 7) [] [] buffer).bench.due ≡ 0x45 ∷ 0x07 ∷ []
unfolding refereeing stage buffer
stand-due = refl

stand-numbers : numbers (stand_of (stage 1 20 30 40 1 3 7) [] [] buffer) ≡ 20 ∷ 30 ∷ 40 ∷ []
unfolding refereeing stage buffer numbers
stand-numbers = refl

-- the kind and the place of what is found
place : Found → List ℕ
place f = f.kind ∷ numbers f.stand

found-there : map (λ l. place (found_in (stage 0 20 30 40 1 3 0) [] [] buffer (hex l))) ("4507" ∷ "" ∷ "4506" ∷ "45" ∷ [])
    ≡ (0 ∷ 20 ∷ 30 ∷ 42 ∷ []) ∷ (1 ∷ 20 ∷ 30 ∷ 40 ∷ []) ∷ (1 ∷ 20 ∷ 30 ∷ 40 ∷ []) ∷ (3 ∷ 20 ∷ 30 ∷ 40 ∷ []) ∷ []
unfolding refereeing stage buffer numbers place
found-there = refl

found_before : map (λ k. place (found_in (stage k 20 30 40 1 3 0) [] [] buffer (hex "4507"))) (1 ∷ 2 ∷ 128 ∷ 256 ∷ [])
    ≡ (1 ∷ 20 ∷ 30 ∷ 40 ∷ []) ∷ (2 ∷ 20 ∷ 30 ∷ 40 ∷ []) ∷ (128 ∷ 20 ∷ 30 ∷ 40 ∷ []) ∷ (256 ∷ 20 ∷ 30 ∷ 40 ∷ []) ∷ []
unfolding refereeing stage buffer numbers place
found_before = refl

-- one byte is kept, and the other follows
found-with : place (found (stage 0 20 30 40 2 4 1) [] [] (9 ∷ 8 ∷ 0x45 ∷ 0x07 ∷ []) (0x45 ∷ 0x99 ∷ 0x99 ∷ []) (0x07 ∷ [])) ≡ 0 ∷ 20 ∷ 30
    ∷ 42 ∷ []
unfolding refereeing stage numbers place
found-with = refl

told-by : map told_by (stage 1 20 30 40 5 6 7 ∷ stage 2 20 30 40 5 6 7 ∷ []) ≡ verdict 1 20 30 19 ∷ verdict 2 20 40 20 ∷ []
unfolding refereeing stage verdict
told-by = refl

-- if nothing follows: what was told; something is still due; bytes are kept
end-kinds : map end_kind
    (stage 2 20 30 40 5 6 0 ∷ stage 128 20 30 40 5 6 0 ∷ stage 256 20 30 40 5 6 0 ∷ stage 0 20 30 40 5 6 0 ∷ stage 0 20 30 40 6 6 0
    ∷ stage 0 20 30 40 7 6 0 ∷ stage 0 20 30 40 127 128 0 ∷ stage 0 20 30 40 255 256 0 ∷ stage 0 20 30 40 5 6 1 ∷ stage 0 20 30 40 5 6 128
    ∷ stage 0 20 30 40 5 6 256 ∷ []) ≡ 2 ∷ 128 ∷ 256 ∷ 1 ∷ 0 ∷ 0 ∷ 1 ∷ 1 ∷ 3 ∷ 3 ∷ 3 ∷ []
unfolding refereeing stage
end-kinds = refl

end-by : map end_by (stage 0 20 30 40 5 6 0 ∷ stage 0 20 30 40 5 6 7 ∷ []) ≡ verdict 1 20 30 19 ∷ verdict 3 20 40 20 ∷ []
unfolding refereeing stage verdict
end-by = refl

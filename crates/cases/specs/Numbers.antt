-- Numbers are compared whole, in answers, in calls and in the sessions held: rows with numbers that are alike in their low 7 or 8 bits, or
-- but for their highest. From 01 and 02, by hand. Assumes nothing.
use Rattle.std.specs.Prelude.{◌≡◌, refl, true, false, List, [], ◌∷◌, ◌++◌, map, ℕ, replicate, Some}
use Prim.Native.String.{String}
use Rattle.rules.specs.declared.Start.TheVariants.{Timed, Linked}
use Rattle.rules.specs.declared.Request.{Request}
use Rattle.rules.specs.declared.Session.{Session}
use Rattle.rules.specs.declared.Link.TheVariants.{Initialised}
use Rattle.rules.specs.declared.Cue.{Cue}
use Rattle.rules.specs.declared.Cue.TheVariants.{At, Timeless, Bad}
use Rattle.rules.specs.declared.Refusal.TheVariants.{NoConnection}
use Rattle.rules.specs.State.{Splicer, empty, same_number, starts_at, starts_after, ends_at, with_link}
use Rattle.rules.specs.Recent.{none_held}
use Rattle.rules.specs.Records.{General}
use Rattle.rules.specs.Instants.{outranks, may_start, on_air}
use Rattle.rules.specs.Answers.{init_result, answer, air_feed, air_row, is_past}
use Rattle.rules.specs.Splicing.{wrong_number, too_late}
use Rattle.rules.specs.Cues.{read_cue}
use Rattle.rules.specs.HouseNumbers.{refused, consumed_by}
use Rattle.rules.specs.Calls.{named, fresh, open_call, close_call, due_row}
use Rattle.rules.specs.Card.{card}
use Rattle.cases.specs.Scenario.{hex}
use Rattle.cases.specs.Computing.{computing}

-- ## "121: SessionID 0xFFFFFFFF": all of it

asked : ℕ → Request
asked x =
    record { id = x; start = Timed (record { 0 = 0 }); duration = record { 0 = 1 }; event = 0; access = 0; overrides = 0; mux = 5 }

wrong : map (λ x. wrong_number 0 (asked x) none_held) (0 ∷ 0x7F ∷ 0xFF ∷ 0x7FFFFFFF ∷ 0xFFFFFF7F ∷ 0xFFFFFFFF ∷ [])
    ≡ false ∷ false ∷ false ∷ false ∷ false ∷ true ∷ []
unfolding computing asked
wrong = refl

-- a number is another's if one bit is another
alike : map (λ x. same_number 1 7 1 x) (7 ∷ 0x87 ∷ 0x107 ∷ 0x80000007 ∷ 6 ∷ []) ≡ true ∷ false ∷ false ∷ false ∷ false ∷ []
unfolding computing
alike = refl

-- ## "Revision not 2 gives 102"

revisions : map (λ r. init_result r [] []) (2 ∷ 1 ∷ 3 ∷ 0x82 ∷ 0x102 ∷ 0x8002 ∷ []) ≡ 100 ∷ 102 ∷ 102 ∷ 102 ∷ 102 ∷ 102 ∷ []
unfolding computing
revisions = refl

-- ## "1. ID 0x0000: no answer. 2. Not initialised and not Init_Request: 103. 3. ID 0x000D: no answer. 4. ID not in the list: 120."

ready : Splicer
ready = with_link 0 Initialised (named [])

silences : map (λ n. (answer 0 n [] [] ready).written) (0 ∷ 0xD ∷ []) ≡ [] ∷ [] ∷ []
unfolding computing ready
silences = refl

unknown : map (λ n. (answer 0 n [] [] ready).written) (0x80 ∷ 0x100 ∷ 0x8000 ∷ 0x8D ∷ 0x10D ∷ 0xC ∷ 0xE0 ∷ [])
    ≡ replicate 7 (General 0 120 ∷ [])
unfolding computing ready
unknown = refl

unready : map (λ n. (answer 1 n [] [] ready).written) (0x81 ∷ 0x101 ∷ 0xD ∷ 5 ∷ []) ≡ replicate 4 (General 1 103 ∷ [])
unfolding computing ready
unready = refl

-- ## House number 1: "connection above 3"

connections : map (λ c. (open_call c ready).answer) (4 ∷ 0x80 ∷ 0x100 ∷ 0x10001 ∷ []) ≡ replicate 4 (refused NoConnection)
unfolding computing ready
connections = refl

closed : map (λ c. (close_call c 4096 ready).answer) (0x80 ∷ 0x100 ∷ []) ≡ replicate 2 (refused NoConnection)
unfolding computing ready
closed = refl

-- ## 02, CR 6: "the one on air": 0 the primary's, 1 the insertion's

feeds : air_feed [] ∷ air_feed (empty ∷ []) ∷ [] ≡ 0 ∷ 1 ∷ []
unfolding computing
feeds = refl

-- ## Times in ninths: a start or an end is at an instant or it is not

-- from t to u, with an AccessType and a flag
from : (t u access flag : ℕ) → Session
from t u a f =
    record {
      conn = 0;
      id = 1;
      prior = 0xFFFFFFFF;
      start = record { 0 = t };
      end = record { 0 = u };
      access = a;
      overrides = f;
      mux = 5;
      event = 0;
      played = record { 0 = 0 };
    }

-- no two of whose numbers are alike
distinct : ℕ → Session
distinct d =
    record {
      conn = 1;
      id = 2;
      prior = 3;
      start = record { 0 = 400 };
      end = record { 0 = 500 };
      access = 6;
      overrides = 0;
      mux = 9;
      event = 10;
      played = record { 0 = d };
    }

times : map (λ t. starts_at t (from 1280 2560 0 0) ∷ starts_after t (from 1280 2560 0 0) ∷ ends_at t (from 1280 2560 0 0) ∷ [])
    (1152 ∷ 1279 ∷ 1280 ∷ 1281 ∷ 1536 ∷ 2560 ∷ 2432 ∷ 2304 ∷ [])
    ≡ (false ∷ true ∷ false ∷ []) ∷ (false ∷ true ∷ false ∷ []) ∷ (true ∷ false ∷ false ∷ []) ∷ (false ∷ false ∷ false ∷ [])
    ∷ (false ∷ false ∷ false ∷ []) ∷ (false ∷ false ∷ true ∷ []) ∷ (false ∷ false ∷ false ∷ []) ∷ (false ∷ false ∷ false ∷ []) ∷ []
unfolding computing from
times = refl

-- c. "112: timed, and the start is less than 3 s after the clock": at 3 s, a microsecond before it, and a linked one
late : map (too_late 9000000) (Timed (record { 0 = 4000000 }) ∷ Timed (record { 0 = 3999999 }) ∷ Timed (record { 0 = 0 }) ∷ Linked 0 ∷ [])
    ≡ false ∷ true ∷ true ∷ false ∷ []
unfolding computing
late = refl

-- ## 02: "With the flag at 1, an equal AccessType now wins"

ranks : map (λ n. outranks n (from 0 1 5 0)) (from 0 1 4 0 ∷ from 0 1 4 1 ∷ from 0 1 5 0 ∷ from 0 1 5 1 ∷ from 0 1 6 0 ∷ from 0 1 6 1 ∷ [])
    ≡ false ∷ false ∷ false ∷ true ∷ true ∷ true ∷ []
unfolding computing from
ranks = refl

starts : map (λ n. may_start n (from 0 1 5 0 ∷ from 0 1 3 0 ∷ []))
    (from 0 1 4 1 ∷ from 0 1 5 0 ∷ from 0 1 5 1 ∷ from 0 1 6 0 ∷ from 0 1 6 1 ∷ [])
    ≡ false ∷ false ∷ true ∷ false ∷ true ∷ []
unfolding computing from
starts = refl

-- ## 02, CR 8: a place where none is kept tells of nobody, its numbers being 0

kept : map (is_past 0 0) (record { conn = 0; id = 0; event = 0; result = 0; played = 0 }
    ∷ record { conn = 0; id = 0; event = 0; result = 100; played = 0 } ∷ []) ≡ false ∷ true ∷ []
unfolding computing
kept = refl

-- ## 02, CR 7: lengths that do not fit, and those that do, in sections with more than 127 and 255 bytes for the command and descriptors

record Cued : Type 0 where
  section : List ℕ
  wants : Cue

cued : List ℕ → Cue → Cued
cued l c = record { section = l; wants = c }

-- what stands before the descriptors, so many zeros for these, and CRC_32
far : String → ℕ → String → List ℕ
far l n c = hex l ++ (replicate n 0 ++ hex c)

cues_given : List Cued
cues_given =
    -- a command length of 127 or 255 is given, and not splice_null's; then time_signal, a cancelled and an immediate splice_insert, each
    -- twice
    cued (hex "FC301100000000000000FFF07F000000 53C92299") Bad
    ∷ cued (hex "FC301100000000000000FFF0FF000000 F52F1F84") Bad
    ∷ cued (far "FC309300000000000000FFF00506FE00000064007D" 125 "93E1138D") (At 100)
    ∷ cued (far "FC311300000000000000FFF00506FE0000006400FD" 253 "287243A0") (At 100)
    ∷ cued (far "FC309300000000000000FFF0050500000001FF007D" 125 "28381D04") Timeless
    ∷ cued (far "FC311300000000000000FFF0050500000001FF00FD" 253 "0A7D8A47") Timeless
    ∷ cued (far "FC309300000000000000FFF00A05000000017FDF000100000078" 120 "599374FB") Timeless
    ∷ cued (far "FC311300000000000000FFF00A05000000017FDF0001000000F8" 248 "06E564D8") Timeless
    ∷ []

cues-read : map (λ x. read_cue x.section) cues_given ≡ map (λ x. x.wants) cues_given
unfolding computing cued far cues_given
cues-read = refl

-- ## The card program: "It stops at the end, a cut record or another mark": the marks with their highest bit are others

other-marks : map card (hex "CF04" ∷ hex "C300" ∷ hex "CD00 0000 0000 FFFF FFFF" ∷ hex "D400 00000000 FFFFFFFF" ∷ []) ≡ replicate 4 []
unfolding computing
other-marks = refl

marks : map card (hex "4F04" ∷ hex "4300" ∷ hex "4D00 0000 0000 FFFF FFFF" ∷ hex "5400 00000000 FFFFFFFF" ∷ [])
    ≡ hex "4501" ∷ hex "4507" ∷ hex "4507" ∷ hex "4508" ∷ []
unfolding computing
marks = refl

-- MicroSeconds of a tick to their highest bit
ticked : map card (hex "5400 00000001 80000000" ∷ hex "5400 00000001 000F423F" ∷ []) ≡ hex "4508" ∷ [] ∷ []
unfolding computing
ticked = refl

-- "A good call returns the bytes written, and message also the bytes consumed": fresh consumes none; a refusal "consumes nothing"
consumed : consumed_by (fresh (hex "00")).answer ∷ consumed_by (refused NoConnection) ∷ [] ≡ 0 ∷ 0 ∷ []
unfolding computing
consumed = refl

-- no other byte is a mark
no-marks : map (λ b. card (b ∷ hex "00 00000000 FFFFFFFF")) (0 ∷ 0x42 ∷ 0x44 ∷ 0x4C ∷ 0x4E ∷ 0x50 ∷ 0x53 ∷ 0x55 ∷ 0x74 ∷ 0xFF ∷ [])
    ≡ replicate 10 []
unfolding computing
no-marks = refl

-- ## 02, CR 7: "A section is right exactly if it is 0": the register behind these is 0, 0x80, 0x100 and 0x80000000

registers : map (λ c. read_cue (hex "FC 3011 00 00 00000000 00 FF F000 00 0000" ++ hex c))
    ("7A4FBFFF" ∷ "39F97F03" ∷ "FD223E07" ∷ "F82F3124" ∷ []) ≡ Timeless ∷ Bad ∷ Bad ∷ Bad ∷ []
unfolding computing
registers = refl

-- ## "PlayedDuration is time on air only": a session on air is as it was but for its time

onward : on_air 5 (distinct 7 ∷ distinct 8 ∷ []) ≡ distinct 12 ∷ distinct 8 ∷ []
unfolding computing distinct
onward = refl

-- ## Who is on air, in words: each number in its place; and an instant that no tick's time reaches: exactly the time field's end is one

in_words : air_row (distinct 7 ∷ distinct 8 ∷ []) ≡ 1 ∷ 1 ∷ 2 ∷ 400 ∷ 500 ∷ 7 ∷ 10 ∷ 6 ∷ 9 ∷ []
unfolding computing distinct
in_words = refl

out-of-reach : map (λ t. due_row (Some (record { 0 = t }))) (38654705664000000 ∷ 38654705663999991 ∷ [])
    ≡ (1 ∷ 38654705664000000 ∷ 0 ∷ 0 ∷ []) ∷ (2 ∷ 38654705663999991 ∷ 4294967295 ∷ 999999 ∷ []) ∷ []
unfolding computing
out-of-reach = refl

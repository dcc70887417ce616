-- What stands where nothing stands, and the first few of a list. From 01 and 02, by hand; each row is for a reading that is one off, or
-- that gives what comes behind. Assumes nothing.
use Rattle.std.specs.Prelude.{◌≡◌, refl, true, false, List, [], ◌∷◌, ◌++◌, map, ℕ, ◌+◌, ◌*◌, eqb, replicate}
use Rattle.rules.specs.declared.Session.{Session}
use Rattle.rules.specs.declared.Past.{Past}
use Rattle.rules.specs.Lists.{place, All, same}
use Rattle.rules.specs.State.{Queue}
use Rattle.rules.specs.Recent.{none_ended, remembered, recent}
use Rattle.rules.specs.Listing.{held_rows}
use Rattle.rules.specs.Records.{General, InitResponse, AliveResponse, SpliceResponse, SpliceComplete, AbortResponse, CueRequest}
use Rattle.rules.specs.Records.{ExtendedFound, ExtendedNone, ConfigResponse, result_of}
use Rattle.cases.specs.Computing.{computing}
use Rattle.cases.specs.Heard.{unlike}

-- ## 02, CR 8: "the last 16 ended sessions", "from the newest down"; where none is kept, "numbers 0"

nothing : Past
nothing = record { conn = 0; id = 0; event = 0; result = 0; played = 0 }

end : Past
end = record { conn = 1; id = 2; event = 3; result = 109; played = 4 }

none_yet : recent none_ended ≡ replicate 16 nothing
unfolding computing nothing
none_yet = refl

one-yet : recent (remembered end none_ended) ≡ end ∷ replicate 15 nothing
unfolding computing nothing end
one-yet = refl

-- ## The read of the sessions: the first of them, started ones before those that wait

session : ℕ → Session
session n =
    record {
      conn = 1;
      id = n;
      prior = 3;
      start = record { 0 = 400 + n };
      end = record { 0 = 500 + n };
      access = 6;
      overrides = 0;
      mux = 9;
      event = 10;
      played = record { 0 = 7 };
    }

queue : Queue
queue = record { waiting = session 3 ∷ session 4 ∷ []; started = session 1 ∷ session 2 ∷ []; lately = none_ended }

-- on air 1, covered 2, waiting 3; two numbers in a word
row : (id state : ℕ) → List ℕ
row n f = (400 + n) ∷ (500 + n) ∷ 7 ∷ (1 + 4294967296 * n) ∷ (10 + 4294967296 * 3) ∷ 6 ∷ (9 + 4294967296 * f) ∷ []

first_rows : map (λ n. held_rows n queue) (0 ∷ 1 ∷ 2 ∷ 3 ∷ 4 ∷ 5 ∷ [])
    ≡ [] ∷ row 1 1 ∷ (row 1 1 ++ row 2 2) ∷ (row 1 1 ++ (row 2 2 ++ row 3 3)) ∷ (row 1 1 ++ (row 2 2 ++ (row 3 3 ++ row 4 3)))
    ∷ (row 1 1 ++ (row 2 2 ++ (row 3 3 ++ row 4 3))) ∷ []
unfolding computing session queue row
first_rows = refl

-- ## The result of each record: "(both Result fields 0xFFFF)" of a Cue_Request; 100 with what is kept, "121 with the SessionID alone"

results : map result_of
    (General 0 103 ∷ InitResponse 0 104 [] ∷ AliveResponse 0 100 1 2 3 ∷ SpliceResponse 0 112 9 ∷ SpliceComplete 0 125 9 1 0
    ∷ AbortResponse 0 121 9 ∷ CueRequest 0 1 2 [] ∷ ExtendedFound 0 9 8 109 7 ∷ ExtendedNone 0 9 ∷ ConfigResponse 0 117 [] [] [] ∷ [])
    ≡ 103 ∷ 104 ∷ 100 ∷ 112 ∷ 125 ∷ 121 ∷ 0xFFFF ∷ 100 ∷ 121 ∷ 117 ∷ []
unfolding computing
results = refl

-- ## Lists: a place that is none is the length; each of a list; bytes that are alike only in part, or below others

places : map (λ x. place (eqb x) (7 ∷ 8 ∷ 9 ∷ [])) (7 ∷ 8 ∷ 9 ∷ 1 ∷ []) ≡ 0 ∷ 1 ∷ 2 ∷ 3 ∷ []
unfolding computing
places = refl

not-each : All (λ (x : ℕ). x ≡ 0) (0 ∷ 1 ∷ []) → ⊥
not-each h = unlike 1 0 tt h.1.0

alike : same (1 ∷ 2 ∷ []) (1 ∷ 2 ∷ []) ∷ same (1 ∷ 2 ∷ []) (1 ∷ 3 ∷ []) ∷ same (1 ∷ 3 ∷ []) (1 ∷ 2 ∷ []) ∷ same (1 ∷ []) (1 ∷ 2 ∷ [])
    ∷ same (1 ∷ 2 ∷ []) (1 ∷ []) ∷ same [] [] ∷ [] ≡ true ∷ false ∷ false ∷ false ∷ false ∷ true ∷ []
unfolding computing
alike = refl

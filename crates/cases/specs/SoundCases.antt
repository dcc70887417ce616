-- What holds of every splicer, in the words that theorems say it with: each statement of a session that meets it and of ones that just miss
-- it. By hand, from 01 and 02. Assumes nothing.
use Rattle.std.specs.Prelude.{◌≡◌, refl, Bool, true, false, List, [], ◌∷◌, map, ℕ, zero, suc, ◌+◌, ◌≤◌, eqb, replicate}
use Rattle.std.proofs.Common.{arith}
use Rattle.rules.specs.declared.Session.{Session}
use Rattle.rules.specs.Lists.{bit, some, keep}
use Rattle.rules.specs.State.{Queue, is}
use Rattle.rules.specs.Recent.{none_ended}
use Rattle.rules.specs.Records.{General, InitResponse, AliveResponse, SpliceResponse, SpliceComplete, AbortResponse, CueRequest}
use Rattle.rules.specs.Records.{ExtendedFound, ExtendedNone, ConfigResponse}
use Rattle.rules.specs.HouseNumbers.{lending_maps}
use Rattle.rules.specs.Calls.{opens, closes, messages, ticks, moves, cues}
use Rattle.rules.specs.Follows.Sound.{raised_sum, held_count, Later, Since, Falling, Once, is_prior, Tied, Wired, codes, codes_of}
use Rattle.cases.specs.Computing.{computing}
use Rattle.cases.specs.Heard.{not-false}

-- number 2 of connection 1, behind number 3
session : (start end access played : ℕ) → Session
session t e a d =
    record {
      conn = 1;
      id = 2;
      prior = 3;
      start = record { 0 = t };
      end = record { 0 = e };
      access = a;
      overrides = 0;
      mux = 5;
      event = 8;
      played = record { 0 = d };
    }

-- number 3 of connection 1, or another
prior : (conn id end : ℕ) → Session
prior c x e =
    record {
      conn = c;
      id = x;
      prior = 0xFFFFFFFF;
      start = record { 0 = 1 };
      end = record { 0 = e };
      access = 4;
      overrides = 0;
      mux = 5;
      event = 8;
      played = record { 0 = 0 };
    }

-- ## Counts: "each raised to 10 if lower", those that wait and those that have started

raised : map raised_sum ([] ∷ replicate 11 (session 4 9 3 0) ∷ []) ≡ 40 ∷ 41 ∷ []
unfolding computing session
raised = refl

counted : held_count (record { waiting = replicate 3 (session 4 9 3 0); started = replicate 2 (session 4 9 3 0); lately = none_ended }) (is
    1 2) ≡ 5
unfolding computing session
counted = refl

-- ## Times: after the time, and before the end; on air for no longer than since the start

later : Later 3 (session 4 9 3 0)
unfolding session
later = (omega arith, omega arith)

not-later : (Later 4 (session 4 9 3 0) → ⊥) × (Later 3 (session 4 4 3 0) → ⊥) × (Later 3 (session 5 4 3 7) → ⊥)
unfolding session
not-later = ((λ h. omega (arith, h.0)), (λ h. omega (arith, h.1)), (λ h. omega (arith, h.1)))

since : Since 9 (session 4 20 3 5)
unfolding session
since = omega arith

not-since : (Since 8 (session 4 20 3 5) → ⊥) × (Since 9 (session 4 1 3 6) → ⊥)
unfolding session
not-since = ((λ h. omega (arith, h)), (λ h. omega (arith, h)))

-- ## 02, CR 4: "so no two started sessions ever have the same AccessType"

falling : Falling (session 1 9 7 0 ∷ session 8 9 5 0 ∷ session 1 9 4 0 ∷ [])
unfolding session
falling = ((omega arith, (omega arith, tt)), ((omega arith, tt), (tt, tt)))

not-falling : (Falling (session 1 9 7 0 ∷ session 1 9 7 0 ∷ []) → ⊥) × (Falling (session 1 9 7 0 ∷ session 1 9 5 0 ∷ session 1 9 6 0
    ∷ []) → ⊥)
    × (Falling (session 1 9 5 0 ∷ session 1 9 4 0 ∷ session 1 9 6 0 ∷ []) → ⊥)
unfolding session
not-falling = ((λ h. omega (arith, h.0.0)), (λ h. omega (arith, h.1.0.0)), (λ h. omega (arith, h.0.1.0)))

-- ## "a linked start is the prior session's end"

priors : map (is_prior (session 4 9 6 0)) (prior 1 3 4 ∷ prior 1 3 5 ∷ prior 1 3 3 ∷ prior 0 3 4 ∷ prior 1 2 4 ∷ [])
    ≡ true ∷ false ∷ false ∷ false ∷ false ∷ []
unfolding computing session prior
priors = refl

far-priors : map (is_prior (session 260 9 6 0)) (prior 1 3 260 ∷ prior 1 3 4 ∷ prior 1 3 132 ∷ []) ≡ true ∷ false ∷ false ∷ []
unfolding computing session prior
far-priors = refl

tied : Tied (λ p. 1) (session 4 9 3 0) × Tied (λ p. 0) (prior 1 3 4)
unfolding session prior
tied = ((λ h. omega arith), (λ h. absurd (not-false true tt h)))

-- behind number n; 0x7F and 0xFF are numbers as any
behind : ℕ → Session
behind n =
    record {
      conn = 1;
      id = 2;
      prior = n;
      start = record { 0 = 4 };
      end = record { 0 = 9 };
      access = 6;
      overrides = 0;
      mux = 5;
      event = 8;
      played = record { 0 = 0 };
    }

not-tied : (Tied (λ p. 0) (behind 3) → ⊥) × (Tied (λ p. 0) (behind 0x7F) → ⊥) × (Tied (λ p. 0) (behind 0xFF) → ⊥)
unfolding behind
not-tied = ((λ f. omega (arith, f refl)), (λ f. omega (arith, f refl)), (λ f. omega (arith, f refl)))

-- ## "no connection holds a number twice"

holding : List Session → Queue
holding l = record { waiting = l; started = []; lately = none_ended }

one_at_most : (b : Bool) → (bit b + 0) + 0 ≤ 1
one_at_most true = omega arith
one_at_most false = omega arith

once : Once (holding (session 4 9 3 0 ∷ []))
unfolding session holding
once c x = one_at_most (is c x (session 4 9 3 0))

not-once : Once (holding (session 4 9 3 0 ∷ session 5 9 3 0 ∷ [])) → ⊥
unfolding session holding
not-once f = omega (arith, f 1 2)

-- ## Calls whose bytes are bytes

wired : Wired (opens 9) × Wired (closes 9 9) × Wired (messages 0 (255 ∷ []) (lending_maps (255 ∷ []) (255
    ∷ []) 0)) × Wired (ticks 4294967295 0 0)
    × Wired (moves 38654705663999999 0) × Wired (cues (255 ∷ []) 0 0 0 0)
wired = (tt, tt, ((omega arith, tt), (omega arith, tt), (omega arith, tt)), omega arith, omega arith, (omega arith, tt))

not-wired : (Wired (messages 0 (256 ∷ []) (lending_maps [] [] 0)) → ⊥) × (Wired (messages 0 [] (lending_maps (256 ∷ []) [] 0)) → ⊥)
    × (Wired (messages 0 [] (lending_maps [] (256 ∷ []) 0)) → ⊥) × (Wired (ticks 4294967296 0 0) → ⊥) × (Wired (moves 38654705664000000 0)
    → ⊥)
    × (Wired (cues (256 ∷ []) 0 0 0 0) → ⊥)
not-wired = (
  (λ h. omega (arith, h.0.0)),
  (λ h. omega (arith, h.1.0)),
  (λ h. omega (arith, h.2.0)),
  (λ h. omega (arith, h)),
  (λ h. omega (arith, h)),
  (λ h. omega (arith, h.0)),
)

-- ## 02, CR 1: "From here result 110 is no longer met": the results that are given

upward : (n from : ℕ) → List ℕ
upward zero m = []
upward (suc n) m = m ∷ upward n (suc m)

given : keep (λ n. some (eqb n) codes) (upward 60 90) ≡ 100 ∷ 102 ∷ 103 ∷ 104 ∷ 109 ∷ 112 ∷ 114 ∷ 116 ∷ 117 ∷ 120 ∷ 121 ∷ 123 ∷ 125 ∷ []
unfolding computing upward
given = refl

-- 02, CR 7: of a Cue_Request 0xFFFF alone
of-each : map (λ r. some (eqb 0xFFFF) (codes_of r))
    (General 0 1 ∷ InitResponse 0 1 [] ∷ AliveResponse 0 1 1 1 1 ∷ SpliceResponse 0 1 1 ∷ SpliceComplete 0 1 1 1 1 ∷ AbortResponse 0 1 1
    ∷ CueRequest 0 1 1 []
    ∷ ExtendedFound 0 1 1 1 1 ∷ ExtendedNone 0 1 ∷ ConfigResponse 0 1 [] [] [] ∷ [])
    ≡ false ∷ false ∷ false ∷ false ∷ false ∷ false ∷ true ∷ false ∷ false ∷ false ∷ []
unfolding computing
of-each = refl

also-100 : map (λ r. some (eqb 100) (codes_of r))
    (General 0 1 ∷ InitResponse 0 1 [] ∷ AliveResponse 0 1 1 1 1 ∷ SpliceResponse 0 1 1 ∷ SpliceComplete 0 1 1 1 1 ∷ AbortResponse 0 1 1
    ∷ CueRequest 0 1 1 []
    ∷ ExtendedFound 0 1 1 1 1 ∷ ExtendedNone 0 1 ∷ ConfigResponse 0 1 [] [] [] ∷ [])
    ≡ true ∷ true ∷ true ∷ true ∷ true ∷ true ∷ false ∷ true ∷ true ∷ true ∷ []
unfolding computing
also-100 = refl

-- 02, CR 7: 65534 and 65536 are no such number
cue-code : map (λ n. some (eqb n) (codes_of (CueRequest 0 1 1 []))) (0xFFFE ∷ 0xFFFF ∷ 0x10000 ∷ []) ≡ false ∷ true ∷ false ∷ []
unfolding computing
cue-code = refl

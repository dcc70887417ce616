-- 02, CR 12: the second engine's list of verdicts, which is kept in no order and never gets shorter: sessions among hundreds that are over,
-- chains as long as the list, what is kept where nothing has ended. By hand. Assumes nothing.
use Rattle.std.specs.Prelude.{◌≡◌, refl, true, false, List, [], ◌∷◌, map, ℕ, get_or, replicate}
use Rattle.std.proofs.Common.{arith}
use Rattle.rules.specs.declared.Past.{Past}
use Rattle.rules.specs.declared.Session.{Session}
use Rattle.rules.specs.Recent.{unused}
use Rattle.rules.specs.Records.{SpliceResponse, SpliceComplete}
use Rattle.recall_rules.specs.declared.Phase.{Phase}
use Rattle.recall_rules.specs.declared.Phase.TheVariants.{Out, Waits, Started, Ended}
use Rattle.recall_rules.specs.declared.Verdict.{Verdict}
use Rattle.recall_rules.specs.Verdicts.{is_waiting, has_started, is_held, has_ended, verdict, none}
use Rattle.recall_rules.specs.Verdicts.{is_end, result_in, recent, pasts, Numbered}
use Rattle.recall_rules.specs.Work.{dismissed, evicted, closed_by, ousted, start_at, elapse, air_state, air_id, air_feed}
use Rattle.cases.specs.Heard.{unlike}
use Rattle.cases.specs.Recalled.{recalling}

-- number n of connection 0, behind p, of AccessType 3; from 400 to 500
session : (id prior : ℕ) → Session
session n p =
    record {
      conn = 0;
      id = n;
      prior = p;
      start = record { 0 = 400 };
      end = record { 0 = 500 };
      access = 3;
      overrides = 1;
      mux = 5;
      event = 8;
      played = record { 0 = 250 };
    }

-- the first of 256 verdicts, and nothing behind it
first : Phase → List Verdict
first f = verdict f (session 1 9) ∷ replicate 255 none

-- ## How a session stands

phases : List Phase
phases = Out ∷ Waits ∷ Started ∷ Ended 7 109 ∷ []

standing : map is_waiting phases ∷ map has_started phases ∷ map is_held phases ∷ map has_ended phases ∷ []
    ≡ (false ∷ true ∷ false ∷ false ∷ []) ∷ (false ∷ false ∷ true ∷ false ∷ []) ∷ (false ∷ true ∷ true ∷ false ∷ [])
    ∷ (false ∷ false ∷ false ∷ true ∷ []) ∷ []
unfolding recalling phases
standing = refl

results : map result_in phases ≡ 0 ∷ 0 ∷ 0 ∷ 109 ∷ []
unfolding recalling phases
results = refl

-- ends of which some bits are the number's
numbers : map (λ n. is_end n (Ended 256 100)) (256 ∷ 0 ∷ 128 ∷ 255 ∷ []) ≡ true ∷ false ∷ false ∷ false ∷ []
unfolding recalling
numbers = refl

-- ## One session among many verdicts

-- a follower of 9; one at the instant; a close; each is told
followers : map (λ l. (dismissed 109 0 9 l).written) (first Waits ∷ first Started ∷ []) ≡ (SpliceResponse 0 109 1 ∷ []) ∷ [] ∷ []
unfolding recalling session first
followers = refl

at-its-start : map (λ t. (evicted t (first Waits)).written) (400 ∷ 401 ∷ []) ≡ (SpliceResponse 0 109 1 ∷ []) ∷ [] ∷ []
unfolding recalling session first
at-its-start = refl

at-close : map (λ l. (closed_by 0 l).written) (first Waits ∷ first Started ∷ []) ≡ (SpliceResponse 0 116 1 ∷ [])
    ∷ (SpliceComplete 0 116 1 1 2 ∷ []) ∷ []
unfolding recalling session first
at-close = refl

-- an equal one on air ends with 125
equal-on-air : (ousted (session 2 8) (first Started)).written ≡ SpliceComplete 0 125 1 1 2 ∷ []
unfolding recalling session first
equal-on-air = refl

starts : map (λ t. (start_at t (first Waits)).written) (400 ∷ 401 ∷ []) ≡ (SpliceComplete 0 100 1 0 0 ∷ []) ∷ [] ∷ []
unfolding recalling session first
starts = refl

-- "time on air only": 50 more
played : map (λ l. (get_or (elapse 50 l) 0 none).session.played.0) (first Started ∷ first Waits ∷ []) ≡ 300 ∷ 250 ∷ []
unfolding recalling session first
played = refl

-- "State 2 and the SessionID on air, or State 1 and 0xFFFFFFFF"; 1 the insertion's feed, 0 the primary's
alive : map air_state (first Started ∷ first Waits ∷ []) ∷ map air_id (first Started ∷ first Waits ∷ []) ∷ map air_feed (first Started
    ∷ first Waits ∷ []) ∷ []
    ≡ (2 ∷ 1 ∷ []) ∷ (1 ∷ 0xFFFFFFFF ∷ []) ∷ (1 ∷ 0 ∷ []) ∷ []
unfolding recalling session first
alive = refl

-- "link by link": a chain that is the whole list
chain : List Verdict
chain = verdict Waits (session 3 2) ∷ verdict Waits (session 1 9) ∷ verdict Waits (session 2 1) ∷ []

whole-chain : (dismissed 116 0 9 chain).written ≡ SpliceResponse 0 116 1 ∷ SpliceResponse 0 116 2 ∷ SpliceResponse 0 116 3 ∷ []
unfolding recalling session chain
whole-chain = refl

-- ## 02, CR 8: what ended, by the numbers of the ends; 250 ninths are 2 ticks

past : (id result : ℕ) → Past
past x r = record { conn = 0; id = x; event = 8; result = r; played = 2 }

over : List Verdict
over = verdict (Ended 1 116) (session 5 9) ∷ verdict Waits (session 6 9) ∷ verdict (Ended 0 109) (session 7 9) ∷ []

kept : recent over ≡ past 5 116 ∷ past 7 109 ∷ replicate 14 unused
unfolding recalling session past over
kept = refl

none_kept : recent [] ≡ replicate 16 unused
unfolding recalling
none_kept = refl

oldest-first : pasts over ≡ past 7 109 ∷ past 5 116 ∷ []
unfolding recalling session past over
oldest-first = refl

-- no number is given that is not below the number of ends
numbered : Numbered []
numbered n h = refl

not-numbered : (Numbered (verdict (Ended 1 100) (session 1 9) ∷ []) → ⊥) × (Numbered (verdict (Ended 7 100) (session 1 9) ∷ []) → ⊥)
not-numbered = ((λ f. unlike 1 0 tt (f 1 (omega arith))), (λ f. unlike 1 0 tt (f 7 (omega arith))))

-- Histories written down by hand: calls with the bytes of requests and answers, as 01 and 02 lay them out; and that a statement does not
-- hold. Assumes nothing.
use Rattle.std.specs.Prelude.{◌≡◌, Bool, true, false, not, ◌&&◌, List, [], ◌∷◌, ◌++◌, map, ℕ, ◌≤◌, T, eqb, leb, ltb}
use Rattle.std.proofs.Common.{subst, T_not, le→leb, ltb→lt}
use Prim.Native.String.{String}
use Rattle.std.proofs.Math.Dec.{eqb_refl}
use Rattle.rules.specs.declared.Refusal.{Refusal}
use Rattle.rules.specs.Lists.{All}
use Rattle.rules.specs.Follows.Wires.{Byte}
use Rattle.rules.specs.Calls.{Call, messages, moves}
use Rattle.rules.specs.HouseNumbers.{lending}
use Rattle.demands.specs.History.{wrote, refusal, Event}
use Rattle.cases.specs.Scenario.{hex, joined}

-- ## Calls and answers

-- a call, and the bytes that it wrote
unfoldable pub heard : Call → String → Event
heard k b = record { call = k; reply = wrote (hex b) }

-- a call, and the records that it wrote
unfoldable pub spoken : Call → List String → Event
spoken k l = record { call = k; reply = wrote (joined (map hex l)) }

-- a call that wrote nothing
unfoldable pub silent : Call → Event
silent k = record { call = k; reply = wrote [] }

-- a call that was refused
unfoldable pub denied : Call → Refusal → Event
denied k n = record { call = k; reply = refusal n }

-- the clock brought to an instant in ninths
unfoldable pub till : ℕ → Call
till t = moves t 4096

-- a message of connection c
unfoldable pub says : ℕ → String → Call
says c b = messages c (hex b) (lending 4096)

-- a Splice_Request of connection c, 33 bytes with ServiceID 1, PostBlack 0 and ReturnToPriorChannel 1. Handed in: SessionID, PriorSession
-- and time; Duration and SpliceEventID; AccessType and OverridePlaying
unfoldable pub splice : ℕ → (asked lasting ranks : String) → Call
splice c a d r =
    messages c (hex "0007 0021 FFFF FFFF" ++ (hex a ++ (hex "0001" ++ (hex d ++ (hex "00000000" ++ (hex r ++ hex "01")))))) (lending 4096)

-- ## Bytes are bytes

unfoldable pub each : List ℕ → Bool
each [] = true
each (b ∷ l) = ltb b 256 && each l

split : (a b : Bool) → T (a && b) → T a × T b
split true b h = (tt, h)
split false b h = absurd h

pub small : (l : List ℕ) → T (each l) → All Byte l
unfolding each
small [] h = tt
small (b ∷ l) h = let p = split (ltb b 256) (each l) h in (ltb→lt b 256 p.0, small l p.1)

-- ## What does not hold

pub unlike : (m n : ℕ) → T (not (eqb m n)) → m ≡ n → ⊥
unlike m n h e = T_not (eqb m n) h (subst (λ k. T (eqb m k)) e (eqb_refl m))

pub unordered : (m n : ℕ) → T (not (leb m n)) → m ≤ n → ⊥
unordered m n h e = T_not (leb m n) h (le→leb m n e)

pub not-true : (b : Bool) → T (not b) → b ≡ true → ⊥
not-true true h e = h
not-true false h e = subst (λ b. T (not b)) e tt

pub not-false : (b : Bool) → T b → b ≡ false → ⊥
not-false true h e = subst T e tt
not-false false h e = h

-- The verdicts that lent words hold.
use Rattle.std.specs.Prelude.{cond, List, [], ◌∷◌, ℕ, zero, suc, ◌*◌, ◌/◌, ◌≤◌, eqb, length, drop, get_or}
use Rattle.recall_rules.specs.declared.Phase.{Phase}
use Rattle.recall_rules.specs.declared.Phase.TheVariants.{Out, Waits, Started, Ended}
use Rattle.recall_rules.specs.declared.Verdict.{Verdict}

-- the words of a row
abbrev pub width : ℕ
width = 13

-- the phase that three words say
unfoldable pub phase_of : (code nth result : ℕ) → Phase
phase_of k n r = cond (eqb k 1) Waits (cond (eqb k 2) Started (cond (eqb k 3) (Ended n r) Out))

-- and the words that say it
abbrev pub code_of : Phase → ℕ
code_of Out = 0
code_of Waits = 1
code_of Started = 2
code_of (Ended n r) = 3

abbrev pub nth_of : Phase → ℕ
nth_of Out = 0
nth_of Waits = 0
nth_of Started = 0
nth_of (Ended n r) = n

abbrev pub result_of : Phase → ℕ
result_of Out = 0
result_of Waits = 0
result_of Started = 0
result_of (Ended n r) = r

-- the verdict whose word k is f k
abbrev pub verdict_of : (ℕ → ℕ) → Verdict
verdict_of f =
    record {
      phase = phase_of (f 0) (f 1) (f 2);
      session = record {
        conn = f 3;
        id = f 4;
        prior = f 5;
        start = record { 0 = f 6 };
        end = record { 0 = f 7 };
        access = f 8;
        overrides = f 9;
        mux = f 10;
        event = f 11;
        played = record { 0 = f 12 };
      };
    }

-- the words of a verdict, in the same order
abbrev pub words_of : Verdict → List ℕ
words_of v =
    let f = v.phase in
    let s = v.session in
    code_of f ∷ nth_of f ∷ result_of f ∷ s.conn ∷ s.id ∷ s.prior ∷ s.start.0 ∷ s.end.0 ∷ s.access ∷ s.overrides ∷ s.mux ∷ s.event
    ∷ s.played.0 ∷ []

-- the verdict in the first words
abbrev pub row : List ℕ → Verdict
row m = verdict_of (λ k. get_or m k 0)

-- n verdicts, one behind the other
unfoldable pub verdicts_in : ℕ → List ℕ → List Verdict
verdicts_in zero m = []
verdicts_in (suc n) m = row m ∷ verdicts_in n (drop width m)

-- every row of the words is a verdict
abbrev pub all : List ℕ → List Verdict
all m = verdicts_in (length m / width) m

-- n rows stand in the words m
abbrev pub Fits : ℕ → List ℕ → Type 0
Fits n m = n * width ≤ length m

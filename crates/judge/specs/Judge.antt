-- 02, CR 14: what the checker's own functions promise, of the number of the last call and the part of the buffer where what is still due of
-- it stands.
use Rattle.std.specs.Prelude.{◌≡◌, Bool, cond, List, ℕ, ◌+◌, ◌-◌, ◌^◌, ◌≤◌, ◌<◌, ltb, length, take, drop, Option, Some, None}
use Rattle.std.specs.ControlFlow.{MatchControlFlow}
use Rattle.std.specs.declared.ops.ControlFlow.{ControlFlow}
use Rattle.rules.specs.Bytes.{written}
use Rattle.memory.specs.Memory.{shown}
use Rattle.engine.specs.Lent.{Lent}
use Rattle.feed.specs.Play.{step_of}
use Rattle.recording.specs.declared.Finding.{Finding}
use Rattle.recording.specs.declared.Finding.TheVariants.{Differs}
use Rattle.recording.specs.Recording.{Bench, entries, judged}
use Rattle.judge.specs.declared.turns.Still.{Still}

-- something is due that was not written
abbrev pub unmet : Still → Bool
unmet g = ltb g.from g.end

abbrev pub at_end : Still → Option Finding
at_end g = cond (unmet g) (Some (Differs g.number)) None

-- before any call nothing is due
abbrev pub none : Still
none = record { number = 0; from = 0; end = 0 }

-- what is known between two entries, of the memory m and b and the buffer o
abbrev pub bench_of : Still → (m b o : List ℕ) → Bench
bench_of g m b o = record { splicer = shown m b; number = g.number; due = take (g.end - g.from) (drop g.from o) }

-- what is due lies in the buffer o, and a number fits for each entry of the bytes l that are left
pub record Stands (g : Still) (l o : List ℕ) : Type 0 where
  pub within : g.from ≤ g.end
  pub room : g.end ≤ length o
  pub few : g.number + length l < 2 ^ 64

-- the call that l begins with was made of the memory m and b, with the buffer o: the memory v and c after it, and its records, of `len`
-- bytes, stand at the start of the buffer q
pub record Makes (l m b o : List ℕ) (len : ℕ) (v c q : List ℕ) : Type 0 where
  pub lent : Lent v c
  pub splicer : shown v c ≡ (step_of l (shown m b)).splicer
  pub count : len ≡ length (step_of l (shown m b)).shows
  pub bytes : q ≡ written o 0 (step_of l (shown m b)).shows

-- an entry of n bytes of l was gone through, and the judgement of the rest is that of l; g: what was known before it
pub record GoesOn (g : Bench) (l : List ℕ) (n : ℕ) (s : Still) (m b o : List ℕ) : Type 0 where
  pub lent : Lent m b
  pub some : 0 < n
  pub there : n ≤ length l
  pub stands : Stands s (drop n l) o
  pub finds : judged g (entries l) ≡ judged (bench_of s m b o) (entries (drop n l))

-- after an entry: on behind its bytes, or what is found in all
abbrev pub Turned : Bench → List ℕ → ControlFlow (Option Finding) (ℕ × Still) → (m b o : List ℕ) → Type 0
Turned g l a m b o = MatchControlFlow a (λ on. GoesOn g l on.0 on.1 m b o) (λ f. judged g (entries l) ≡ f)

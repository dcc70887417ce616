-- The reads for drivers in the demands' words: who is on air, what is due, the rows of the sessions. Rows by hand, every number another
-- one.
-- Assumes nothing.
use Rattle.std.specs.Prelude.{◌≡◌, refl, Bool, true, false, List, [], ◌∷◌, map, ℕ, ◌+◌, ◌*◌, length, replicate}
use Rattle.std.proofs.Common.{arith}
use Rattle.rules.specs.Rolling.{none, at, step_of}
use Rattle.demands.specs.Airing.{Airing}
use Rattle.demands.specs.Due.{state_of, id_of, lives, next_of, step_from, Before, NotBefore}
use Rattle.demands.specs.Sessions.{HeldRow, row_in, rows_in, rows_read, row_is, open_as, Led, Ranked, Behind}
use Rattle.cases.specs.Computing.{computing}
use Rattle.cases.specs.Heard.{unlike}

reading : ℕ
unfolding computing rows_in step_of step_from
reading = 0

-- ## Alive's State and SessionID from the words: "State 2 and the SessionID on air, or State 1 and 0xFFFFFFFF"

alive : map state_of ((0 ∷ 1 ∷ []) ∷ (1 ∷ 0 ∷ []) ∷ [] ∷ []) ≡ 1 ∷ 2 ∷ 1 ∷ []
unfolding reading
alive = refl

number : map id_of ((0 ∷ 7 ∷ 300 ∷ 9 ∷ 9 ∷ []) ∷ (1 ∷ 7 ∷ 300 ∷ 9 ∷ 9 ∷ []) ∷ [] ∷ (1 ∷ 7 ∷ []) ∷ []) ≡ 0xFFFFFFFF ∷ 300 ∷ 0xFFFFFFFF ∷ 0
    ∷ []
unfolding reading
number = refl

-- ## A session of a history: started and unended; the start of one that has not started, or the end of one that has

airing : (begun over listed : Bool) → Airing
airing b o l = record { conn = 1; id = 2; access = 3; start = 4; end = 5; begun = b; over = o; to = 6; listed = l; said = 7 }

living : map lives (airing false false true ∷ airing true false false ∷ airing true true false ∷ airing false true true
    ∷ airing true false true ∷ [])
    ≡ false ∷ true ∷ false ∷ false ∷ true ∷ []
unfolding reading airing
living = refl

next : map next_of (airing false true true ∷ airing true false false ∷ []) ≡ 4 ∷ 5 ∷ []
unfolding reading airing
next = refl

-- "after so many ticks": before the instant is given there is none
steps : step_from none 7 ∷ step_from (at 5) 7 ∷ [] ≡ 0 ∷ 2 ∷ []
unfolding reading
steps = refl

-- ## By the words of what is due: 300 of 1, and none; numbers above 127

before : Before (1 ∷ 300 ∷ []) 299 × Before (0 ∷ 300 ∷ []) 300 × Before [] 5 × Before (128 ∷ 300 ∷ []) 299
before = ((λ h. omega arith), (λ h. omega (arith, h)), (λ h. omega (arith, h)), (λ h. omega arith))

not-before : NotBefore (1 ∷ 300 ∷ 9 ∷ []) 300 × NotBefore (128 ∷ 300 ∷ 9 ∷ []) 301 × NotBefore (1 ∷ []) 0
not-before = ((omega arith, omega arith), (omega arith, omega arith), (omega arith, omega arith))

no-before : (Before (1 ∷ 300 ∷ []) 300 → ⊥) × (Before (128 ∷ 300 ∷ []) 300 → ⊥) × (Before (1 ∷ []) 0 → ⊥)
no-before = ((λ f. omega (arith, f (omega arith))), (λ f. omega (arith, f (omega arith))), (λ f. omega (arith, f (omega arith))))

no-not-before : (NotBefore (1 ∷ 300 ∷ []) 299 → ⊥) × (NotBefore (0 ∷ 300 ∷ []) 301 → ⊥) × (NotBefore [] 5 → ⊥)
no-not-before = ((λ p. omega (arith, p.1)), (λ p. omega (arith, p.0)), (λ p. omega (arith, p.0)))

-- ## A row as C reads it: seven words, two numbers of 32 bits in the last four

words : List ℕ
words =
    1000 ∷ 1001 ∷ 1002 ∷ (203 + 4294967296 * 304) ∷ (205 + 4294967296 * 306) ∷ (207 + 4294967296 * 308) ∷ (209 + 4294967296 * 310) ∷ []

row : HeldRow
row = record {
  start = 1000;
  end = 1001;
  played = 1002;
  conn = 203;
  id = 304;
  event = 205;
  prior = 306;
  access = 207;
  overrides = 308;
  mux = 209;
  state = 310;
}

rows-read : row_in words ≡ row
unfolding reading words row
rows-read = refl

zeros : HeldRow
zeros = record {
  start = 0;
  end = 0;
  played = 0;
  conn = 0;
  id = 0;
  event = 0;
  prior = 0;
  access = 0;
  overrides = 0;
  mux = 0;
  state = 0;
}

-- words that are not there
none_read : row_in [] ≡ zeros
unfolding reading zeros
none_read = refl

-- "of as many as `lent` has room for, if n are held": of 20 words two rows
as_many : map (λ n. length (rows_read n (replicate 20 0) (replicate 20 0))) (0 ∷ 1 ∷ 2 ∷ 3 ∷ 9 ∷ []) ≡ 0 ∷ 1 ∷ 2 ∷ 2 ∷ 2 ∷ []
unfolding reading
as_many = refl

-- ## Whose it is

whose : row_is 203 304 row ∷ row_is 203 203 row ∷ row_is 304 304 row ∷ row_is 0 304 row ∷ [] ≡ true ∷ false ∷ false ∷ false ∷ []
unfolding reading row
whose = refl

open-as : map (open_as 1 2) (airing true false false ∷ airing false false true ∷ airing true true false ∷ airing false true true ∷ [])
    ∷ map (λ x. open_as 1 x (airing true false true)) (1 ∷ 2 ∷ 3 ∷ 4 ∷ []) ∷ map (λ c. open_as c 2 (airing true false true)) (0 ∷ 1 ∷ 2 ∷ 3
    ∷ []) ∷ []
    ≡ (true ∷ true ∷ false ∷ false ∷ []) ∷ (false ∷ true ∷ false ∷ false ∷ []) ∷ (false ∷ true ∷ false ∷ false ∷ []) ∷ []
unfolding reading airing
open-as = refl

-- ## "the started from the highest AccessType down, then the waiting in order of start"

stands : (state access start : ℕ) → HeldRow
stands f a t = record {
  start = t;
  end = 2;
  played = 2;
  conn = 2;
  id = 2;
  event = 2;
  prior = 2;
  access = a;
  overrides = 2;
  mux = 2;
  state = f;
}

led : Led (stands 1 2 2 ∷ stands 2 1 2 ∷ []) × Led (stands 3 2 2 ∷ []) × (Led (stands 2 9 9 ∷ []) → ⊥)
unfolding stands
led = ((λ e. unlike 1 2 tt e), (λ e. unlike 3 2 tt e), (λ f. f refl))

-- a third that waits but starts with the second, or before the first; a third that is on air
unranked : (Ranked (stands 1 5 1 ∷ stands 3 2 7 ∷ stands 3 2 7 ∷ []) → ⊥)
    × (Ranked (stands 3 2 7 ∷ stands 3 2 8 ∷ stands 3 2 6 ∷ []) → ⊥) × (Ranked (stands 1 5 1 ∷ stands 2 4 1 ∷ stands 2 4 1 ∷ []) → ⊥)
unfolding stands
unranked = (
  (λ r. omega (arith, (r.1.0.0.rises refl).1)),
  (λ r. omega (arith, (r.0.1.0.rises refl).1)),
  (λ r. omega (arith, r.1.0.0.falls refl)),
)

ranked : Ranked (stands 1 5 1 ∷ stands 3 2 7 ∷ []) × Ranked (stands 3 2 7 ∷ stands 3 2 8 ∷ [])
unfolding stands
ranked =
    let first : Behind (stands 1 5 1) (stands 3 2 7) =
    record { under = λ e. unlike 3 1 tt e; falls = λ e. absurd (unlike 3 2 tt e); rises = λ e. absurd (unlike 1 3 tt e) } in
    let second : Behind (stands 3 2 7) (stands 3 2 8) =
    record { under = λ e. unlike 3 1 tt e; falls = λ e. absurd (unlike 3 2 tt e); rises = λ e. (refl, omega arith) } in
    (((first, tt), (tt, tt)), ((second, tt), (tt, tt)))

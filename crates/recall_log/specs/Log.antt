-- 02, CR 12: the lent log, any bytes: "it keeps the good calls .. in the card program's marks". Nothing else is kept, no count and no
-- length.
use Rattle.std.specs.Prelude.{Bool, not, ◌||◌, List, [], ◌∷◌, ℕ, zero, suc, ◌+◌, ◌-◌, eqb, leb, ltb, length}
use Rattle.rules.specs.Calls.{Call}
use Rattle.rules.specs.Card.{Next, calls, ends, stops, next}

-- ## The calls in it, as the card program reads them

-- up to the first byte that begins none; an oversize header ends them too
unfoldable pub stepped : {A : Type 0} → A → (Call → List ℕ → A) → Next → A
stepped none on (calls k l) = on k l
stepped none on (ends k) = none
stepped none on stops = none

-- n calls at most
unfoldable pub calls_in : ℕ → List ℕ → List Call
calls_in zero l = []
calls_in (suc n) l = stepped [] (λ k m. k ∷ calls_in n m) (next l)

-- the bytes that they take
unfoldable pub bytes_in : ℕ → List ℕ → ℕ
bytes_in zero l = 0
bytes_in (suc n) l = stepped 0 (λ k m. (length l - length m) + bytes_in n m) (next l)

-- each call takes two bytes or more, so there are fewer calls than bytes
unfoldable pub kept_calls : List ℕ → List Call
kept_calls l = calls_in (length l) l

unfoldable pub taken : List ℕ → ℕ
taken l = bytes_in (length l) l

abbrev pub free : List ℕ → ℕ
free l = length l - taken l

-- ## 13: "exactly when the log isn't 65,536 bytes, 256 calls are kept or under 4,098 of its bytes are free"

abbrev pub log_length : ℕ
log_length = 65536

abbrev pub most_calls : ℕ
most_calls = 256

-- the longest record: a mark, a connection, and a message of 8 + 4,088 bytes
abbrev pub longest_record : ℕ
longest_record = 4098

unfoldable pub other_length : List ℕ → Bool
other_length l = not (eqb (length l) log_length)

-- any bytes may be lent, so there may be more than 256
unfoldable pub full : List ℕ → Bool
full l = other_length l || (leb most_calls (length (kept_calls l)) || ltb (free l) longest_record)

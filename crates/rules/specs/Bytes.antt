-- 01, Bytes: numbers, the header of a message, strings, and what a lent buffer holds. Assumes nothing.
use Rattle.std.specs.Prelude.{Bool, cond, List, [], ◌∷◌, ◌++◌, ℕ, zero, suc, ◌+◌, ◌-◌, ◌*◌, ◌/◌, ◌%◌, eqb, ltb, length, take, drop}
use Rattle.std.specs.Prelude.{replicate}
use Rattle.rules.specs.Lists.{some, same}

-- "All numbers are big-endian." x in n bytes, the highest first
unfoldable pub bytes : ℕ → ℕ → List ℕ
bytes zero x = []
bytes (suc n) x = bytes n (x / 256) ++ (x % 256 ∷ [])

-- what bytes say, behind what was read before
unfoldable pub value_from : ℕ → List ℕ → ℕ
value_from a [] = a
value_from a (b ∷ l) = value_from (a * 256 + b) l

unfoldable pub value : List ℕ → ℕ
value l = value_from 0 l

-- the n bytes of l from the place a on
abbrev pub part : ℕ → ℕ → List ℕ → List ℕ
part a n l = take n (drop a l)

-- the number that stands there
abbrev pub field : ℕ → ℕ → List ℕ → ℕ
field a n l = value (part a n l)

-- "A message is MessageID 2, MessageSize 2, Result 2, Result_Extension 2, then MessageSize bytes of data."
-- "Result fields of incoming messages are not read."
abbrev pub message_id : List ℕ → ℕ
message_id l = field 0 2 l

abbrev pub message_size : List ℕ → ℕ
message_size l = field 2 2 l

-- the data of a message of that MessageSize: "each is handed on as its own part of what was read"
abbrev pub data_of : ℕ → List ℕ → List ℕ
data_of size l = part 8 size l

-- house number 4: "MessageSize above 4,088"
abbrev pub largest_size : ℕ
largest_size = 4088

abbrev pub oversize : List ℕ → Bool
oversize l = ltb largest_size (message_size l)

-- "A string ends at its first zero byte; bytes after it don't count when names are compared."
abbrev pub has_zero : List ℕ → Bool
has_zero l = some (eqb 0) l

abbrev pub name_in : List ℕ → List ℕ
name_in [] = []
name_in (b ∷ l) = cond (eqb 0 b) [] (b ∷ name_in l)

abbrev pub same_name : List ℕ → List ℕ → Bool
same_name a b = same (name_in a) (name_in b)

-- "Names are written with zeros behind the end."
abbrev pub padded : List ℕ → List ℕ
padded name = name ++ replicate (32 - length name) 0

-- what a buffer holds that held e, once l was written at the place a: "bytes beyond those written stay unchanged"
unfoldable pub written : List ℕ → ℕ → List ℕ → List ℕ
written e a l = take a e ++ l ++ drop (a + length l) e

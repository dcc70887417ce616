-- 02, CR 1: the place behind a request's structures, as the walk over them finds it.
use Rattle.std.specs.Prelude.{cond, List, [], ◌∷◌, ℕ, zero, suc, ◌+◌, eqb, length, drop, Option, Some, None}
use Rattle.rules.specs.Request.{separate_service, service_id}
use Rattle.rules.specs.Streams.{Stream, stream_length, bad_stream, Listed, listed, unlisted, separate_in}

-- "Length counts the whole structure"
abbrev pub size_of : Stream → ℕ
size_of s = 21 + length s.kept

abbrev pub sizes_of : List Stream → ℕ
sizes_of [] = 0
sizes_of (s ∷ l) = size_of s + sizes_of l

-- none where they are bad
unfoldable pub place_of : ℕ → Listed → Option ℕ
place_of at (listed l rest) = Some (at + sizes_of l)
place_of at unlisted = None

-- p: PcrPID 2, PIDCount 4, structures; "the bytes taken": 6 and the Lengths
unfoldable pub streams_end : List ℕ → Option ℕ
streams_end p = place_of 6 (separate_in p)

-- n structures from the place `at` of p on
unfoldable pub end_from : ℕ → ℕ → List ℕ → Option ℕ
end_from zero at p = Some at
end_from (suc n) at p = cond (bad_stream (drop at p)) None (end_from n (at + stream_length (drop at p)) p)

unfoldable pub from : ℕ → Option ℕ → Option ℕ
from a (Some n) = Some (a + n)
from a None = None

-- where the tail of the data d stands
unfoldable pub tail_place : List ℕ → Option ℕ
tail_place d = cond (eqb (service_id d) separate_service) (from 18 (streams_end (drop 18 d))) (Some 18)

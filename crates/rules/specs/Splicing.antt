-- 01, Answering a message, Splice: the session that is asked for, checks b to f in their order, and the acceptance.
use Rattle.std.specs.Prelude.{Bool, true, false, cond, not, ◌&&◌, ◌||◌, List, [], ◌∷◌, ℕ, ◌+◌, max, eqb, leb, ltb, get_or}
use Rattle.rules.specs.declared.Start.{Start}
use Rattle.rules.specs.declared.Start.TheVariants.{Timed, Linked}
use Rattle.rules.specs.declared.Request.{Request}
use Rattle.rules.specs.declared.Session.{Session}
use Rattle.rules.specs.Lists.{some, count, place, insert_at}
use Rattle.rules.specs.Units.{time_of, from_micros, from_ticks}
use Rattle.rules.specs.State.{Queue, empty, of, is, starts_at, starts_after, held, holds, with_waiting}
use Rattle.rules.specs.Request.{nobody}
use Rattle.rules.specs.Records.{Record, SpliceResponse}
use Rattle.rules.specs.Ends.{Turn, and_then, writes, evicted}
use Rattle.rules.specs.Instants.{outranks}

-- the end of number x of connection c among l
abbrev pub end_of : ℕ → ℕ → List Session → ℕ
end_of c x l = (get_or l (place (is c x) l) empty).end.0

-- "A timed start is the request's time; a linked start is the prior session's end."
unfoldable pub start_of : ℕ → Start → Queue → ℕ
start_of c (Timed t) q = (from_micros t).0
start_of c (Linked p) q = end_of c p (held q)

abbrev pub prior_of : Start → ℕ
prior_of (Timed t) = nobody
prior_of (Linked p) = p

-- the session that a request of connection c asks for, its start being t. "End is start plus Duration."
-- 02, CR 5: "sessions carry the value"
unfoldable pub session_at : ℕ → ℕ → Request → Session
session_at t c r =
    record {
      conn = c;
      id = r.id;
      prior = prior_of r.start;
      start = record { 0 = t };
      end = record { 0 = t + (from_ticks r.duration).0 };
      access = r.access;
      overrides = r.overrides;
      mux = r.mux;
      event = r.event;
      played = record { 0 = 0 };
    }

unfoldable pub requested : ℕ → Request → Queue → Session
requested c r q = session_at (start_of c r.start q) c r

-- b. "121: SessionID 0xFFFFFFFF or already held by this connection; or PriorSession neither 0xFFFFFFFF nor held by it."
unfoldable pub unknown_prior : ℕ → Start → Queue → Bool
unknown_prior c (Timed t) q = false
unknown_prior c (Linked p) q = not (holds c p q)

-- "b. 121: SessionID 0xFFFFFFFF or already held by this connection"
abbrev pub wrong_number : ℕ → Request → Queue → Bool
wrong_number c r q = eqb r.id nobody || (holds c r.id q || unknown_prior c r.start q)

-- c. "112: timed, and the start is less than 3 s after the clock."
unfoldable pub too_late : ℕ → Start → Bool
too_late clock (Timed t) = ltb (from_micros t).0 (clock + (from_micros (time_of 3 0)).0)
too_late clock (Linked p) = false

-- d. "109: a waiting session of any connection has the same start and the same or a higher AccessType." 02: "for equals, only at flag 0"
-- 02, CR 4: "check d lets it pass"
unfoldable pub collides : Session → List Session → Bool
collides new w = some (λ s. starts_at new.start.0 s && not (outranks new s)) w

-- e. "114: this connection has 20 waiting; or it has 10 or more and the four counts, each raised to 10 if lower, sum to 64."
abbrev pub waits : ℕ → List Session → ℕ
waits c w = count (of c) w

abbrev pub raised : ℕ → ℕ
raised n = max n 10

-- of the four counts n
abbrev pub sum_of : (ℕ → ℕ) → ℕ
sum_of n = raised (n 0) + (raised (n 1) + (raised (n 2) + raised (n 3)))

-- connection c is full, by the four counts n
abbrev pub full_by : (ℕ → ℕ) → ℕ → Bool
full_by n c = eqb (n c) 20 || (leb 10 (n c) && eqb (sum_of n) 64)

unfoldable pub full : ℕ → List Session → Bool
full c w = full_by (λ d. waits d w) c

-- "with the first that applies"; 02, CR 1: "checks b to f"
-- 02, CR 1: "From here result 110 is no longer met"
abbrev pub first_of : (b c d e : Bool) → ℕ
first_of b c d e = cond b 121 (cond c 112 (cond d 109 (cond e 114 100)))

-- new: the session that r asks for. "Counted before f."
unfoldable pub splice_result : ℕ → ℕ → Request → Session → Queue → ℕ
splice_result clock c r new q =
    first_of (wrong_number c r q) (too_late clock r.start) (collides new q.waiting) (full c q.waiting)

-- before the first that starts later
unfoldable pub inserted : Session → List Session → List Session
inserted s w = insert_at (place (starts_after s.start.0) w) s w

-- the Splice_Response 100 to the request for s
abbrev pub accepts : Session → Record
accepts s = SpliceResponse s.conn 100 s.id

-- "f. 100." "A waiting session with the same start, then lower, is evicted first" (02: or an equal one), "written before the 100"
unfoldable pub accepted : Session → Queue → Turn
accepted s q = and_then (evicted s.start.0 q) (λ u. writes (accepts s ∷ []) (with_waiting (inserted s u.waiting) u))

-- what a Splice_Request did; 02, CR 11: whether it was accepted, and how many places that shifted
pub record Spliced : Type 0 where
  pub turn : Turn
  pub accepted : Bool
  pub moved : ℕ

-- 02, CR 11: "the waiting sessions, after any eviction, whose start is later than the new one's"
unfoldable pub later : Session → Queue → ℕ
later s q = count (starts_after s.start.0) (evicted s.start.0 q).queue.waiting

abbrev pub grants : Session → Queue → Spliced
grants s q = record { turn = accepted s q; accepted = true; moved = later s q }

-- 02, CR 11: "A request not accepted reports 0."
abbrev pub declines : ℕ → ℕ → Request → Queue → Spliced
declines c n r q = record { turn = writes (SpliceResponse c n r.id ∷ []) q; accepted = false; moved = 0 }

unfoldable pub answer_splice : ℕ → ℕ → Request → Queue → Spliced
answer_splice clock c r q =
    let new = requested c r q in
    let n = splice_result clock c r new q in
    cond (eqb n 100) (grants new q) (declines c n r q)

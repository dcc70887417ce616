-- 01, Bytes, Splice_Request: its fields, its tail, what makes it unreadable, and the request that is read.
use Rattle.std.specs.Prelude.{Bool, cond, ◌&&◌, ◌||◌, List, ℕ, eqb, ltb, length, get_or, drop, None, Option, Some}
use Rattle.rules.specs.declared.Start.{Start}
use Rattle.rules.specs.declared.Start.TheVariants.{Timed, Linked}
use Rattle.rules.specs.declared.Request.{Request}
use Rattle.rules.specs.declared.Message.{Message}
use Rattle.rules.specs.declared.Message.TheVariants.{Splice}
use Rattle.rules.specs.Units.{time_of, bad_micros}
use Rattle.rules.specs.Bytes.{field}
use Rattle.rules.specs.Descriptors.{mux_of, is_bad, mux_in}
use Rattle.rules.specs.Streams.{separate_in, rest_of}

-- 0xFFFFFFFF: no number of a session; as a PriorSession it says that the request is timed
abbrev pub nobody : ℕ
nobody = 0xFFFFFFFF

-- "ServiceID 0xFFFF (separate PIDs)"; 02, CR 1: the request names the PIDs itself
abbrev pub separate_service : ℕ
separate_service = 0xFFFF

-- Splice_Request: SessionID 4, PriorSession 4, time 8, ServiceID 2, then the tail
abbrev pub session_id : List ℕ → ℕ
session_id d = field 0 4 d

abbrev pub prior_session : List ℕ → ℕ
prior_session d = field 4 4 d

abbrev pub seconds : List ℕ → ℕ
seconds d = field 8 4 d

abbrev pub micro_seconds : List ℕ → ℕ
micro_seconds d = field 12 4 d

abbrev pub service_id : List ℕ → ℕ
service_id d = field 16 2 d

-- "a Splice_Request's start is in turn either timed or linked"
-- "and a Splice_Request's start is in turn either timed or linked"
unfoldable pub read_start : List ℕ → Start
read_start d = cond (eqb (prior_session d) nobody) (Timed (time_of (seconds d) (micro_seconds d))) (Linked (prior_session d))

-- behind the ServiceID, or behind the structures
-- 02, CR 1: "Read them"
unfoldable pub tail_of : List ℕ → List ℕ
tail_of d = cond (eqb (service_id d) separate_service) (rest_of (separate_in (drop 18 d))) (drop 18 d)

-- The tail: Duration 4, SpliceEventID 4, PostBlack 4, AccessType 1, OverridePlaying 1, ReturnToPriorChannel 1, then descriptors
-- "Duration 4, SpliceEventID 4, PostBlack 4, AccessType 1, OverridePlaying 1, ReturnToPriorChannel 1 (33 bytes)"
abbrev pub duration : List ℕ → ℕ
duration t = field 0 4 t

-- 02, CR 8: "so the session record carries SpliceEventID all its life"
abbrev pub splice_event_id : List ℕ → ℕ
splice_event_id t = field 4 4 t

abbrev pub access_type : List ℕ → ℕ
access_type t = get_or t 12 0

abbrev pub override_playing : List ℕ → ℕ
override_playing t = get_or t 13 0

abbrev pub return_to_prior_channel : List ℕ → ℕ
return_to_prior_channel t = get_or t 14 0

-- "then descriptors"
abbrev pub descriptors_of : List ℕ → List ℕ
descriptors_of t = drop 15 t

-- "or, with ServiceID not 0xFFFF, any of: below 33"
-- "descriptors ill-formed"
-- "Duration 0"
-- "AccessType above 9"
-- "either of OverridePlaying and ReturnToPriorChannel above 1"
-- 02, CR 5: "Refusals: 123 for a bad length or value, at the reading step."
abbrev pub bad_tail : List ℕ → Bool
bad_tail t =
    ltb (length t) 15
    || (is_bad (mux_of (descriptors_of t))
    || (eqb (duration t) 0
    || (ltb 9 (access_type t)
    || (ltb 1 (override_playing t) || ltb 1 (return_to_prior_channel t)))))

-- the data d with the tail t
-- "or PriorSession 0xFFFFFFFF with MicroSeconds above 999,999"
abbrev pub bad_splice : List ℕ → List ℕ → Bool
bad_splice d t = bad_tail t || (eqb (prior_session d) nobody && bad_micros (micro_seconds d))

abbrev pub whole_request : List ℕ → List ℕ → Request
whole_request d t =
    record {
      id = session_id d;
      start = read_start d;
      duration = record { 0 = duration t };
      event = splice_event_id t;
      access = access_type t;
      overrides = override_playing t;
      mux = mux_in (mux_of (descriptors_of t));
    }

unfoldable pub read_whole : List ℕ → List ℕ → Option Message
read_whole d t = cond (bad_splice d t) None (Some (Splice (whole_request d t)))

-- "Splice data below 18 bytes"
unfoldable pub read_splice : List ℕ → Option Message
read_splice d = cond (ltb (length d) 18) None (read_whole d (tail_of d))

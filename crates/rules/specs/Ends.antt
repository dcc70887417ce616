-- 01, Instants (last paragraph): followers, and how sessions end by eviction, abort and close.
use Rattle.std.specs.Prelude.{Bool, cond, List, [], ◌∷◌, ◌++◌, map, ℕ, zero, suc, ltb, length, get_or}
use Rattle.rules.specs.declared.Session.{Session}
use Rattle.rules.specs.declared.Ending.{Ending}
use Rattle.rules.specs.declared.Ending.TheVariants.{Complete, Failed, Response}
use Rattle.rules.specs.declared.Past.{Past}
use Rattle.rules.specs.Lists.{put, keep, omit, place, remove_at}
use Rattle.rules.specs.Units.{to_ticks}
use Rattle.rules.specs.State.{Queue, empty, of, is, follows, starts_at, with_waiting, with_lately}
use Rattle.rules.specs.Recent.{remembered_all}
use Rattle.rules.specs.Records.{Record, SpliceResponse, SpliceComplete, result_of}

-- a queue after some of the work, and the records which that wrote
pub record Turn : Type 0 where
  pub queue : Queue
  pub written : List Record

abbrev pub quiet : Queue → Turn
quiet q = record { queue = q; written = [] }

-- some work, and more from where it ended
unfoldable pub and_then : Turn → (Queue → Turn) → Turn
and_then t f = record { queue = (f t.queue).queue; written = t.written ++ (f t.queue).written }

abbrev pub writes : List Record → Queue → Turn
writes rs q = record { queue = q; written = rs }

-- ## The end of a session

-- "A session's end is its SpliceComplete with flag 1, or its SpliceComplete with flag 0 and 109, or a Splice_Response 109 (evicted, or its
-- prior ended so or failed) or 116", 02: or 125. "PlayedDuration is time on air only, summed in ninths, divided by 100, rounded down."
-- "(a session's record: the one that requested it)"
abbrev pub ended : Ending → Session → Record
ended (Complete r) s = SpliceComplete s.conn r s.id 1 (to_ticks s.played).0
ended Failed s = SpliceComplete s.conn 109 s.id 0 0
ended (Response r) s = SpliceResponse s.conn r s.id

-- 02, CR 8: "connection, SessionID, SpliceEventID, result, PlayedDuration (0 if never on air)": the result of its record, and its time on
-- air whatever that shows
abbrev pub past : Ending → Session → Past
past how s =
    record { conn = s.conn; id = s.id; event = s.event; result = result_of (ended how s); played = (to_ticks s.played).0 }

-- some ends, in the order of their records: the list of what `end` makes of each
abbrev pub Ends : Type 1
Ends = (A : Type 0) → (end : Ending → Session → A) → List A

-- they are written, and kept: the one place where that is done
abbrev pub ending : Ends → Queue → Turn
ending es q =
    record { queue = with_lately (remembered_all (es Past past) q.lately) q; written = es Record ended }

-- one session ends
abbrev pub one_end : Ending → Session → Ends
one_end how s A end = end how s ∷ []

-- all of l end alike
abbrev pub all_end : Ending → List Session → Ends
all_end how l A end = map (end how) l

-- the ends of those of the started ones that pass p, from the highest AccessType down, each by what it was:
-- air for the one on air, cover for the covered
unfoldable pub endings : (air cover : Ending) → (Session → Bool) → List Session → Ends
endings air cover p [] A end = []
endings air cover p (s ∷ k) A end = put (p s) (end air s) (map (end cover) (keep p k))

-- ## Followers

pub record Walk : Type 0 where
  pub gone : List Session
  pub left : List Session

-- "the waiting ones that reach it through PriorSession, link by link and over waiting ones only, within its connection":
-- from number x of connection c to the one behind it, n links at most
-- "Followers of a session are the waiting ones that reach it through PriorSession, link by link"
unfoldable pub walk : ℕ → ℕ → ℕ → List Session → Walk
walk zero c x w = record { gone = []; left = w }
walk (suc n) c x w =
    let i = place (follows c x) w in
    let s = get_or w i empty in
    let on : Walk = walk n c s.id (remove_at i w) in
    cond (ltb i (length w)) (record { gone = s ∷ on.gone; left = on.left }) (record { gone = []; left = w })

-- each link takes one that waits, so there are at most as many
unfoldable pub followers : ℕ → ℕ → List Session → Walk
followers c x w = walk (length w) c x w

-- "Followers' ends are Splice_Response 109, or 116 after an abort or close, in order of start." 02: 125 after an end by an equal one's
-- start
-- "(a started session's PriorSession no longer counts, as that number may have a new holder)"
unfoldable pub dismissed : (result conn id : ℕ) → Queue → Turn
dismissed r c x q =
    let f = followers c x q.waiting in
    ending (all_end (Response r) f.gone) (with_waiting f.left q)

-- ## Eviction

-- the waiting session at the place i ends with 109, and its waiting followers
unfoldable pub evicted_at : ℕ → Queue → Turn
evicted_at i q =
    let s = get_or q.waiting i empty in
    and_then (ending (one_end (Response 109) s) (with_waiting (remove_at i q.waiting) q)) (dismissed 109 s.conn s.id)

-- "A waiting session with the same start, then lower" (02: or equal) "is evicted first: it and its waiting followers end (109)"
-- 02, CR 4: "and f evicts the waiting equal as it does a lower one"
unfoldable pub evicted : ℕ → Queue → Turn
evicted t q =
    let i = place (starts_at t) q.waiting in
    cond (ltb i (length q.waiting)) (evicted_at i q) (quiet q)

-- ## Abort and close

-- "An aborted session on air ends with SpliceComplete flag 1, result 116; a covered or waiting one with Splice_Response 116."
-- "Close ends, as by abort, the connection's started sessions from the highest AccessType down, each by what it was before
-- the close (on air or covered), then all its waiting ones by start": all that pass p
unfoldable pub cancelled : (Session → Bool) → Queue → Turn
cancelled p q =
    ending (λ A end. endings (Complete 116) (Response 116) p q.started A end ++ all_end (Response 116) (keep p q.waiting) A end)
    (record { waiting = omit p q.waiting; started = omit p q.started; lately = q.lately })

-- "the session's end and after it its followers' ends"
unfoldable pub aborted : ℕ → ℕ → Queue → Turn
aborted c x q = and_then (cancelled (is c x) q) (dismissed 116 c x)

-- "followers among them, each once"
unfoldable pub closed_by : ℕ → Queue → Turn
closed_by c q = cancelled (of c) q

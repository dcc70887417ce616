-- 01's work over an unordered list of verdicts: followers from call to call, ends and waiting ones by looking for the next,
-- the one on air as the one than which none is higher. Nothing is kept in order, moved or removed.
use Rattle.std.specs.Prelude.{Bool, true, false, cond, not, ◌&&◌, ◌||◌, List, [], ◌∷◌, ◌++◌, map, ℕ, zero, suc, ◌-◌, ◌*◌, eqb, ltb, length}
use Rattle.std.specs.Prelude.{set}
use Rattle.rules.specs.declared.Session.{Session}
use Rattle.rules.specs.declared.Ending.{Ending}
use Rattle.rules.specs.declared.Ending.TheVariants.{Complete, Failed, Response}
use Rattle.rules.specs.declared.Start.{Start}
use Rattle.rules.specs.declared.Start.TheVariants.{Timed, Linked}
use Rattle.rules.specs.declared.Request.{Request}
use Rattle.rules.specs.Units.{from_micros}
use Rattle.rules.specs.Lists.{some, count}
use Rattle.rules.specs.Request.{nobody}
use Rattle.rules.specs.State.{of, is, follows, starts_at, starts_after, ends_at, sooner, earliest, not_after}
use Rattle.rules.specs.Records.{Record, SpliceResponse, AbortResponse}
use Rattle.rules.specs.Ends.{ended}
use Rattle.rules.specs.Instants.{outranks, began, playing, onwards}
use Rattle.rules.specs.Splicing.{session_at, too_late, full_by, first_of, accepts}
use Rattle.rules.specs.Answers.{latest, recalls}
use Rattle.recall_rules.specs.Verdicts.{Phase, Out, Waits, Started, is_waiting, has_started, is_held, Verdict, verdict, standing, which}
use Rattle.recall_rules.specs.Verdicts.{session_of, turned, over, first, recent}
use Rattle.std.specs.declared.option.Option.{Option}
use Rattle.rules.specs.declared.Ninths.{Ninths}

-- the verdicts after some of the work, and the records which that wrote
pub record Turn : Type 0 where
  pub verdicts : List Verdict
  pub written : List Record

abbrev pub quiet : List Verdict → Turn
quiet l = record { verdicts = l; written = [] }

abbrev pub writes : List Record → List Verdict → Turn
writes rs l = record { verdicts = l; written = rs }

-- some work, and more from where it ended
unfoldable pub and_then : Turn → (List Verdict → Turn) → Turn
and_then t f = record { verdicts = (f t.verdicts).verdicts; written = t.written ++ (f t.verdicts).written }

-- ## Who leaves

pub record Walk : Type 0 where
  pub gone : List Session
  pub left : List Verdict

-- "link by link and over waiting ones only, within its connection": from number x of connection c to the call behind it, n links at most
unfoldable pub walk : Ending → ℕ → ℕ → ℕ → List Verdict → Walk
walk e zero c x l = record { gone = []; left = l }
walk e (suc n) c x l =
    let i = which is_waiting (follows c x) l in
    let on : Walk = walk e n c (session_of l i).id (over e i l) in
    cond (ltb i (length l)) (record { gone = session_of l i ∷ on.gone; left = on.left }) (record { gone = []; left = l })

-- those that stand so and pass p end, each time the one that none comes before, and each as `how` says; n at most
unfoldable pub leaving : (Phase → Bool) → (Session → Session → Bool) → (Session → Bool) → (Session → Ending) → ℕ → List Verdict → Walk
leaving h before p how zero l = record { gone = []; left = l }
leaving h before p how (suc n) l =
    let i = which h (first h before p l) l in
    let on : Walk = leaving h before p how n (over (how (session_of l i)) i l) in
    cond (ltb i (length l)) (record { gone = session_of l i ∷ on.gone; left = on.left }) (record { gone = []; left = l })

-- "by start"
abbrev pub earlier : Session → Session → Bool
earlier u s = ltb u.start.0 s.start.0

-- the strict order of AccessTypes, whatever decides between equals at a start
abbrev pub higher : Session → Session → Bool
higher u s = ltb s.access u.access

-- "from the highest AccessType down"
unfoldable pub started_ones : (Session → Bool) → (Session → Ending) → List Verdict → Walk
started_ones p how l = leaving has_started higher p how (length l) l

unfoldable pub waiting_ones : (Session → Bool) → Ending → List Verdict → Walk
waiting_ones p e l = leaving is_waiting earlier p (λ s. e) (length l) l

-- of the started ones, the one on air is the one with the highest AccessType
abbrev pub airs : List Verdict → Session → Bool
airs l s = not (some (λ u. higher u s) (standing has_started l))

abbrev pub on_air : List Verdict → ℕ
on_air l = which has_started (airs l) l

-- an end by what the session was: on air or covered
abbrev pub as_was : (air cover : Ending) → List Verdict → Session → Ending
as_was air cover l s = cond (airs l s) air cover

-- the records of those that left
abbrev pub endings : (Session → Ending) → Walk → List Record
endings how f = map (λ s. ended (how s) s) f.gone

-- ## Followers, eviction, abort and close

-- "Followers' ends are Splice_Response 109, or 116 after an abort or close, in order of start." 02: 125 after an end by an equal one's
-- start
unfoldable pub dismissed : (result conn id : ℕ) → List Verdict → Turn
dismissed r c x l =
    let f = walk (Response r) (length l) c x l in
    writes (endings (λ s. Response r) f) f.left

-- "A waiting session with the same start, then lower" (02: or equal) "is evicted first: it and its waiting followers end (109)"
unfoldable pub evicted : ℕ → List Verdict → Turn
evicted t l =
    let i = which is_waiting (starts_at t) l in
    let s = session_of l i in
    cond (ltb i (length l))
    (and_then (writes (ended (Response 109) s ∷ []) (over (Response 109) i l)) (dismissed 109 s.conn s.id))
    (quiet l)

-- "An aborted session on air ends with SpliceComplete flag 1, result 116; a covered or waiting one with Splice_Response 116." "Close ends,
-- as
-- by abort, the connection's started sessions from the highest AccessType down, each by what it was before the close (on air or covered),
-- then all its waiting ones by start": all that pass p
unfoldable pub cancelled : (Session → Bool) → List Verdict → Turn
cancelled p l =
    let how = as_was (Complete 116) (Response 116) l in
    let a = started_ones p how l in
    let b = waiting_ones p (Response 116) a.left in
    writes (endings how a ++ endings (λ s. Response 116) b) b.left

-- "the session's end and after it its followers' ends"
unfoldable pub aborted : ℕ → ℕ → List Verdict → Turn
aborted c x l = and_then (cancelled (is c x) l) (dismissed 116 c x)

-- "followers among them, each once"
unfoldable pub closed_by : ℕ → List Verdict → Turn
closed_by c l = cancelled (of c) l

-- ## Instants

-- "with nothing on air, or with OverridePlaying 1 and AccessType higher than the one on air", 02: or equal; so than all that have started
unfoldable pub may_start : Session → List Verdict → Bool
may_start s l =
    not (some (λ u. true) (standing has_started l)) || (eqb s.overrides 1 && not (some (λ u. not (outranks s u)) (standing has_started l)))

-- 02: "at a start the equal one on air ends at once, SpliceComplete flag 1, result 125, and its waiting followers end with
-- Splice_Response 125 .. It isn't resumed"
unfoldable pub ousted : Session → List Verdict → Turn
ousted s l =
    let i = on_air l in
    let air = session_of l i in
    cond (ltb i (length l) && eqb air.access s.access)
    (and_then (writes (ended (Complete 125) air ∷ []) (over (Complete 125) i l)) (dismissed 125 air.conn air.id))
    (quiet l)

-- call i, which no longer waits, starts ("all before the new start's record")
unfoldable pub started : ℕ → List Verdict → Turn
started i l =
    let s = session_of l i in
    and_then (ousted s (turned i Out l)) (λ m. writes (began s ∷ []) (set m i (verdict Started s)))

-- "Otherwise it fails: SpliceComplete flag 0, result 109, PlayedDuration 0, and its waiting followers end."
unfoldable pub failed : ℕ → List Verdict → Turn
failed i l =
    let s = session_of l i in
    and_then (writes (ended Failed s ∷ []) (over Failed i l)) (dismissed 109 s.conn s.id)

unfoldable pub launched : ℕ → List Verdict → Turn
launched i l = cond (may_start (session_of l i) l) (started i l) (failed i l)

-- "the one possible start"
unfoldable pub start_at : ℕ → List Verdict → Turn
start_at t l =
    let i = which is_waiting (starts_at t) l in
    cond (ltb i (length l)) (launched i l) (quiet l)

-- "SpliceComplete flag 1; result 100 if it was on air just before the instant, 125 if covered."
unfoldable pub end_at : ℕ → List Verdict → Turn
end_at t l =
    let how = as_was (Complete 100) (Complete 125) l in
    let a = started_ones (ends_at t) how l in
    writes (endings how a) a.left

-- "At one instant, ends come first, from the highest AccessType down, then the one possible start."
unfoldable pub instant : ℕ → List Verdict → Turn
instant t l = and_then (end_at t l) (start_at t)

-- the one on air has played d ninths more
unfoldable pub elapse : ℕ → List Verdict → List Verdict
elapse d l =
    let i = on_air l in
    cond (ltb i (length l)) (set l i (verdict Started (playing d (session_of l i)))) l

-- the next start or end: the earliest of those that have started or wait
unfoldable pub due : List Verdict → Option Ninths
due l = sooner (earliest (λ s. s.end) (standing has_started l)) (earliest (λ s. s.start) (standing is_waiting l))

-- "A tick works through every start and end not later than its time, in order of time": from the time now to until, n instants at most
unfoldable pub run : ℕ → ℕ → ℕ → List Verdict → Turn
run zero now until l = quiet (elapse (until - now) l)
run (suc n) now until l =
    let on : ℕ → Turn = λ t. and_then (instant t (elapse (t - now) l)) (run n t until) in
    onwards on (quiet (elapse (until - now) l)) (not_after until (due l))

-- each call has one start and one end
unfoldable pub run_all : ℕ → ℕ → List Verdict → Turn
run_all now until l = run (2 * length l) now until l

-- ## Splice and abort

abbrev pub holds : ℕ → ℕ → List Verdict → Bool
holds c x l = some (is c x) (standing is_held l)

-- "A timed start is the request's time; a linked start is the prior session's end."
unfoldable pub start_of : ℕ → Start → List Verdict → ℕ
start_of c (Timed t) l = (from_micros t).0
start_of c (Linked p) l = (session_of l (which is_held (is c p) l)).end.0

unfoldable pub requested : ℕ → Request → List Verdict → Session
requested c r l = session_at (start_of c r.start l) c r

-- b. "121: SessionID 0xFFFFFFFF or already held by this connection; or PriorSession neither 0xFFFFFFFF nor held by it."
unfoldable pub unknown_prior : ℕ → Start → List Verdict → Bool
unknown_prior c (Timed t) l = false
unknown_prior c (Linked p) l = not (holds c p l)

unfoldable pub wrong_number : ℕ → Request → List Verdict → Bool
wrong_number c r l = eqb r.id nobody || (holds c r.id l || unknown_prior c r.start l)

-- d. "109: a waiting session of any connection has the same start and the same or a higher AccessType." 02: "for equals, only at flag 0"
unfoldable pub collides : Session → List Verdict → Bool
collides new l = some (λ s. starts_at new.start.0 s && not (outranks new s)) (standing is_waiting l)

-- e. "114: this connection has 20 waiting; or it has 10 or more and the four counts, each raised to 10 if lower, sum to 64."
abbrev pub waits : ℕ → List Verdict → ℕ
waits c l = count (of c) (standing is_waiting l)

unfoldable pub full : ℕ → List Verdict → Bool
full c l = full_by (λ d. waits d l) c

-- "with the first that applies"
unfoldable pub splice_result : ℕ → ℕ → Request → Session → List Verdict → ℕ
splice_result clock c r new l = first_of (wrong_number c r l) (too_late clock r.start) (collides new l) (full c l)

-- f. "100", what is evicted "written before the 100"; the new verdict stands behind the others
unfoldable pub accepted : Session → List Verdict → Turn
accepted s l = and_then (evicted s.start.0 l) (λ m. writes (accepts s ∷ []) (m ++ (verdict Waits s ∷ [])))

-- what a Splice_Request did; 02, CR 11: whether it was accepted, and how many start later
pub record Spliced : Type 0 where
  pub turn : Turn
  pub accepted : Bool
  pub moved : ℕ

-- 02, CR 11: "the waiting sessions, after any eviction, whose start is later than the new one's"
unfoldable pub later : Session → List Verdict → ℕ
later s l = count (starts_after s.start.0) (standing is_waiting (evicted s.start.0 l).verdicts)

abbrev pub grants : Session → List Verdict → Spliced
grants s l = record { turn = accepted s l; accepted = true; moved = later s l }

-- 02, CR 11: "A request not accepted reports 0."
abbrev pub declines : ℕ → ℕ → Request → List Verdict → Spliced
declines c n r l = record { turn = writes (SpliceResponse c n r.id ∷ []) l; accepted = false; moved = 0 }

unfoldable pub answer_splice : ℕ → ℕ → Request → List Verdict → Spliced
answer_splice clock c r l =
    let new = requested c r l in
    let n = splice_result clock c r new l in
    cond (eqb n 100) (grants new l) (declines c n r l)

-- "Abort_Response 121 if this connection doesn't hold the SessionID; else 100, then the session's end and after it its followers' ends"
unfoldable pub answer_abort : ℕ → ℕ → List Verdict → Turn
answer_abort c x l =
    cond (holds c x l)
    (and_then (writes (AbortResponse c 100 x ∷ []) l) (aborted c x))
    (writes (AbortResponse c 121 x ∷ []) l)

-- ## Alive

-- "State 2 and the SessionID on air, or State 1 and 0xFFFFFFFF"
unfoldable pub air_state : List Verdict → ℕ
air_state l = cond (ltb (on_air l) (length l)) 2 1

unfoldable pub air_id : List Verdict → ℕ
air_id l = cond (ltb (on_air l) (length l)) (session_of l (on_air l)).id nobody

-- ## 02, CR 6: the feed on air

-- the insertion's exactly where Alive's State is 2: 0 the primary's, 1 the insertion's
unfoldable pub air_feed : List Verdict → ℕ
air_feed l = cond (ltb (on_air l) (length l)) 1 0

-- ## 02, CR 8: what ended lately

-- "the asking connection's latest ended session of that number"; "121 with the SessionID alone where none is kept"
unfoldable pub extended_response : ℕ → ℕ → List Verdict → Record
extended_response c x l = recalls c x (latest c x (recent l))

-- The customer's demands as theorems about the definitions of `rules`, for all sequences of calls, each under its sentence;
-- `demands_engine` and `demands_door` have them of the real calls. What the statements speak of stands in specs/Told and specs/History. No
-- axiom, no hole.
mod Words
use Words.*

-- ## "Over all sequences of opens, closes, messages and ticks from a fresh splicer"

-- FromFresh h s: some calls from a fresh splicer, with their answers' bytes, are h, and s is the splicer then. Any name of 32 bytes, any
-- calls:
pub any-calls : (name : List ℕ) → length name ≡ 32 → All Byte name → (ks : List Call) → All Wired ks
    → FromFresh (history ks (fresh name).splicer) (after ks (fresh name).splicer)
any-calls name e a ks w = record { name = name; whole = e; bytes = a; calls = ks; wired = w; heard = refl; same = refl }

-- and any calls more
pub more-calls : (h : List Event) (s : Splicer) → FromFresh h s → (js : List Call) → All Wired js
    → FromFresh (h ++ history js s) (after js s)
more-calls = from_more

-- ## Demand 1

-- "A bad call gets its number from document 01": the first that applies, in 01's order; 0 stands for a good call
pub bad-call-number : (s : Splicer) (k : Call) → number_of (call k s).answer ≡ first_number (checks k s)
bad-call-number = first-number

-- "and the splicer and the lent buffers stay as they were before it"
pub bad-call-changes-nothing : (s : Splicer) (k : Call) (n : Refusal) → (call k s).answer ≡ refused n → Unchanged s (call k s)
bad-call-changes-nothing = unchanged

-- the same of fresh: number 9 for a name without a zero byte, and the splicer of an empty name
pub bad-name-number : (name : List ℕ) → number_of (fresh name).answer ≡ cond (has_zero name) 0 9
bad-name-number = fresh-number

pub bad-name-gives-empty : (name : List ℕ) → has_zero name ≡ false → fresh name ≡ refuse BadName (named [])
bad-name-gives-empty = fresh-refused

-- "every call takes every input": no answer is longer than 3,174 bytes, so the 4,096 that a good call has are enough
pub answers-fit : (h : List Event) (s : Splicer) → FromFresh h s → (k : Call) → length (written_by (call k s).answer) ≤ 3174
answers-fit h s f k = sound-size s (from-sound h s f) k

-- ## Demand 2, the codes of a Splice_Request

-- "An accepted request is accepted because the rules accept it; a refused one carries the first result code that applies.": the last record
-- in
-- the bytes of the answer is the Splice_Response with the code of 01's b to f
pub first-code-applies : (h : List Event) (s : Splicer) → FromFresh h s → (c : ℕ) (l : List ℕ) (loans : Loans) (r : Request)
    → Asks c l loans r s
    → own_answer (answers (splice_result s.clock c r (requested c r s.queue) s.queue) c r.id)
    (records_in (written_by (call (messages c l loans) s).answer)) ≡ true
first-code-applies h s f c l loans r a = own-answer c l loans r s a h f

-- A request that is read passes b to d (a is gone: 02, CR 1), or its answer is the first of their codes that applies. proofs/Witness has
-- one of each
pub earlier-or-passes : (h : List Event) (s : Splicer) → FromFresh h s → (c : ℕ) (l : List ℕ) (loans : Loans) (r : Request)
    → Asks c l loans r s
    → Passes c r s ⊎ ((earlier_code c r s ≡ 100 → ⊥)
    × (own_answer (answers (earlier_code c r s) c r.id) (records_in (written_by (call (messages c l loans) s).answer)) ≡ true))
earlier-or-passes h s f c l loans r a = passes-or-earlier c l loans r s a h f

-- 02, CR 1: "From here result 110 is no longer met": the result of every record in the bytes of every answer is one of 100, 102, 103, 104,
-- 109,
-- 112, 114, 116, 117, 120, 121, 123, 125; of a Cue_Request, which is no answer, 0xFFFF
pub codes-given : (h : List Event) (s : Splicer) → FromFresh h s → (k : Call) → Wired k
    → All Coded (records_in (written_by (call k s).answer))
codes-given h s f k w = rw (sound-found s k w (from-sound h s f)) (call-coded k s)

-- ## Demand 3

-- "take a connection's waiting sessions from the answers alone: accepted since it was opened, less those whose start or end was written.
-- That count never passes 20."
pub count-never-passes-20 : (h : List Event) (s : Splicer) → FromFresh h s → (c : ℕ) → waiting_count c h ≤ 20
count-never-passes-20 = count_room

-- "A request that passes every earlier check in 01's order is refused for a full queue exactly when the count is 20, or when it is at least
-- 10
-- and the four counts, each taken as at least 10, add up to 64." Else it is accepted
pub full-exactly-when : (h : List Event) (s : Splicer) → FromFresh h s → (c : ℕ) (l : List ℕ) (loans : Loans) (r : Request)
    → Asks c l loans r s → Passes c r s
    → own_answer (answers (cond (full_told c h) 114 100) c r.id) (records_in (written_by (call (messages c l loans) s).answer)) ≡ true
full-exactly-when = full-answer

-- "No accepted session gets a second end, and each gets exactly one end, at the latest when the clock is brought to its end time or its
-- connection closes." 02: "Demand 3's one end now includes these records", those of an equal one's start: flag 1 with 125, Splice_Response
-- 125
pub one_end : (h : List Event) (s : Splicer) → FromFresh h s → All (Ended (clock_after h 0)) (book h [])
one_end = all-ended

-- An end in an answer's bytes, 125 by an equal one's start among them, a Splice_Request's own answer apart, is of an accepted session that
-- had
-- none: it is neither a second end nor the end of a number that nobody was granted
pub ends-are-owed : (c x : ℕ) (h : List Event) (s : Splicer) → FromFresh h s → (k : Call) → Wired k
    → ends_of c x (others_of k (records_in (written_by (call k s).answer))) ≤ unended c x (book h [])
ends-are-owed = ends-accepted

-- The incident: "the completion routine then wrote the old spot's end under the new SessionID. Two operators' as-run logs listed a spot
-- that
-- never aired." A SpliceComplete flag 1 is written only under a number whose start is written, since its last end or by the same call
pub only-aired-is-listed : (c x : ℕ) (h : List Event) (s : Splicer) → FromFresh h s → (k : Call) → Wired k
    → outs_of c x (records_in (written_by (call k s).answer)) ≤ started_told c x h 0 + starts_of c x
    (records_in (written_by (call k s).answer))
only-aired-is-listed = outs-started

-- "An ad server dropped its connection with its spot on air." Once connection c has closed, by a good call, its sessions of before stand in
-- the book as they stood, each with its one end, whatever calls follow: what is written later, 125 too, counts for newer sessions only
pub closed-stays-ended : (h : List Event) (s : Splicer) → FromFresh h s → (c room : ℕ) → number_of (call (closes c room) s).answer ≡ 0
    → (js : List Call) → All Wired js
    → Stands c (book (h ++ history (closes c room ∷ []) s) []) (book (h ++ history (closes c room ∷ js) s) [])
closed-stays-ended = close-stands

-- ## 02, CR 5

-- "sessions carry the value": the length and the value of each descriptor are judged at the reading step, so every session held has 1 to 10
pub mux-in-range : (h : List Event) (s : Splicer) → FromFresh h s → Each MuxInRange s.queue
mux-in-range = held-in-range

-- "the caller can read that of the one on air, 5 with none": it is what the bytes of the request asked that was last accepted under the
-- number
-- on air, so Alive_Response's SessionID and this value are of one session
pub air-mux-told : (h : List Event) (s : Splicer) → FromFresh h s → air_mux s.queue.started ≡ air_mux_told s.queue.started (book h [])
air-mux-told = air-told

-- and it is 1 to 10, the 5 of "none" too
pub air-mux-in-range : (h : List Event) (s : Splicer) → FromFresh h s → (1 ≤ air_mux s.queue.started) × (air_mux s.queue.started ≤ 10)
air-mux-in-range = air-in-range

-- ## 02, CR 7

-- a cue call changes nothing, whether it is good or refused
pub cue-changes-nothing : (s : Splicer) (l : List ℕ) (pts seconds micros room : ℕ) → (call (cues l pts seconds micros room) s).splicer ≡ s
cue-changes-nothing = cue-same

-- no record of it is a start, an end or an own answer: the waiting counts, the book, the clock, what has started, who owned each ninth,
-- what
-- has ended and what is kept are with it what they were without it
pub cue-counts-nothing : (h : List Event) (s : Splicer) → FromFresh h s → (l : List ℕ) (pts seconds micros room : ℕ) → All Byte l
    → Alike h (h ++ history (cues l pts seconds micros room ∷ []) s)
cue-counts-nothing = counts-nothing

-- of a good one: "to every initialised connection, from 0 upward", each once, and to no other
pub cue-to-whom : (h : List Event) (s : Splicer) → FromFresh h s → (l : List ℕ) (pts seconds micros room : ℕ) → All Byte l
    → number_of (call (cues l pts seconds micros room) s).answer ≡ 0
    → map conn_of (records_in (written_by (call (cues l pts seconds micros room) s).answer)) ≡ concerned (read_cue l) s
cue-to-whom = to-whom

-- and which records those are: 117 for a bad section, else the Cue_Request with the cue's time (`cue-time` of `cues/proofs/Times`)
pub cue-records : (h : List Event) (s : Splicer) → FromFresh h s → (l : List ℕ) (pts seconds micros room : ℕ) → All Byte l
    → number_of (call (cues l pts seconds micros room) s).answer ≡ 0
    → records_in (written_by (call (cues l pts seconds micros room) s).answer)
    ≡ cue_records (read_cue l) (cue_time pts seconds micros (read_cue l)) l (initialised_ones s.links)
cue-records = told-records

-- "the whole section as it came": each Cue_Request's bytes from the 19th on
pub cue-whole : (h : List Event) (s : Splicer) → FromFresh h s → (l : List ℕ) (pts seconds micros room : ℕ) → All Byte l
    → All (Carries l) (records_in (written_by (call (cues l pts seconds micros room) s).answer))
cue-whole = whole-section

-- ## Document 02, CR 8

-- "the last 16 ended sessions": what is kept is, newest first, the first 16 of the ends that the answers tell; connection, SessionID and
-- result
-- from each end record that is no Splice_Request's own answer, SpliceEventID from the request that its connection last had accepted under
-- that
-- SessionID, PlayedDuration from the record, or of a Splice_Response, which shows none, from the session's time on air, counted from the
-- history
-- as CR 13 counts it: 0 where its start was never written
pub kept-as-told : (h : List Event) (s : Splicer) → FromFresh h s → KeptAs (recent s.queue.lately) (ends_told h)
kept-as-told = lately-told

-- each accepted session that has ended makes one of them, and one that has not ended none
pub one-kept-for-each : (h : List Event) (s : Splicer) → FromFresh h s → (c x : ℕ)
    → count (of_number c x) (ends_told h) ≡ ended_once c x (book h [])
one-kept-for-each = one-kept-each

-- "answered with the asking connection's latest ended session of that number", "121 .. where none is kept": the first of what ended lately,
-- newest first, with the asking connection and the number, or 121 exactly when there is none
pub extended-answered : (h : List Event) (s : Splicer) → FromFresh h s → (c : ℕ) (l : List ℕ) (loans : Loans) (x : ℕ)
    → Inquires c l loans x s
    → Finds c x (recent s.queue.lately) (written_by (call (messages c l loans) s).answer)
extended-answered h s f c l loans x a = extended-recalled c l loans x s a h f

-- and so, from bytes to bytes: of the sixteen latest ends that the answers tell, the first with the asking connection and the number, or
-- 121
pub extended-told : (h : List Event) (s : Splicer) → FromFresh h s → (c : ℕ) (l : List ℕ) (loans : Loans) (x : ℕ) → Inquires c l loans x s
    → records_in (written_by (call (messages c l loans) s).answer) ≡ answer_told c x (take most_kept (ends_told h)) ∷ []
extended-told h s f c l loans x a = extended-of-told c x h s f l loans a

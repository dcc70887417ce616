-- What the demands' statements speak of, beside the definitions of `rules`.
use Rattle.std.specs.Prelude.{◌≡◌, Bool, true, false, cond, ◌&&◌, List, [], ◌∷◌, ◌++◌, ℕ, ◌+◌, ◌-◌, ◌≤◌, ◌<◌, eqb, ltb, length, get_or, Ok}
use Rattle.std.specs.Prelude.{drop}
use Rattle.rules.specs.declared.Request.{Request}
use Rattle.rules.specs.declared.Cue.{Cue}
use Rattle.rules.specs.declared.Cue.TheVariants.{At, Timeless, Silent, Bad}
use Rattle.rules.specs.declared.Session.{Session}
use Rattle.rules.specs.declared.Past.{Past}
use Rattle.rules.specs.declared.Message.TheVariants.{Splice, Extended}
use Rattle.rules.specs.Units.{time_of, bad_micros, from_micros}
use Rattle.rules.specs.Lists.{All, keep, some, count}
use Rattle.rules.specs.Follows.Wires.{Byte}
use Rattle.rules.specs.Bytes.{message_size, oversize}
use Rattle.rules.specs.Descriptors.{average_mux}
use Rattle.rules.specs.Reading.{splice_request, extended_request, read_extended}
use Rattle.rules.specs.Request.{read_splice}
use Rattle.rules.specs.Follows.ReadBack.{data_in}
use Rattle.rules.specs.State.{Splicer, link_of, is_open, is_initialised}
use Rattle.rules.specs.Recent.{unused}
use Rattle.rules.specs.Records.{Record, General, InitResponse, AliveResponse, SpliceResponse, SpliceComplete, AbortResponse, CueRequest}
use Rattle.rules.specs.Records.{ExtendedFound, ExtendedNone, ConfigResponse, record_bytes}
use Rattle.rules.specs.Follows.ReadBack.{records_in}
use Rattle.rules.specs.Cues.{bad_section}
use Rattle.rules.specs.Splicing.{full_by, first_of, requested, wrong_number, too_late, collides}
use Rattle.rules.specs.Answers.{is_past}
use Rattle.rules.specs.HouseNumbers.{house_number, Answer, refused, good, Called, written_by, consumed_by, buffer_after, no_connection}
use Rattle.rules.specs.HouseNumbers.{no_room}
use Rattle.rules.specs.HouseNumbers.{not_open}
use Rattle.rules.specs.HouseNumbers.{long_section, Loans}
use Rattle.rules.specs.Calls.{fresh, framing, Call, opens, closes, messages, ticks, moves, cues, after}
use Rattle.demands.specs.History.{Reply, refusal, wrote, Event, Entry, entry_is, mux_told, starts_of, ends_of, history, granted_in}
use Rattle.demands.specs.History.{waiting_count, tells, others_of}
use Rattle.rules.specs.Follows.Sound.{Wired}
use Rattle.rules.specs.Calls.{headed}
use Rattle.std.specs.declared.option.Option.TheVariants.{Some}

-- "Over all sequences of opens, closes, messages and ticks from a fresh splicer": h, the calls with their answers, and s, the splicer
-- after them. The name has 32 bytes, bytes are bytes and times stay below what four bytes of Seconds hold; nothing else is asked of the
-- calls.
pub record FromFresh (h : List Event) (s : Splicer) : Type 0 where
  pub name : List ℕ
  pub whole : length name ≡ 32
  pub bytes : All Byte name
  pub calls : List Call
  pub wired : All Wired calls
  pub heard : h ≡ history calls (fresh name).splicer
  pub same : s ≡ after calls (fresh name).splicer

-- ## The answer to a Splice_Request

-- a Splice_Response with the result n to number x of connection c
unfoldable pub answers : ℕ → ℕ → ℕ → Record → Bool
answers n c x r = tells (λ m flag. false) (λ m. eqb n m) c x r

-- the bytes l of connection c begin with a whole Splice_Request that is read as r, and nothing before the checks b to f stops it
pub record Asks (c : ℕ) (l : List ℕ) (loans : Loans) (r : Request) (s : Splicer) : Type 0 where
  pub bytes : Wired (messages c l loans)
  -- the call is not refused
  pub low : no_connection c ≡ false
  pub roomy : no_room loans.room ≡ false
  pub sections : long_section loans ≡ false
  pub ready : is_initialised (link_of c s) ≡ true
  pub framed : framing l ≡ Ok (headed splice_request (message_size l))
  pub readable : read_splice (data_in l) ≡ Some (Splice r)

-- and it passes b to d
pub record Passes (c : ℕ) (r : Request) (s : Splicer) : Type 0 where
  pub b : wrong_number c r s.queue ≡ false
  -- c is the connection
  pub c' : too_late s.clock r.start ≡ false
  pub d : collides (requested c r s.queue) s.queue.waiting ≡ false

-- "when the count is 20, or when it is at least 10 and the four counts, each taken as at least 10, add up to 64"
unfoldable pub full_told : ℕ → List Event → Bool
full_told c h = full_by (λ d. waiting_count d h) c

-- ## Numbers and codes, the first that applies

-- a check of 01: its number, and whether it applies
pub record Check : Type 0 where
  pub number : ℕ
  pub applies : Bool

-- the first that applies, or 0
unfoldable pub first_number : List Check → ℕ
first_number [] = 0
first_number (k ∷ l) = cond k.applies k.number (first_number l)

abbrev pub check : ℕ → Bool → Check
check n b = record { number = n; applies = b }

-- the code of the first of b to d that applies; 100 if none does
unfoldable pub earlier_code : ℕ → Request → Splicer → ℕ
earlier_code c r s =
    first_of (wrong_number c r s.queue) (too_late s.clock r.start) (collides (requested c r s.queue) s.queue.waiting) false

-- "Order: open 1, 6; close 1, 2, 7; message 1, 2, 7, 5 (header), 4, 5 (body); tick 2, 8, 3." 02, CR 6: "10 .. after 7"; CR 7: cue 2, 8, 11
unfoldable pub checks : Call → Splicer → List Check
checks (opens c) s = check 1 (no_connection c) ∷ check 6 (is_open (link_of c s)) ∷ []
checks (closes c room) s = check 1 (no_connection c) ∷ check 2 (no_room room) ∷ check 7 (not_open c s) ∷ []
checks (messages c l loans) s =
    check 1 (no_connection c) ∷ check 2 (no_room loans.room) ∷ check 7 (not_open c s) ∷ check 10 (long_section loans)
    ∷ check 5 (ltb (length l) 8) ∷ check 4 (oversize l) ∷ check 5 (ltb (length l) (8 + message_size l)) ∷ []
checks (ticks seconds micros room) s =
    check 2 (no_room room) ∷ check 8 (bad_micros micros) ∷ check 3 (ltb (from_micros (time_of seconds micros)).0 s.clock) ∷ []
checks (moves until room) s = check 2 (no_room room) ∷ check 3 (ltb until s.clock) ∷ []
checks (cues l pts seconds micros room) s = check 2 (no_room room) ∷ check 8 (bad_micros micros) ∷ check 11 (bad_section l) ∷ []

-- the number of a refusal; 0 is none
unfoldable pub number_of : Answer → ℕ
number_of (refused n) = house_number n
number_of (good consumed rs) = 0

-- "the splicer and the lent buffers stay as they were before it": s before a call, r what came of it
pub record Unchanged (s : Splicer) (r : Called) : Type 0 where
  pub splicer : r.splicer ≡ s
  pub written : written_by r.answer ≡ []
  pub consumed : consumed_by r.answer ≡ 0
  pub buffer : (e : List ℕ) → buffer_after r.answer e ≡ e

-- ## Ends in a call's answer

-- the SpliceComplete flag 1 of number x of connection c: that a spot which was on air has ended
unfoldable pub is_out : ℕ → ℕ → Record → Bool
is_out c x r = tells (λ n flag. eqb flag 1) (λ n. false) c x r

abbrev pub outs_of : ℕ → ℕ → List Record → ℕ
outs_of c x rs = count (is_out c x) rs

-- the session of number x of connection c has started and not ended, from the answers: 1, or else 0
unfoldable pub started_replied : ℕ → ℕ → Call → Reply → ℕ → ℕ
started_replied c x k (refusal m) n = n
started_replied c x k (wrote l) n = (n + starts_of c x (records_in l)) - ends_of c x (others_of k (records_in l))

unfoldable pub started_told : ℕ → ℕ → List Event → ℕ → ℕ
started_told c x [] n = n
started_told c x (e ∷ h) n = started_told c x h (started_replied c x e.call e.reply n)

-- ## The accepted sessions

-- the accepted sessions of number x of connection c that have had no end
abbrev pub unended : ℕ → ℕ → List Entry → ℕ
unended c x es = count (λ e. entry_is c x e && eqb e.ends 0) es

-- of one of them, at the time now: "No accepted session gets a second end, and each gets exactly one end, at the latest when the clock is
-- brought to its end time or its connection closes."
pub record Ended (now : ℕ) (e : Entry) : Type 0 where
  pub once : e.ends ≤ 1
  pub by_time : e.end ≤ now → e.ends ≡ 1
  pub by_close : e.closed ≡ true → e.ends ≡ 1

-- connection c's
abbrev pub entries_of : ℕ → List Entry → List Entry
entries_of c es = keep (λ e. eqb c e.conn) es

-- es, the book when connection c has closed, and fs, a later one: c's sessions of then stand in it as they stood, each with its one end,
-- and
-- whatever was written since counts for newer ones
pub record Stands (c : ℕ) (es fs : List Entry) : Type 0 where
  pub newer : List Entry
  pub same : entries_of c fs ≡ newer ++ entries_of c es
  pub ended : All (λ e. e.ends ≡ 1) (entries_of c es)

-- ## Document 02, CR 2

-- each connection's waiting sessions, from the answers
abbrev pub counts_told : List Event → List ℕ
counts_told h = waiting_count 0 h ∷ waiting_count 1 h ∷ waiting_count 2 h ∷ waiting_count 3 h ∷ []

-- ## Document 02, CR 5

-- of the started ones k and the book es: what the session last accepted under the number on air asked of the multiplexer; "5 with none"
unfoldable pub air_mux_told : List Session → List Entry → ℕ
air_mux_told [] es = average_mux
air_mux_told (air ∷ k) es = mux_told air.conn air.id es

-- of a session held: "the value 1 to 10"
abbrev pub MuxInRange : Session → Type 0
MuxInRange s = (1 ≤ s.mux) × (s.mux ≤ 10)

-- ## Document 02, CR 7

-- the connection that a record is for
abbrev pub conn_of : Record → ℕ
conn_of (General c r) = c
conn_of (InitResponse c r name) = c
conn_of (AliveResponse c r state x t) = c
conn_of (SpliceResponse c r x) = c
conn_of (SpliceComplete c r x flag played) = c
conn_of (AbortResponse c r x) = c
conn_of (CueRequest c a u l) = c
conn_of (ExtendedFound c x event ended played) = c
conn_of (ExtendedNone c x) = c
conn_of (ConfigResponse c r name hardware section) = c

-- whom a section concerns of which x comes: every initialised connection, from 0 upward, or nobody
unfoldable pub concerned : Cue → Splicer → List ℕ
concerned (At p) s = keep (λ c. is_initialised (link_of c s)) (0 ∷ 1 ∷ 2 ∷ 3 ∷ [])
concerned Timeless s = keep (λ c. is_initialised (link_of c s)) (0 ∷ 1 ∷ 2 ∷ 3 ∷ [])
concerned Silent s = []
concerned Bad s = keep (λ c. is_initialised (link_of c s)) (0 ∷ 1 ∷ 2 ∷ 3 ∷ [])

-- a Cue_Request's bytes from the 19th on, behind mark, header and time, are the section l
unfoldable pub Carries : List ℕ → Record → Type 0
Carries l (General c r) = Unit {0}
Carries l (InitResponse c r name) = Unit {0}
Carries l (AliveResponse c r state x t) = Unit {0}
Carries l (SpliceResponse c r x) = Unit {0}
Carries l (SpliceComplete c r x flag played) = Unit {0}
Carries l (AbortResponse c r x) = Unit {0}
Carries l (ExtendedFound c x event ended played) = Unit {0}
Carries l (ExtendedNone c x) = Unit {0}
Carries l (ConfigResponse c r name hardware section) = Unit {0}
Carries l (CueRequest c a u m) = drop 18 (record_bytes (CueRequest c a u m)) ≡ l

-- ## Document 02, CR 11

-- the call is a Splice_Request answered with 100; rs: the records of its answer
unfoldable pub granted_by : Call → List Record → Bool
granted_by (opens c) rs = false
granted_by (closes c room) rs = false
granted_by (messages c l loans) rs = granted_in c l rs
granted_by (ticks seconds micros room) rs = false
granted_by (moves until room) rs = false
granted_by (cues l pts seconds micros room) rs = false

-- ## 02, CR 8: the answer to an ExtendedData_Request

-- the bytes l of connection c begin with a whole one that is read, for the number x, and nothing stops its answer
pub record Inquires (c : ℕ) (l : List ℕ) (loans : Loans) (x : ℕ) (s : Splicer) : Type 0 where
  pub wired : Wired (messages c l loans)
  pub low : no_connection c ≡ false
  pub roomy : no_room loans.room ≡ false
  pub short : long_section loans ≡ false
  pub ready : is_initialised (link_of c s) ≡ true
  -- l begins with one, for x
  pub framed : framing l ≡ Ok (headed extended_request (message_size l))
  pub readable : read_extended (data_in l) ≡ Some (Extended x)

-- the answer's bytes b are what the list says, newest first: "the asking connection's latest ended session of that number", or "121 with
-- the
-- SessionID alone" exactly "where none is kept"
pub record Finds (c x : ℕ) (list : List Past) (b : List ℕ) : Type 0 where
  pub found : (i : ℕ) → i < length list → is_past c x (get_or list i unused) ≡ true →
      ((j : ℕ) → j < i → is_past c x (get_or list j unused) ≡ false) →
      let e = get_or list i unused in
      records_in b ≡ ExtendedFound c x e.event e.result e.played ∷ []
  pub none : some (is_past c x) list ≡ false → records_in b ≡ ExtendedNone c x ∷ []
  pub only : records_in b ≡ ExtendedNone c x ∷ [] → some (is_past c x) list ≡ false

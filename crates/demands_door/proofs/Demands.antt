-- READ THIS FIRST: the customer's demands as theorems about the calls of `door`, from the words that C sees, each under its sentence. The
-- only hypothesis is a trace (specs/Driven): fresh, then any calls with any inputs, each result one that the call's contract allows;
-- door/proofs/Cited holds it to the contracts in door/src/lib.rt. Rests on the theorems of the same names in demands_engine. No axiom, no
-- hole.
mod Words
use Words.*

-- ## "On a splicer that came from fresh and the calls after it"

-- any name of 32 bytes and any inputs: "Over all sequences of opens, closes, messages and ticks from a fresh splicer"
pub any-calls : (name : List ℕ) → length name ≡ 32 → All Byte name → (is : List Input) → All Typed is → Run name is
any-calls = runs

-- one call more gives a trace again
pub trace-goes-on : (name : List ℕ) (h : List Made) (m : Memory) (i : Input) (r : Seen) → More name h m i r
    → Trace name (h ++ (made i r ∷ [])) (left r)
trace-goes-on = trace-more

-- and every point of a trace is the end of a trace, so what is said below of a trace's end is said of every point
pub every-point : (name : List ℕ) (h g : List Made) (m : Memory) → Trace name (h ++ g) m → Point name h g m
every-point = trace-point

-- the splicer is determined: the same name and the same inputs (bytes, and buffers as they were before each call) give the same
-- replies, lent words and bytes, and buffers, and the same memory
pub same-calls-same-results : (name : List ℕ) (h g : List Made) (m n : Memory) → Trace name h m → Trace name g n → inputs h ≡ inputs g
    → (h ≡ g) × (m ≡ n)
same-calls-same-results = trace-same

-- it is a trace of the engine's calls, with the same inputs, memory and buffers
pub calls-of-the-engine : (name : List ℕ) (h : List Made) (m : Memory) → Trace name h m → engine.Trace name (within h) m
calls-of-the-engine = trace-inside

-- "Over all sequences": what follows is said of the name, the calls h made since, with what C saw, and the memory m now
module _ (name : List ℕ) (h : List Made) (m : Memory) where
  -- ## Demand 1

  -- "every call takes every input": all that open, close, message and tick require is Lent, and it holds
  pub every-call-may-be-made : Trace name h m → Lent m.words m.bytes
  every-call-may-be-made t = called.every-call-may-be-made name (within h) m (trace-inside name h m t)

  -- and for every input there is a result that the call's contract allows; by same-calls-same-results only one
  pub every-call-is-answered : Trace name h m → (i : Input) → Typed i → Answerable m i
  every-call-is-answered t = answerable m (every-call-may-be-made t)

  -- the next call, with the input i, and what C sees after it, r
  module _ (i : Input) (r : Seen) (c : More name h m i r) where
    -- "A bad call gets its number from document 01": the first that applies, in 01's order; 0 stands for a good call
    pub bad-call-number : number r ≡ first_number (checks (call_of i) (shown m))
    bad-call-number =
        rw (call-handed i)
        (number-inside c.allowed ∙ called.bad-call-number name (within h) m _ _ (more-inside name h m i r c))

    -- "and the splicer and the lent buffers stay as they were before it"
    pub bad-call-changes-nothing : 0 < number r → (left r ≡ m) × (r.buffer ≡ buffer_of i)
    bad-call-changes-nothing bad =
        let u = refused-unchanged (call_of i) m.words m.bytes (buffer_of i) r.reply r.words r.bytes r.buffer
        (every-call-may-be-made c.trace) c.allowed bad in
        (memory-same (left r) m u.0 u.1, u.2)

    -- no answer is longer than 3,174 bytes, so the 4,096 that a good call has are enough
    pub answers-fit : length (bytes_of r) ≤ 3174
    answers-fit = rw (bytes_inside c.allowed) (called.answers-fit name (within h) m _ _ (more-inside name h m i r c))

  -- fresh: number 9 for a name without a zero byte, and then the memory is that of an empty name, without sessions
  pub bad-name-number : (t : Trace name h m) → number_in t.reply ≡ cond (has_zero name) 0 9
  bad-name-number t = number-inside t.fresh ∙ called.bad-name-number name (within h) m (trace-inside name h m t)

  pub bad-name-gives-empty : (t : Trace name h m) → has_zero name ≡ false → t.begun ≡ empty_memory
  bad-name-gives-empty t = called.bad-name-gives-empty name (within h) m (trace-inside name h m t)

  -- ## Demand 2

  -- "every answer byte, its order and the state after it are those that 01's rules give": of the next call
  pub answers-as-ruled : (i : Input) (r : Seen) → More name h m i r → AsRuled m i r
  answers-as-ruled i r c =
      let a = called.answers-as-ruled name (within h) m _ _ (more-inside name h m i r c) in
      record {
        state = rw (call-handed i) a.state;
        reply = reply-ruled c.allowed;
        bytes = rw (call-handed i) (bytes_inside c.allowed ∙ a.bytes);
        buffer = rw (call-handed i, buffer-handed i) a.buffer;
      }

  -- and of all calls together: their answers' bytes and refusals are those of 01's calls from a fresh splicer, and so is the splicer now
  pub trace-as-ruled : Trace name h m
      → (events h ≡ history (calls h) (fresh name).splicer) × (shown m ≡ after (calls h) (fresh name).splicer)
  trace-as-ruled t =
      rw (trace-events name h m t, calls-inside h) (called.trace-as-ruled name (within h) m (trace-inside name h m t))

  -- "An accepted request is accepted because the rules accept it; a refused one carries the first result code that applies.": connection d
  -- sends
  -- the bytes l, which are a Splice_Request q; the last record in the answer's bytes is the Splice_Response with the code of 01's b to f
  pub first-code-applies : (d : ℕ) (l pm im e : List ℕ) (r : Seen) → More name h m (a_message d l pm im e) r
      → (q : Request) → Asks d l (lending_maps pm im (length e)) q (shown m)
      → own_answer (answers (splice_result (shown m).clock d q (requested d q (shown m).queue) (shown m).queue) d q.id)
      (records_in (bytes_of r)) ≡ true
  first-code-applies d l pm im e r c q asks =
      rw (bytes_inside c.allowed)
      (called.first-code-applies name (within h) m d l pm im e (inside r) (more-inside name h m (a_message d l pm im e) r c) q asks)

  -- A request that is read passes b to d (a is gone: 02, CR 1), or the last record in the answer's bytes has the first of their codes that
  -- applies
  pub earlier-or-passes : (d : ℕ) (l pm im e : List ℕ) (r : Seen) → More name h m (a_message d l pm im e) r
      → (q : Request) → Asks d l (lending_maps pm im (length e)) q (shown m)
      → Passes d q (shown m) ⊎ ((earlier_code d q (shown m) ≡ 100 → ⊥)
      × (own_answer (answers (earlier_code d q (shown m)) d q.id) (records_in (bytes_of r)) ≡ true))
  earlier-or-passes d l pm im e r c q asks =
      rw (bytes_inside c.allowed)
      (called.earlier-or-passes name (within h) m d l pm im e (inside r) (more-inside name h m (a_message d l pm im e) r c) q asks)

  -- 02, CR 1: "From here result 110 is no longer met": the result of every record in the answer's bytes, of every call, is one of 100, 102,
  -- 103,
  -- 104, 109, 112, 114, 116, 117, 120, 121, 123, 125; of a Cue_Request 0xFFFF
  pub codes-given : (i : Input) (r : Seen) → More name h m i r → All Coded (records_in (bytes_of r))
  codes-given i r c = rw (bytes_inside c.allowed) (called.codes-given name (within h) m _ _ (more-inside name h m i r c))

  -- ## Demand 3

  -- "take a connection's waiting sessions from the answers alone: accepted since it was opened, less those whose start or end was written.
  -- That count never passes 20."
  pub count-never-passes-20 : Trace name h m → (d : ℕ) → waiting_count d (events h) ≤ 20
  count-never-passes-20 t d =
      rw (trace-events name h m t) (called.count-never-passes-20 name (within h) m (trace-inside name h m t) d)

  module _ (d : ℕ) (l pm im e : List ℕ) (r : Seen) (c : More name h m (a_message d l pm im e) r) (q : Request)
      (asks : Asks d l (lending_maps pm im (length e)) q (shown m)) (passes : Passes d q (shown m)) where
    -- "A request that passes every earlier check in 01's order is refused for a full queue exactly when the count is 20, or when it is
    -- at least 10 and the four counts, each taken as at least 10, add up to 64." Else it is accepted
    pub full-exactly-when : own_answer (answers (cond (full_told d (events h)) 114 100) d q.id) (records_in (bytes_of r)) ≡ true
    full-exactly-when =
        rw (trace-events name h m c.trace, bytes_inside c.allowed)
        (called.full-exactly-when name (within h) m d l pm im e (inside r) (more-inside name h m (a_message d l pm im e) r c) q asks passes)

    -- "Reserved places hold against the other connections.": with fewer than 10 waiting it is accepted, whatever the others have
    pub reserved-places-hold : waiting_count d (events h) < 10 → own_answer (answers 100 d q.id) (records_in (bytes_of r)) ≡ true
    reserved-places-hold few = rw (not_full d (events h) few) at full-exactly-when

  -- "No accepted session gets a second end, and each gets exactly one end, at the latest when the clock is brought to its end time or its
  -- connection closes." 02: "Demand 3's one end now includes these records", those of an equal one's start: flag 1 with 125,
  -- Splice_Response 125
  pub one_end : Trace name h m → All (Ended (clock_after (events h) 0)) (book (events h) [])
  one_end t = rw (trace-events name h m t) (called.one_end name (within h) m (trace-inside name h m t))

  -- the next call, of any connection d and any number x
  module _ (i : Input) (r : Seen) (c : More name h m i r) (d x : ℕ) where
    -- An end in its answer's bytes, 125 by an equal one's start among them, a Splice_Request's own answer apart, is of an accepted session
    -- that
    -- had none: it is neither a second end nor the end of a number that nobody was granted
    pub ends-are-owed : ends_of d x (others_of (call_of i) (records_in (bytes_of r))) ≤ unended d x (book (events h) [])
    ends-are-owed =
        rw (trace-events name h m c.trace, call-handed i, bytes_inside c.allowed)
        (called.ends-are-owed name (within h) m _ _ (more-inside name h m i r c) d x)

    -- "Two operators' as-run logs listed a spot that never aired.": a SpliceComplete flag 1 is written only under a number whose start is
    -- written, since its last end or by the same call
    pub only-aired-is-listed : outs_of d x (records_in (bytes_of r)) ≤ started_told d x (events h) 0 + starts_of d x
        (records_in (bytes_of r))
    only-aired-is-listed =
        rw (trace-events name h m c.trace, bytes_inside c.allowed)
        (called.only-aired-is-listed name (within h) m _ _ (more-inside name h m i r c) d x)

-- ## The incident

-- "An ad server dropped its connection with its spot on air.": after the calls h connection d closes, by a good call, and the calls g
-- follow
module _ (name : List ℕ) (h g : List Made) (m : Memory) (d : ℕ) (e : List ℕ) (r : Seen)
    (t : Trace name (h ++ (made (a_close d e) r ∷ g)) m) (z : number r ≡ 0) where
  -- its sessions of before stand in the book as they stood at the close, each with its one end; newer are those accepted since
  pub closed-stays-ended : Stands d (book (events (h ++ (made (a_close d e) r ∷ []))) [])
      (book (events (h ++ (made (a_close d e) r ∷ g))) [])
  closed-stays-ended =
      let x = made (a_close d e) r in
      let p = trace-point name h (x ∷ g) m t in
      let l = p.behind in
      let one = trace-more name h p.here (a_close d e) r (record { trace = p.before; typed = l.0; allowed = l.1 }) in
      rw (trace-events name _ _ one, trace-events name _ _ t, within-append h (x ∷ []), within-append h (x ∷ g))
      (called.closed-stays-ended name (within h) (within g) m d e (inside r)
      (subst (λ k. engine.Trace name k m) (within-append h (x ∷ g)) (trace-inside name _ m t)) (sym (number-inside l.1) ∙ z))

  -- "the completion routine then wrote the old spot's end under the new SessionID": an end of the connection that the next call writes, 125
  -- too,
  -- is of a newer session that has had none
  pub the-incident : (i : Input) (o : Seen) → More name (h ++ (made (a_close d e) r ∷ g)) m i o → (x : ℕ)
      → ends_of d x (others_of (call_of i) (records_in (bytes_of o))) ≤ unended d x closed-stays-ended.newer
  the-incident i o c x =
      le_trans (ends-are-owed name (h ++ (made (a_close d e) r ∷ g)) m i o c d x) (unended-newer d x _ _ closed-stays-ended)

-- ## Document 02, CR 2

module _ (name : List ℕ) (h : List Made) (m : Memory) where
  -- "Demand 3 still counts from the answers, and the stored number is shown equal to that."
  pub stored-as-told : Trace name h m → counts_of m.words ≡ counts_told (events h)
  stored-as-told t = rw (trace-events name h m t) (called.stored-as-told name (within h) m (trace-inside name h m t))

  -- and so are the four words that C reads: whatever the read's contract allows
  pub read-as-told : Trace name h m → (r : List ℕ) → Counts m.words m.bytes r → r ≡ counts_told (events h)
  read-as-told t = rw (trace-events name h m t) (called.read-as-told name (within h) m (trace-inside name h m t))

-- ## Document 02, CR 4

-- "so no two started sessions ever have the same AccessType": those that the started words hold fall strictly, from the one on air down
pub no-two-alike : (name : List ℕ) (h : List Made) (m : Memory) → Trace name h m → Falling (shown m).queue.started
no-two-alike name h m t = called.no-two-alike name (within h) m (trace-inside name h m t)

-- ## Document 02, CR 5

module _ (name : List ℕ) (h : List Made) (m : Memory) where
  -- "sessions carry the value", 1 to 10: every session held, waiting, on air or covered
  pub mux-in-range : Trace name h m → Each MuxInRange (shown m).queue
  mux-in-range t = called.mux-in-range name (within h) m (trace-inside name h m t)

  -- "the caller can read that of the one on air, 5 with none": whatever the read's contract allows is what the request asked that was last
  -- accepted under the number on air, taken from the calls and the answers' bytes. So it and Alive_Response's SessionID are of one session
  pub air-mux-told : Trace name h m → (r : ℕ) → ReadsMux m.words m.bytes r
      → r ≡ air_mux_told (shown m).queue.started (book (events h) [])
  air-mux-told t = rw (trace-events name h m t) (called.air-mux-told name (within h) m (trace-inside name h m t))

  -- and it is 1 to 10
  pub air-mux-in-range : Trace name h m → (r : ℕ) → ReadsMux m.words m.bytes r → (1 ≤ r) × (r ≤ 10)
  air-mux-in-range t = called.air-mux-in-range name (within h) m (trace-inside name h m t)

-- ## Document 02, CR 8

module _ (name : List ℕ) (h : List Made) (m : Memory) where
  -- "The state now also keeps the last 16 ended sessions .. oldest dropped first": what the words keep is, newest first, the first 16 of
  -- the ends
  -- that the answers' bytes tell: connection, SessionID and result of each end record, the SpliceEventID of the request that its connection
  -- last had
  -- accepted under that SessionID, and the PlayedDuration of the record, or where it shows none of the time on air, counted from the
  -- history as
  -- CR 13 counts it: 0 where the start was never written
  pub kept-as-told : Trace name h m → KeptAs (recent (shown m).queue.lately) (ends_told (events h))
  kept-as-told t = rw (trace-events name h m t) (called.kept-as-told name (within h) m (trace-inside name h m t))

  -- under each number as many are told as its accepted sessions have ended, so each has made one, and one that has not ended none
  pub one-kept-for-each : Trace name h m → (c x : ℕ) → count (of_number c x) (ends_told (events h)) ≡ ended_once c x (book (events h) [])
  one-kept-for-each t = rw (trace-events name h m t) (called.one-kept-for-each name (within h) m (trace-inside name h m t))

-- the next message, from whatever connection d, which asks by an ExtendedData_Request for the number x
module _ (name : List ℕ) (h : List Made) (m : Memory) (d : ℕ) (l pm im e : List ℕ) (r : Seen) (c : More name h m (a_message d l pm im e) r)
    (x : ℕ)
    (asks : Inquires d l (lending_maps pm im (length e)) x (shown m)) where
  -- "answered with the asking connection's latest ended session of that number", "121 .. where none is kept": whatever the call's contract
  -- allows is the first of what ended lately, newest first, with that connection and number, or 121 exactly when there is none
  pub extended-answered : Finds d x (recent (shown m).queue.lately) (bytes_of r)
  extended-answered =
      rw (bytes_inside c.allowed) (called.extended-answered name (within h) m d l pm im e (inside r)
      (more-inside name h m (a_message d l pm im e) r c) x asks)

  -- and so, of the sixteen latest ends that the answers' bytes tell, the first with that connection and number, or 121
  pub extended-told : records_in (bytes_of r) ≡ answer_told d x (take most_kept (ends_told (events h))) ∷ []
  extended-told =
      rw (bytes_inside c.allowed, trace-events name h m c.trace)
      (called.extended-told name (within h) m d l pm im e (inside r) (more-inside name h m (a_message d l pm im e) r c) x asks)

module _ (name : List ℕ) (h : List Made) (m : Memory) (t : Trace name h m) where
  -- "For the desk's page the caller lends sixteen rows and they are filled from the newest down": whatever the page's contract allows, lent
  -- the
  -- words in which what ended is kept. That list is the one of the answers
  pub page-read : (lent : List Row) {n : ℕ} {a : List Row} → length lent ≡ rows → Pages (late_of m.words) lent n a →
      (n ≡ 0) × (a ≡ rows_of (shown m).queue.lately)
  page-read lent k p =
      let w = trace-lent name (within h) m (trace-inside name h m t) in (
        (page-filled (late_of m.words) lent k p).0,
        page-shown m.words w.whole.words (reached-sound (shown m) w.reached).lately
            lent k p,
      )

-- ## Document 02, CR 10

module _ (name : List ℕ) (h : List Made) (m : Memory) where
  -- "Keep the waiting sessions ordered by start": those that the waiting words hold, first place first, rise strictly in start, and each
  -- starts after the clock
  pub waiting-in-order : Trace name h m → Sorted (shown m).queue.waiting × All (λ s. (shown m).clock < s.start.0)
      (shown m).queue.waiting
  waiting-in-order t = called.waiting-in-order name (within h) m (trace-inside name h m t)

  -- so the first of them is the next start of all
  pub first-starts-next : Trace name h m → 0 < length (shown m).queue.waiting →
      earliest (λ s. s.start) (shown m).queue.waiting ≡ Some (get_or (shown m).queue.waiting 0 empty).start
  first-starts-next t = called.first-starts-next name (within h) m (trace-inside name h m t)

  -- and with none started it is what is due next
  pub first-is-next : Trace name h m → 0 < length (shown m).queue.waiting → (shown m).queue.started ≡ [] →
      due (shown m).queue ≡ Some (get_or (shown m).queue.waiting 0 empty).start
  first-is-next t = called.first-is-next name (within h) m (trace-inside name h m t)

-- ## Document 02, CR 11

module _ (name : List ℕ) (h : List Made) (m : Memory) where
  -- "Report that number with the call. [..] A request not accepted reports 0.": and so does every call that is no Splice_Request answered
  -- with
  -- 100; fresh too
  pub fresh-unmoved : (t : Trace name h m) → moved_in t.reply ≡ 0
  fresh-unmoved t = moved_inside t.fresh ∙ called.fresh-unmoved name (within h) m (trace-inside name h m t)

  pub unmoved-else : (i : Input) (r : Seen) → More name h m i r → granted_by (call_of i) (records_in (bytes_of r)) ≡ false → moved r ≡ 0
  unmoved-else i r c g =
      moved_inside c.allowed
      ∙ called.unmoved-else name (within h) m _ _ (more-inside name h m i r c) (rw (call-handed i, bytes_inside c.allowed) at g)

  -- "and is at most 63", of every call
  pub at-most-63 : (i : Input) (r : Seen) → More name h m i r → moved r ≤ 63
  at-most-63 i r c = rw (moved_inside c.allowed) (called.at-most-63 name (within h) m _ _ (more-inside name h m i r c))

  -- connection d sends the bytes l, which are a Splice_Request q, and the last record in the answer's bytes is its 100
  module _ (d : ℕ) (l pm im e : List ℕ) (r : Seen) (c : More name h m (a_message d l pm im e) r) (q : Request)
      (asks : Asks d l (lending_maps pm im (length e)) q (shown m)) (yes : own_answer (answers 100 d q.id) (records_in (bytes_of r)) ≡ true)
    where
      abbrev start : ℕ
      start = (requested d q (shown m).queue).start.0

      granted : own_answer (answers 100 d q.id) (records_in (engine.bytes_of (inside r))) ≡ true
      granted = rw (bytes_inside c.allowed) at yes

      -- "It equals the waiting sessions, after any eviction, whose start is later than the new one's": of those that wait after the call
      pub moved-is-later : moved r ≡ count (starts_after start) (shown (left r)).queue.waiting
      moved-is-later =
          moved_inside c.allowed
          ∙ called.moved-is-later name (within h) m d l pm im e (inside r) (more-inside name h m (a_message d l pm im e) r c) q asks granted

      -- "how many places an acceptance shifts": where it evicts nobody, of the lent places, from the ring's new end on, all but the last
      -- `moved` and its own hold what they held
      pub places-stay : some (starts_at start) (shown m).queue.waiting ≡ false
          → let k = next (see m.words).ring_end in
          take (round - (moved r + 1)) (places_from k r.words) ≡ take (round - (moved r + 1)) (places_from k m.words)
      places-stay free =
          rw (moved_inside c.allowed)
          (called.places-stay name (within h) m d l pm im e (inside r) (more-inside name h m (a_message d l pm im e) r c) q asks granted
          free)

-- ## Document 02, CR 13

module _ (name : List ℕ) (h : List Made) (m : Memory) where
  -- "Every moment belongs to someone.": primary time, "counted from the history, as the time in which no session was started and unended",
  -- and
  -- each session's, "the time in which it had the highest AccessType of those started and unended", in ninths, add up to the clock
  pub every-moment : Trace name h m → primary_told (events h) + air_told (events h) ≡ clock_told (events h)
  every-moment t =
      subst (λ (e : List Event). primary_told e + air_told e ≡ clock_told e) (sym (trace-events name h m t))
      (called.every-moment name (within h) m (trace-inside name h m t))

  -- "The sums that the engine itself keeps [..] and a primary sum it keeps from now on are shown equal to these": the primary word
  pub primary-kept : Trace name h m → (see m.words).primary ≡ primary_told (events h)
  primary-kept t = called.primary-kept name (within h) m (trace-inside name h m t) ∙ ap primary_told (sym (trace-events name h m t))

  -- and what C reads of it: whatever the read's contract allows
  pub primary-read : Trace name h m → (r : ℕ) → Primary m.words m.bytes r → r ≡ primary_told (events h)
  primary-read t r c = c ∙ primary-kept t

  -- the time on air that the memory holds of a session: that of the session which its connection last accepted under its number
  pub air-kept : Trace name h m → Each (λ u. u.played.0 ≡ number_told (events h) u.conn u.id) (shown m).queue
  air-kept t =
      subst (λ (e : List Event). Each (λ u. u.played.0 ≡ number_told e u.conn u.id) (shown m).queue) (sym (trace-events name h m t))
      (called.air-kept name (within h) m (trace-inside name h m t))

  -- 0 for a waiting one
  pub waiting-played-none : Trace name h m → All (λ u. u.played.0 ≡ 0) (shown m).queue.waiting
  waiting-played-none t = called.waiting-played-none name (within h) m (trace-inside name h m t)

  -- "from which PlayedDuration is rounded", from bytes alone: each SpliceComplete flag 1 in the next answer has as PlayedDuration its
  -- session's time,
  -- counted from the history with this call, divided by 100 and rounded down
  pub played-as-counted : (i : Input) (r : Seen) → More name h m i r → PlayedAs (events (h ++ (made i r ∷ []))) (records_in (bytes_of r))
  played-as-counted i r c =
      let g = made i r ∷ [] in
      subst (λ (e : List Event). PlayedAs e (records_in (bytes_of r)))
      (sym (trace-events name _ _ (trace-more name h m i r c) ∙ ap engine.events (within-append h g)))
      (subst (λ (l : List ℕ). PlayedAs (engine.events (within h ++ within g)) (records_in l)) (sym (bytes_inside c.allowed))
      (called.played-as-counted name (within h) m _ _ (more-inside name h m i r c)))

  -- and so has each session in every later list
  pub lists-as-counted : Trace name h m → All (λ a. a.listed ≡ true → a.said ≡ time_told (events h) a / 100) (airings_told (events h))
  lists-as-counted t =
      subst (λ (e : List Event). All (λ a. a.listed ≡ true → a.said ≡ time_told e a / 100) (airings_told e)) (sym (trace-events name h m t))
      (called.lists-as-counted name (within h) m (trace-inside name h m t))

-- "Between any two points of any sequence of calls": the calls h were made before the first, and then the calls g
module _ (name : List ℕ) (h g : List Made) (m : Memory) (t : Trace name (h ++ g) m) where
  first : events h ≡ engine.events (within h)
  first = let p = trace-point name h g m t in trace-events name h p.here p.before

  second : events (h ++ g) ≡ engine.events (within h ++ within g)
  second = trace-events name (h ++ g) m t ∙ ap engine.events (within-append h g)

  both : engine.Trace name (within h ++ within g) m
  both = subst (λ k. engine.Trace name k m) (within-append h g) (trace-inside name (h ++ g) m t)

  -- "the growth of the time on the primary channel plus that of all sessions' time on air, in ninths, equals the clock's advance between
  -- them"
  pub no_gap : Gapless (events h) (events (h ++ g))
  no_gap = rw (first, second) (called.no_gap name (within h) (within g) m both)

  -- a list printed later says the same: each session stands in it, in its order; its time never falls, and is fixed once its end is written
  pub prints-alike : Within (Printed (events h) (events (h ++ g))) (airings_told (events h)) (airings_told (events (h ++ g)))
  prints-alike = rw (first, second) (called.prints-alike name (within h) (within g) m both)

-- ## Document 02, CR 7

-- a cue call with the section l, what is given with it, and the buffer e
module _ (name : List ℕ) (h : List Made) (m : Memory) (l g e : List ℕ) (r : Seen) (c : More name h m (a_cue l g e) r) where
  -- "It reads the connections' states and changes nothing": the lent words and bytes are after it what they were, also when it is good
  pub cue-changes-nothing : left r ≡ m
  cue-changes-nothing = called.cue-changes-nothing name (within h) m l (pts_of g) (get_or g 2 0) (get_or g 3 0) e (inside r)
      (more-inside name h m (a_cue l g e) r c)

  -- no record of it is a start, an end or an own answer: the waiting counts, the book, the clock, what has started, who owned each ninth,
  -- what
  -- has ended and what is kept, from the answers, are with it what they were without it
  pub cue-counts-nothing : Alike (events h) (events (h ++ (made (a_cue l g e) r ∷ [])))
  cue-counts-nothing =
      let one = made (a_cue l g e) r ∷ [] in
      subst (λ (x : List Event). Alike x (events (h ++ one))) (sym (trace-events name h m c.trace))
      (subst (λ (x : List Event). Alike (engine.events (within h)) x)
      (sym (trace-events name _ _ (trace-more name h m (a_cue l g e) r c) ∙ ap engine.events (within-append h one)))
      (called.cue-counts-nothing name (within h) m l (pts_of g) (get_or g 2 0) (get_or g 3 0) e (inside r)
      (more-inside name h m (a_cue l g e) r c)))

  -- of a good one: "to every initialised connection, from 0 upward", each once, and to no other
  pub cue-to-whom : number r ≡ 0 → map conn_of (records_in (bytes_of r)) ≡ concerned (read_cue l) (shown m)
  cue-to-whom n =
      rw (bytes_inside c.allowed)
      (called.cue-to-whom name (within h) m l (pts_of g) (get_or g 2 0) (get_or g 3 0) e (inside r) (more-inside name h m (a_cue l g e) r c)
      (sym (number-inside c.allowed) ∙ n))

  -- and which records those are: 117 for a bad section, else the Cue_Request with the cue's time
  pub cue-records : number r ≡ 0 → records_in (bytes_of r) ≡ cue_records (read_cue l)
      (cue_time (pts_of g) (get_or g 2 0) (get_or g 3 0) (read_cue l))
      l (initialised_ones (shown m).links)
  cue-records n =
      rw (bytes_inside c.allowed)
      (called.cue-records name (within h) m l (pts_of g) (get_or g 2 0) (get_or g 3 0) e (inside r) (more-inside name h m (a_cue l g e) r c)
      (sym (number-inside c.allowed) ∙ n))

  -- "the whole section as it came": each Cue_Request's bytes from the 19th on
  pub cue-whole : All (Carries l) (records_in (bytes_of r))
  cue-whole =
      rw (bytes_inside c.allowed)
      (called.cue-whole name (within h) m l (pts_of g) (get_or g 2 0) (get_or g 3 0) e (inside r) (more-inside name h m (a_cue l g e) r c))

-- ## Document 02, CR 6

module _ (name : List ℕ) (h : List Made) (m : Memory) where
  -- "Keep Hardware_Config per connection": what is kept is what the calls and the answers' bytes tell, the structure of the connection's
  -- latest
  -- Init_Request whose answer was Init_Response 100, since it was opened
  pub kept-told : Trace name h m → (d : ℕ) → hardware_of d (shown m) ≡ kept_told d (events h)
  kept-told t d = called.kept-told name (within h) m (trace-inside name h m t) d ∙ ap (kept_told d) (sym (trace-events name h m t))

  -- "Servers ask with GetConfig_Request (0x000A, no data) and expect ChannelName, the Hardware_Config of their Init_Request and the output
  -- channel's program map section.": of an initialised connection, the answer is that one record
  pub config-told : (d : ℕ) (l pm im e : List ℕ) (r : Seen) → More name h m (a_message d l pm im e) r
      → AsksConfig d l (lending_maps pm im (length e)) (shown m) → Ready d (shown m)
      → records_in (bytes_of r) ≡ ConfigResponse d 100 (shown m).name (kept_told d (events h))
      (section_of (lending_maps pm im (length e)) (shown m)) ∷ []
  config-told d l pm im e r c asks ready =
      rw (bytes_inside c.allowed, trace-events name h m c.trace)
      (called.config-told name (within h) m d l pm im e (inside r) (more-inside name h m (a_message d l pm im e) r c) asks ready)

  -- "Our card passes the map of the feed that is on air": the insertion's exactly where an Alive_Request in its place is answered with
  -- State 2
  pub section-told : (d : ℕ) (l pm im e : List ℕ) (r : Seen) → More name h m (a_message d l pm im e) r
      → AsksAlive d l (lending_maps pm im (length e)) (shown m) → Ready d (shown m)
      → (loans : Loans) → section_of loans (shown m) ≡ cond (eqb (state_in (records_in (bytes_of r))) 2) loans.insertion loans.primary
  section-told d l pm im e r c asks ready loans =
      rw (bytes_inside c.allowed)
      (called.section-told name (within h) m d l pm im e (inside r) (more-inside name h m (a_message d l pm im e) r c) asks ready loans)

  -- what C is told of it, 0 or 1, is whose section that is
  pub section-read : (r : ℕ) → ReadsFeed m.words m.bytes r → (loans : Loans)
      → section_of loans (shown m) ≡ cond (eqb r 0) loans.primary loans.insertion
  section-read = called.section-read name (within h) m

  -- "A later Init that gets 100 replaces it; close forgets it.": nothing else changes what a connection keeps
  pub nothing-else-changes : (i : Input) (r : Seen) → More name h m i r
      → (d : ℕ) → changed d (call_of i) (reply_in r.reply r.buffer) ≡ false → hardware_of d (shown (left r)) ≡ hardware_of d (shown m)
  nothing-else-changes i r c d e =
      called.nothing-else-changes name (within h) m _ _ (more-inside name h m i r c) d (rw (call-handed i, reply-inside c.allowed) at e)

  -- "close forgets it": after a good close the connection's 256 bytes are zero
  pub close-forgets : (d : ℕ) (e : List ℕ) (r : Seen) → More name h m (a_close d e) r → number r ≡ 0
      → kept_bytes d r.bytes ≡ replicate longest_hardware 0
  close-forgets d e r c z =
      called.close-forgets name (within h) m d e (inside r) (more-inside name h m (a_close d e) r c) (sym (number-inside c.allowed) ∙ z)

  -- and after a good open, so after a later one too, a GetConfig_Request gets 103
  pub opened-denied : (d : ℕ) (r : Seen) → More name h m (an_open d) r → number r ≡ 0
      → (l pm im e : List ℕ) (q : Seen) → Allowed r.words r.bytes (a_message d l pm im e) q
      → AsksConfig d l (lending_maps pm im (length e)) (shown (left r))
      → records_in (bytes_of q) ≡ General d 103 ∷ []
  opened-denied d r c z l pm im e q a asks =
      rw (bytes_inside a)
      (called.opened-denied name (within h) m d (inside r) (more-inside name h m (an_open d) r c) (sym (number-inside c.allowed) ∙ z)
      l pm im e (inside q) (allowed-inside (left r) (a_message d l pm im e) q a) asks)

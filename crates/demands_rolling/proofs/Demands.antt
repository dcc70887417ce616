-- READ THIS for the card with a rolling counter: 02's CR 9 and the customer's demands as theorems about its calls for C, from the words
-- that C sees, each under its sentence. The only hypothesis is a trace (specs/Rolled): its fresh, then any opens, closes, messages, cues,
-- instants and readings, each result one that the call's contract allows; the Cited of door and of door_rolling hold it to the contracts in
-- their src/lib.rt. Each demand is its theorem about the engine's calls (demands_engine), through rolls-as-ruled. No axiom, no hole.
mod Words
use Words.*

-- ## "On a splicer that came from fresh and the calls after it"

-- any name of 32 bytes and any inputs: this card's fresh, opens, closes, messages, cues, instants and readings in any order
pub any-calls : (name : List ℕ) → length name ≡ 32 → All Byte name → (is : List RollInput) → All RollTyped is → Run name is
any-calls = runs

-- one call more gives a trace again
pub trace-goes-on : (name : List ℕ) (h : List Made) (m : Memory) (i : RollInput) (r : RollSeen) → More name h m i r
    → Trace name (h ++ (made i r ∷ [])) (left r)
trace-goes-on = trace-more

-- and every point of a trace is the end of a trace, so what is said below of a trace's end is said of every point
pub every-point : (name : List ℕ) (h g : List Made) (m : Memory) → Trace name (h ++ g) m → Point name h g m
every-point = trace-point

-- the same name and the same inputs give the same replies, lent words and bytes, counter's words and buffers, and the same memory
pub same-calls-same-results : (name : List ℕ) (h g : List Made) (m n : Memory) → Trace name h m → Trace name g n → inputs h ≡ inputs g
    → (h ≡ g) × (m ≡ n)
same-calls-same-results = trace-same

-- ## Document 02, CR 9

module _ (name : List ℕ) (h : List Made) (m : Memory) where
  -- "Its answers must be those of document 01 with the clock brought to the same instants in ninths": the good calls are the engine's, with
  -- the
  -- same replies, memory and buffers
  pub rolls-as-ruled : Trace name h m → engine.Trace name (within h) m.core
  rolls-as-ruled = trace-inside name h m

  -- and which calls of document 01 they are, the rules say
  pub calls-as-ruled : Trace name h m → engine.calls (within h) ≡ as_moves (calls h) (rolling_of (rolling_fresh name))
  calls-as-ruled = trace-calls name h m

  -- the splicer and the last reading now are those that the rules of this card give
  pub state-as-ruled : Trace name h m → shown m ≡ rolled_after (calls h) (rolling_of (rolling_fresh name))
  state-as-ruled = trace-shown name h m

-- "the difference, taken through the rollover": readings of a counter that has ticked t and t + d times, d below 2^32, have the step d
pub true-step : (t d : ℕ) → d < 4294967296 → step_of (t % 4294967296) ((t + d) % 4294967296) ≡ d
true-step = time.true-step

-- "Given a UTC instant and a reading once, later readings move the clock on": after the calls h the counter has ticked t times and the
-- clock shows u, the last good call having read t; then come any opens, closes, messages and cues, and readings, none more than 8,100,000
-- ticks after the one before. The clock is exactly u and 100 ninths for each tick since, however often the counter has rolled over; no sum
-- drifts
module _ (name : List ℕ) (h : List Made) (m : Memory) (tr : Trace name h m) (t u : ℕ) (s : time.Shows t u (shown m)) where
  pub true-time : (acts : List Act) → All InTime acts → u + 100 * ticked acts < horizon
      → time.Shows (t + ticked acts) (u + 100 * ticked acts) (rolled_after (calls_at t acts) (shown m))
  true-time acts a e = time.acts-show acts t u (shown m) a e s

  -- of the calls that C made
  pub true-time-shown : (g : List Made) (n : Memory) → Trace name (h ++ g) n → (acts : List Act) → calls g ≡ calls_at t acts
      → All InTime acts
      → u + 100 * ticked acts < horizon → time.Shows (t + ticked acts) (u + 100 * ticked acts) (shown n)
  true-time-shown g n tn acts e a early =
      let k = trace-shown name (h ++ g) n tn ∙ calls-after h g _ ∙ ap (rolled_after (calls g)) (sym (trace-shown name h m tr))
      ∙ ap (λ ks. rolled_after ks (shown m)) e in
      subst (time.Shows (t + ticked acts) (u + 100 * ticked acts)) (sym k) (true-time acts a early)

  -- and the next such reading is not refused for 12, nor for anything else
  pub true-time-good : (d room : ℕ) → d ≤ 8100000 → 4096 ≤ room → u + 100 * d < horizon
      → number_of (roll (readings ((t + d) % 4294967296) room) (shown m)).called.answer ≡ 0
  true-time-good d room few roomy early = time.read-good t u d room (shown m) s few roomy early

-- a good instant shows its time, and the reading that came with it
pub instant-shows : (seconds micros t room : ℕ) (r : Rolling) → r.last ≡ none → micros ≤ 999999 → 4096 ≤ room
    → time.Shows t (from_micros (time_of seconds micros)).0 (rolling_of (roll (instants seconds micros (t % 4294967296) room) r))
instant-shows = time.instant-shows

-- "Over all sequences": what follows is said of the name, the calls h made since, with what C saw, and the memory m now
module _ (name : List ℕ) (h : List Made) (m : Memory) where
  -- ## Demand 1

  -- "every call takes every input": all that this card's calls require is LentRolling, from which the engine's Lent follows
  pub every-call-may-be-made : Trace name h m → LentAt m
  every-call-may-be-made = trace-lent name h m

  -- and for every input there is a result that the call's contract allows; by same-calls-same-results only one
  pub every-call-is-answered : Trace name h m → (i : RollInput) → RollTyped i → Answerable m i
  every-call-is-answered t = answerable m (trace-lent name h m t)

  -- the next call, with the input i, and what C sees after it, r
  module _ (i : RollInput) (r : RollSeen) (c : More name h m i r) where
    -- "A bad call gets its number": the first that applies, in the order of documents 01 and 02: an instant 2, 8, 12; a reading 2, 12
    pub bad-call-number : number r ≡ first_number (roll_checks (roll_call_of i) (shown m))
    bad-call-number = number-first name h m i r c

    -- "and the splicer and the lent buffers stay as they were before it", the counter's words too: a refused reading is not the next base
    pub bad-call-changes-nothing : 0 < number r → (left r ≡ m) × (r.buffer ≡ roll_buffer_of i)
    bad-call-changes-nothing = unchanged name h m i r c

    -- no answer is longer than 3,174 bytes, so the 4,096 that a good call has are enough
    pub answers-fit : length (bytes_of r) ≤ 3174
    answers-fit = go (next name h m i r c)
      where
        go : Next name h m i r → length (bytes_of r) ≤ 3174
        go (silent e) = none-long (bytes_of r) e.bytes
        go (calls-of j o e k) = rw (bytes-are name h m i r c) (called.answers-fit name (within h) m.core j (inside (seen_of r)) o)

  -- fresh: number 9 for a name without a zero byte, and then the memory is that of an empty name, without sessions; the counter's words are
  -- those of a card that no instant was given
  pub bad-name-number : (t : Trace name h m) → number_in t.reply ≡ cond (has_zero name) 0 9
  bad-name-number t = fresh-told name h m t ∙ called.bad-name-number name (within h) m.core (trace-inside name h m t)

  pub bad-name-gives-empty : (t : Trace name h m) → has_zero name ≡ false → t.begun ≡ empty_memory
  bad-name-gives-empty t bad =
      let same = called.bad-name-gives-empty name (within h) m.core (trace-inside name h m t) bad in
      λ j. record { core = same j; counter = fresh-counter name h m t j }

  -- ## Demand 2

  -- "every answer byte, its order and the state after it are those that 01's rules give": of the next call
  pub answers-as-ruled : (i : RollInput) (r : RollSeen) → More name h m i r → AsRuled m i r
  answers-as-ruled = as-ruled name h m

  -- and of all calls together
  pub trace-as-ruled : Trace name h m
      → (events h ≡ history (engine.calls (within h)) (fresh name).splicer) ×
      ((shown m).splicer ≡ after (engine.calls (within h)) (fresh name).splicer)
  trace-as-ruled t = called.trace-as-ruled name (within h) m.core (trace-inside name h m t)

  -- "An accepted request is accepted because the rules accept it; a refused one carries the first result code that applies."
  pub first-code-applies : (d : ℕ) (l pm im e : List ℕ) (r : RollSeen) → More name h m (a_known (a_message d l pm im e)) r
      → (q : Request) → Asks d l (lending_maps pm im (length e)) q (shown m).splicer
      → own_answer (answers (splice_result (shown m).splicer.clock d q (requested d q (shown m).splicer.queue) (shown m).splicer.queue)
      d q.id)
      (records_in (bytes_of r)) ≡ true
  first-code-applies d l pm im e r c q asks =
      rw (bytes-are name h m _ r c)
      (called.first-code-applies name (within h) m.core d l pm im e (inside (seen_of r)) (known_more name h m (a_message d l pm im e) r c)
      q asks)

  -- A request that is read passes b to d (a is gone: 02, CR 1), or the last record in the answer's bytes has the first of their codes that
  -- applies
  pub earlier-or-passes : (d : ℕ) (l pm im e : List ℕ) (r : RollSeen) → More name h m (a_known (a_message d l pm im e)) r
      → (q : Request) → Asks d l (lending_maps pm im (length e)) q (shown m).splicer
      → Passes d q (shown m).splicer ⊎ ((earlier_code d q (shown m).splicer ≡ 100 → ⊥)
      × (own_answer (answers (earlier_code d q (shown m).splicer) d q.id) (records_in (bytes_of r)) ≡ true))
  earlier-or-passes d l pm im e r c q asks =
      rw (bytes-are name h m _ r c)
      (called.earlier-or-passes name (within h) m.core d l pm im e (inside (seen_of r))
      (known_more name h m (a_message d l pm im e) r c) q asks)

  -- 02, CR 1: "From here result 110 is no longer met": the result of every record in the answer's bytes, of every call, is one of 100, 102,
  -- 103, 104, 109, 112, 114, 116, 117, 120, 121, 123, 125; of a Cue_Request 0xFFFF
  pub codes-given : (i : RollInput) (r : RollSeen) → More name h m i r → All Coded (records_in (bytes_of r))
  codes-given i r c = go (next name h m i r c)
    where
      go : Next name h m i r → All Coded (records_in (bytes_of r))
      go (silent e) = none-coded (bytes_of r) e.bytes
      go (calls-of j o e k) = rw (bytes-are name h m i r c) (called.codes-given name (within h) m.core j (inside (seen_of r)) o)

  -- ## Demand 3

  -- "That count never passes 20."
  pub count-never-passes-20 : Trace name h m → (d : ℕ) → waiting_count d (events h) ≤ 20
  count-never-passes-20 t = called.count-never-passes-20 name (within h) m.core (trace-inside name h m t)

  module _ (d : ℕ) (l pm im e : List ℕ) (r : RollSeen) (c : More name h m (a_known (a_message d l pm im e)) r) (q : Request)
      (asks : Asks d l (lending_maps pm im (length e)) q (shown m).splicer) (passes : Passes d q (shown m).splicer) where
    -- "A request that passes every earlier check in 01's order is refused for a full queue exactly when the count is 20, or when it is
    -- at least 10 and the four counts, each taken as at least 10, add up to 64." Else it is accepted
    pub full-exactly-when : own_answer (answers (cond (full_told d (events h)) 114 100) d q.id) (records_in (bytes_of r)) ≡ true
    full-exactly-when =
        rw (bytes-are name h m _ r c)
        (called.full-exactly-when name (within h) m.core d l pm im e (inside (seen_of r)) (known_more name h m (a_message d l pm im e) r c)
        q asks passes)

    -- "Reserved places hold against the other connections."
    pub reserved-places-hold : waiting_count d (events h) < 10 → own_answer (answers 100 d q.id) (records_in (bytes_of r)) ≡ true
    reserved-places-hold few = rw (not_full d (events h) few) at full-exactly-when

  -- "No accepted session gets a second end, and each gets exactly one end, at the latest when the clock is brought to its end time or its
  -- connection closes.": here by an instant or a reading; clock_after is the clock that the last good one brought it to
  pub one_end : Trace name h m → All (Ended (clock_after (events h) 0)) (book (events h) [])
  one_end t = called.one_end name (within h) m.core (trace-inside name h m t)

  -- the next call, of any connection d and any number x
  module _ (i : RollInput) (r : RollSeen) (c : More name h m i r) (d x : ℕ) where
    -- an end in its answer's bytes, a Splice_Request's own answer apart, is of an accepted session that had none
    pub ends-are-owed : ends_of d x (others_by i (records_in (bytes_of r))) ≤ unended d x (book (events h) [])
    ends-are-owed = go (next name h m i r c)
      where
        go : Next name h m i r → ends_of d x (others_by i (records_in (bytes_of r))) ≤ unended d x (book (events h) [])
        go (silent e) = none-ends d x i (bytes_of r) _ e.bytes
        go (calls-of j o f k) =
            rw (f.others (records_in (bytes_of r)), bytes-are name h m i r c)
            (called.ends-are-owed name (within h) m.core j (inside (seen_of r)) o d x)

    -- "Two operators' as-run logs listed a spot that never aired.": a SpliceComplete flag 1 is written only under a number whose start is
    -- written, since its last end or by the same call
    pub only-aired-is-listed : outs_of d x (records_in (bytes_of r)) ≤ started_told d x (events h) 0 + starts_of d x
        (records_in (bytes_of r))
    only-aired-is-listed = go (next name h m i r c)
      where
        go : Next name h m i r → outs_of d x (records_in (bytes_of r)) ≤ started_told d x (events h) 0 + starts_of d x
            (records_in (bytes_of r))
        go (silent e) = none-outs d x (bytes_of r) _ e.bytes
        go (calls-of j o f k) =
            rw (bytes-are name h m i r c) (called.only-aired-is-listed name (within h) m.core j (inside (seen_of r)) o d x)

-- ## The incident

-- "An ad server dropped its connection with its spot on air.": after the calls h connection d closes, by a good call, and the calls g
-- follow
module _ (name : List ℕ) (h g : List Made) (m : Memory) (d : ℕ) (e : List ℕ) (r : RollSeen)
    (t : Trace name (h ++ (made (a_known (a_close d e)) r ∷ g)) m) (z : number r ≡ 0) where
  -- its sessions of before stand in the book as they stood at the close, each with its one end; newer are those accepted since
  pub closed-stays-ended : Stands d (book (events (h ++ (made (a_known (a_close d e)) r ∷ []))) [])
      (book (events (h ++ (made (a_known (a_close d e)) r ∷ g))) [])
  unfolding within
  closed-stays-ended =
      let x = made (a_known (a_close d e)) r in
      rw (within-append h (x ∷ []), within-append h (x ∷ g))
      (called.closed-stays-ended name (within h) (within g) m.core d e (inside (seen_of r))
      (subst (λ k. engine.Trace name k m.core) (within-append h (x ∷ g)) (trace-inside name (h ++ (x ∷ g)) m t))
      (sym (number-inside (trace-point name h (x ∷ g) m t).behind.1.0) ∙ z))

  -- an end of the connection that the next call writes is of a newer session that has had none
  pub the-incident : (i : RollInput) (o : RollSeen) → More name (h ++ (made (a_known (a_close d e)) r ∷ g)) m i o → (x : ℕ)
      → ends_of d x (others_by i (records_in (bytes_of o))) ≤ unended d x closed-stays-ended.newer
  the-incident i o c x =
      le_trans (ends-are-owed name (h ++ (made (a_known (a_close d e)) r ∷ g)) m i o c d x) (unended-newer d x _ _ closed-stays-ended)

-- ## Document 02, CR 2

module _ (name : List ℕ) (h : List Made) (m : Memory) where
  -- "Demand 3 still counts from the answers, and the stored number is shown equal to that."
  pub stored-as-told : Trace name h m → counts_of m.core.words ≡ counts_told (events h)
  stored-as-told t = called.stored-as-told name (within h) m.core (trace-inside name h m t)

  -- and so are the four words that C reads
  pub read-as-told : Trace name h m → (r : List ℕ) → Counts m.core.words m.core.bytes r → r ≡ counts_told (events h)
  read-as-told t = called.read-as-told name (within h) m.core (trace-inside name h m t)

-- ## Document 02, CR 4

-- "so no two started sessions ever have the same AccessType": those that the started words hold fall strictly, from the one on air down
pub no-two-alike : (name : List ℕ) (h : List Made) (m : Memory) → Trace name h m → Falling (shown m).splicer.queue.started
no-two-alike name h m t = called.no-two-alike name (within h) m.core (trace-inside name h m t)

-- ## Document 02, CR 5

module _ (name : List ℕ) (h : List Made) (m : Memory) where
  -- "sessions carry the value", 1 to 10: every session held, waiting, on air or covered
  pub mux-in-range : Trace name h m → Each MuxInRange (shown m).splicer.queue
  mux-in-range t = called.mux-in-range name (within h) m.core (trace-inside name h m t)

  -- "the caller can read that of the one on air, 5 with none": whatever the read's contract allows is what the request asked that was last
  -- accepted under the number on air
  pub air-mux-told : Trace name h m → (r : ℕ) → ReadsMux m.core.words m.core.bytes r
      → r ≡ air_mux_told (shown m).splicer.queue.started (book (events h) [])
  air-mux-told t = called.air-mux-told name (within h) m.core (trace-inside name h m t)

  -- and it is 1 to 10
  pub air-mux-in-range : Trace name h m → (r : ℕ) → ReadsMux m.core.words m.core.bytes r → (1 ≤ r) × (r ≤ 10)
  air-mux-in-range t = called.air-mux-in-range name (within h) m.core (trace-inside name h m t)

-- ## Document 02, CR 8

module _ (name : List ℕ) (h : List Made) (m : Memory) where
  -- "The state now also keeps the last 16 ended sessions .. oldest dropped first": what the words keep is, newest first, the first 16 of
  -- the ends
  -- that the answers' bytes tell: connection, SessionID and result of each end record, the SpliceEventID of the request that its connection
  -- last had
  -- accepted under that SessionID, and the PlayedDuration of the record, or where it shows none of the time on air, counted from the
  -- history as
  -- CR 13 counts it: 0 where the start was never written
  pub kept-as-told : Trace name h m → KeptAs (recent (shown m).splicer.queue.lately) (ends_told (events h))
  kept-as-told t = called.kept-as-told name (within h) m.core (trace-inside name h m t)

  -- each accepted session that has ended has made one of them, and one that has not ended none
  pub one-kept-for-each : Trace name h m → (c x : ℕ) → count (of_number c x) (ends_told (events h)) ≡ ended_once c x (book (events h) [])
  one-kept-for-each t = called.one-kept-for-each name (within h) m.core (trace-inside name h m t)

-- the next message, from whatever connection d, which asks by an ExtendedData_Request for the number x
module _ (name : List ℕ) (h : List Made) (m : Memory) (d : ℕ) (l pm im e : List ℕ) (r : RollSeen)
    (c : More name h m (a_known (a_message d l pm im e)) r) (x : ℕ)
    (asks : Inquires d l (lending_maps pm im (length e)) x (shown m).splicer) where
  -- "answered with the asking connection's latest ended session of that number", "121 .. where none is kept"
  pub extended-answered : Finds d x (recent (shown m).splicer.queue.lately) (bytes_of r)
  extended-answered =
      rw (bytes-are name h m _ r c)
      (called.extended-answered name (within h) m.core d l pm im e (inside (seen_of r)) (known_more name h m (a_message d l pm im e) r c) x
      asks)

  -- and so, of the sixteen latest ends that the answers' bytes tell, the first with that connection and number, or 121
  pub extended-told : records_in (bytes_of r) ≡ answer_told d x (take most_kept (ends_told (events h))) ∷ []
  extended-told =
      rw (bytes-are name h m _ r c)
      (called.extended-told name (within h) m.core d l pm im e (inside (seen_of r)) (known_more name h m (a_message d l pm im e) r c) x
      asks)

module _ (name : List ℕ) (h : List Made) (m : Memory) (t : Trace name h m) where
  -- "For the desk's page the caller lends sixteen rows and they are filled from the newest down"
  pub page-read : (lent : List Row) {n : ℕ} {a : List Row} → length lent ≡ rows → Pages (late_of m.core.words) lent n a →
      (n ≡ 0) × (a ≡ rows_of (shown m).splicer.queue.lately)
  page-read lent k p =
      let w = core.trace-lent name (within h) m.core (trace-inside name h m t) in (
        (page-filled (late_of m.core.words) lent k p).0,
        page-shown m.core.words w.whole.words (reached-sound _ w.reached).lately lent k p,
      )

-- ## Document 02, CR 10

module _ (name : List ℕ) (h : List Made) (m : Memory) where
  -- "Keep the waiting sessions ordered by start": those that the waiting words hold, first place first, rise strictly in start, and each
  -- starts after the clock
  pub waiting-in-order : Trace name h m
      → Sorted (shown m).splicer.queue.waiting × All (λ s. (shown m).splicer.clock < s.start.0) (shown m).splicer.queue.waiting
  waiting-in-order t = called.waiting-in-order name (within h) m.core (trace-inside name h m t)

  -- so the first of them is the next start of all
  pub first-starts-next : Trace name h m → 0 < length (shown m).splicer.queue.waiting →
      earliest (λ s. s.start) (shown m).splicer.queue.waiting ≡ Some (get_or (shown m).splicer.queue.waiting 0 empty).start
  first-starts-next t = called.first-starts-next name (within h) m.core (trace-inside name h m t)

  -- and with none started it is what is due next
  pub first-is-next : Trace name h m → 0 < length (shown m).splicer.queue.waiting → (shown m).splicer.queue.started ≡ [] →
      due (shown m).splicer.queue ≡ Some (get_or (shown m).splicer.queue.waiting 0 empty).start
  first-is-next t = called.first-is-next name (within h) m.core (trace-inside name h m t)

-- ## Document 02, CR 11

module _ (name : List ℕ) (h : List Made) (m : Memory) where
  -- "Report that number with the call. [..] A request not accepted reports 0.": and so does every call that is no Splice_Request answered
  -- with 100, every instant and reading among them; fresh too
  pub fresh-unmoved : (t : Trace name h m) → moved_in t.reply ≡ 0
  fresh-unmoved t = fresh-moved name h m t ∙ called.fresh-unmoved name (within h) m.core (trace-inside name h m t)

  pub unmoved-else : (i : RollInput) (r : RollSeen) → More name h m i r → grants i (records_in (bytes_of r)) ≡ false → moved r ≡ 0
  unmoved-else i r c g = go (next name h m i r c)
    where
      go : Next name h m i r → moved r ≡ 0
      go (silent e) = e.moved
      go (calls-of j o f k) =
          moved-are name h m i r c
          ∙ called.unmoved-else name (within h) m.core j (inside (seen_of r)) o
          (rw (f.grants (records_in (bytes_of r)), bytes-are name h m i r c) at g)

  -- "and is at most 63", of every call
  pub at-most-63 : (i : RollInput) (r : RollSeen) → More name h m i r → moved r ≤ 63
  at-most-63 i r c = go (next name h m i r c)
    where
      go : Next name h m i r → moved r ≤ 63
      go (silent e) = rw e.moved (omega arith)
      go (calls-of j o f k) = rw (moved-are name h m i r c) (called.at-most-63 name (within h) m.core j (inside (seen_of r)) o)

  -- connection d sends the bytes l, which are a Splice_Request q, and the last record in the answer's bytes is its 100
  module _ (d : ℕ) (l pm im e : List ℕ) (r : RollSeen) (c : More name h m (a_known (a_message d l pm im e)) r) (q : Request)
      (asks : Asks d l (lending_maps pm im (length e)) q (shown m).splicer)
      (yes : own_answer (answers 100 d q.id) (records_in (bytes_of r)) ≡ true) where
    abbrev start : ℕ
    start = (requested d q (shown m).splicer.queue).start.0

    granted : own_answer (answers 100 d q.id) (records_in (engine.bytes_of (inside (seen_of r)))) ≡ true
    granted = rw (bytes-are name h m _ r c) at yes

    -- "It equals the waiting sessions, after any eviction, whose start is later than the new one's": of those that wait after the call
    pub moved-is-later : moved r ≡ count (starts_after start) (shown (left r)).splicer.queue.waiting
    moved-is-later =
        moved-are name h m _ r c
        ∙ called.moved-is-later name (within h) m.core d l pm im e (inside (seen_of r))
        (known_more name h m (a_message d l pm im e) r c) q asks granted

    -- "how many places an acceptance shifts": where it evicts nobody, of the lent places, from the ring's new end on, all but the last
    -- `moved` and its own hold what they held
    pub places-stay : some (starts_at start) (shown m).splicer.queue.waiting ≡ false
        → let k = places.next (see m.core.words).ring_end in
        take (round - (moved r + 1)) (places_from k r.words) ≡ take (round - (moved r + 1)) (places_from k m.core.words)
    places-stay free =
        rw (moved-are name h m _ r c)
        (called.places-stay name (within h) m.core d l pm im e (inside (seen_of r))
        (known_more name h m (a_message d l pm im e) r c) q asks granted free)

-- ## Document 02, CR 13

module _ (name : List ℕ) (h : List Made) (m : Memory) where
  -- "Every moment belongs to someone.": primary time, "counted from the history, as the time in which no session was started and unended",
  -- and
  -- each session's, "the time in which it had the highest AccessType of those started and unended", in ninths, add up to the clock
  pub every-moment : Trace name h m → primary_told (events h) + air_told (events h) ≡ clock_told (events h)
  every-moment t = called.every-moment name (within h) m.core (trace-inside name h m t)

  -- "The sums that the engine itself keeps [..] and a primary sum it keeps from now on are shown equal to these": the primary word
  pub primary-kept : Trace name h m → (see m.core.words).primary ≡ primary_told (events h)
  primary-kept t = called.primary-kept name (within h) m.core (trace-inside name h m t)

  -- and what C reads of it: whatever the read's contract allows
  pub primary-read : Trace name h m → (r : ℕ) → Primary m.core.words m.core.bytes r → r ≡ primary_told (events h)
  primary-read t r c = c ∙ primary-kept t

  -- the time on air that the memory holds of a session: that of the session which its connection last accepted under its number
  pub air-kept : Trace name h m → Each (λ u. u.played.0 ≡ number_told (events h) u.conn u.id) (shown m).splicer.queue
  air-kept t = called.air-kept name (within h) m.core (trace-inside name h m t)

  -- 0 for a waiting one
  pub waiting-played-none : Trace name h m → All (λ u. u.played.0 ≡ 0) (shown m).splicer.queue.waiting
  waiting-played-none t = called.waiting-played-none name (within h) m.core (trace-inside name h m t)

  -- "from which PlayedDuration is rounded", from bytes alone: each SpliceComplete flag 1 in the next answer has as PlayedDuration its
  -- session's time,
  -- counted from the history with this call, divided by 100 and rounded down
  pub played-as-counted : (i : RollInput) (r : RollSeen) → More name h m i r
      → PlayedAs (events (h ++ (made i r ∷ []))) (records_in (bytes_of r))
  played-as-counted i r c = go (next name h m i r c)
    where
      go : Next name h m i r → PlayedAs (events (h ++ (made i r ∷ []))) (records_in (bytes_of r))
      go (silent e) = none-played (events (h ++ (made i r ∷ []))) (bytes_of r) e.bytes
      go (calls-of j o f k) =
          subst (λ (x : List engine.Made). PlayedAs (engine.events x) (records_in (bytes_of r)))
          (sym (within_more h i r ∙ ap (λ x. within h ++ x) k))
          (subst (λ (l : List ℕ). PlayedAs (engine.events (within h ++ (engine.made j (inside (seen_of r)) ∷ []))) (records_in l))
          (sym (bytes-are name h m i r c))
          (called.played-as-counted name (within h) m.core j (inside (seen_of r)) o))

  -- and so has each session in every later list
  pub lists-as-counted : Trace name h m → All (λ a. a.listed ≡ true → a.said ≡ time_told (events h) a / 100) (airings_told (events h))
  lists-as-counted t = called.lists-as-counted name (within h) m.core (trace-inside name h m t)

-- "Between any two points of any sequence of calls": the calls h were made before the first, and then the calls g
module _ (name : List ℕ) (h g : List Made) (m : Memory) (t : Trace name (h ++ g) m) where
  both : engine.Trace name (within h ++ within g) m.core
  both = subst (λ k. engine.Trace name k m.core) (within-append h g) (trace-inside name (h ++ g) m t)

  -- "the growth of the time on the primary channel plus that of all sessions' time on air, in ninths, equals the clock's advance between
  -- them"
  pub no_gap : Gapless (events h) (events (h ++ g))
  no_gap = rw (within-append h g) (called.no_gap name (within h) (within g) m.core both)

  -- a list printed later says the same: each session stands in it, in its order; its time never falls, and is fixed once its end is written
  pub prints-alike : Within (Printed (events h) (events (h ++ g))) (airings_told (events h)) (airings_told (events (h ++ g)))
  prints-alike = rw (within-append h g) (called.prints-alike name (within h) (within g) m.core both)

-- ## Document 02, CR 7

-- a cue call with the section l, what is given with it, and the buffer e; it needs no time of this card's
module _ (name : List ℕ) (h : List Made) (m : Memory) (l g e : List ℕ) (r : RollSeen) (c : More name h m (a_known (a_cue l g e)) r) where
  called-cue : engine.More name (within h) m.core (engine.a_cue l (pts_of g) (get_or g 2 0) (get_or g 3 0) e) (inside (seen_of r))
  called-cue = known_more name h m (a_cue l g e) r c

  -- "It reads the connections' states and changes nothing": the lent words and bytes are after it what they were, also when it is good, and
  -- the counter's words too
  pub cue-changes-nothing : left r ≡ m
  cue-changes-nothing =
      let same =
      called.cue-changes-nothing name (within h) m.core l (pts_of g) (get_or g 2 0) (get_or g 3 0) e (inside (seen_of r)) called-cue in
      λ j. record { core = same j; counter = c.allowed.1 j }

  -- no record of it is a start, an end or an own answer: the waiting counts, the book, the clock, what has started, who owned each ninth,
  -- what has ended and what is kept, from the answers, are with it what they were without it
  pub cue-counts-nothing : Alike (events h) (events (h ++ (made (a_known (a_cue l g e)) r ∷ [])))
  cue-counts-nothing =
      subst (λ (x : List engine.Made). Alike (events h) (engine.events x)) (sym (within_more h (a_known (a_cue l g e)) r))
      (called.cue-counts-nothing name (within h) m.core l (pts_of g) (get_or g 2 0) (get_or g 3 0) e (inside (seen_of r)) called-cue)

  good-cue : number r ≡ 0 → engine.number (inside (seen_of r)) ≡ 0
  good-cue n = sym (number-inside c.allowed.0) ∙ n

  -- of a good one: "to every initialised connection, from 0 upward", each once, and to no other
  pub cue-to-whom : number r ≡ 0 → map conn_of (records_in (bytes_of r)) ≡ concerned (read_cue l) (shown m).splicer
  cue-to-whom n =
      rw (bytes-are name h m _ r c)
      (called.cue-to-whom name (within h) m.core l (pts_of g) (get_or g 2 0) (get_or g 3 0) e (inside (seen_of r)) called-cue (good-cue n))

  -- and which records those are: 117 for a bad section, else the Cue_Request with the cue's time
  pub cue-records : number r ≡ 0 → records_in (bytes_of r)
      ≡ cue_records (read_cue l) (cue_time (pts_of g) (get_or g 2 0) (get_or g 3 0) (read_cue l)) l
      (initialised_ones (shown m).splicer.links)
  cue-records n =
      rw (bytes-are name h m _ r c)
      (called.cue-records name (within h) m.core l (pts_of g) (get_or g 2 0) (get_or g 3 0) e (inside (seen_of r)) called-cue (good-cue n))

  -- "the whole section as it came": each Cue_Request's bytes from the 19th on
  pub cue-whole : All (Carries l) (records_in (bytes_of r))
  cue-whole =
      rw (bytes-are name h m _ r c)
      (called.cue-whole name (within h) m.core l (pts_of g) (get_or g 2 0) (get_or g 3 0) e (inside (seen_of r)) called-cue)

-- ## Document 02, CR 6

module _ (name : List ℕ) (h : List Made) (m : Memory) where
  -- "Keep Hardware_Config per connection": what is kept is what the calls and the answers' bytes tell, the structure of the connection's
  -- latest Init_Request whose answer was Init_Response 100, since it was opened
  pub kept-told : Trace name h m → (d : ℕ) → hardware_of d (shown m).splicer ≡ kept_told d (events h)
  kept-told t = called.kept-told name (within h) m.core (trace-inside name h m t)

  -- "Servers ask with GetConfig_Request (0x000A, no data) and expect ChannelName, the Hardware_Config of their Init_Request and the output
  -- channel's program map section.": of an initialised connection, the answer is that one record
  pub config-told : (d : ℕ) (l pm im e : List ℕ) (r : RollSeen) → More name h m (a_known (a_message d l pm im e)) r
      → AsksConfig d l (lending_maps pm im (length e)) (shown m).splicer → Ready d (shown m).splicer
      → records_in (bytes_of r)
      ≡ ConfigResponse d 100 (shown m).splicer.name (kept_told d (events h)) (section_of (lending_maps pm im (length e)) (shown m).splicer)
      ∷ []
  config-told d l pm im e r c asks ready =
      rw (bytes-are name h m _ r c)
      (called.config-told name (within h) m.core d l pm im e (inside (seen_of r))
      (known_more name h m (a_message d l pm im e) r c) asks ready)

  -- "Our card passes the map of the feed that is on air": the insertion's exactly where an Alive_Request in its place is answered with
  -- State 2
  pub section-told : (d : ℕ) (l pm im e : List ℕ) (r : RollSeen) → More name h m (a_known (a_message d l pm im e)) r
      → AsksAlive d l (lending_maps pm im (length e)) (shown m).splicer → Ready d (shown m).splicer
      → (loans : Loans)
      → section_of loans (shown m).splicer ≡ cond (eqb (state_in (records_in (bytes_of r))) 2) loans.insertion loans.primary
  section-told d l pm im e r c asks ready loans =
      rw (bytes-are name h m _ r c)
      (called.section-told name (within h) m.core d l pm im e (inside (seen_of r))
      (known_more name h m (a_message d l pm im e) r c) asks ready loans)

  -- what C is told of it, 0 or 1, is whose section that is
  pub section-read : (r : ℕ) → ReadsFeed m.core.words m.core.bytes r
      → (loans : Loans) → section_of loans (shown m).splicer ≡ cond (eqb r 0) loans.primary loans.insertion
  section-read = called.section-read name (within h) m.core

  -- "A later Init that gets 100 replaces it; close forgets it.": nothing else changes what a connection keeps, no instant and no reading
  pub nothing-else-changes : (i : RollInput) (r : RollSeen) → More name h m i r
      → (d : ℕ) → changes d i (reply_in r.reply r.buffer) ≡ false
      → hardware_of d (shown (left r)).splicer ≡ hardware_of d (shown m).splicer
  nothing-else-changes i r c d e = go (next name h m i r c)
    where
      go : Next name h m i r → hardware_of d (shown (left r)).splicer ≡ hardware_of d (shown m).splicer
      go (silent s) = ap (λ (x : Memory). hardware_of d (shown x).splicer) s.left
      go (calls-of j o f k) =
          called.nothing-else-changes name (within h) m.core j (inside (seen_of r)) o d
          (rw (f.changes d _, reply-are name h m i r c) at e)

  -- "close forgets it": after a good close the connection's 256 bytes are zero
  pub close-forgets : (d : ℕ) (e : List ℕ) (r : RollSeen) → More name h m (a_known (a_close d e)) r → number r ≡ 0
      → kept_bytes d r.bytes ≡ replicate longest_hardware 0
  close-forgets d e r c z =
      called.close-forgets name (within h) m.core d e (inside (seen_of r)) (known_more name h m (a_close d e) r c)
      (sym (number-inside c.allowed.0) ∙ z)

  -- and after a good open, so after a later one too, a GetConfig_Request gets 103
  pub opened-denied : (d : ℕ) (r : RollSeen) → More name h m (a_known (an_open d)) r → number r ≡ 0
      → (l pm im e : List ℕ) (q : RollSeen) → AllowedAt (left r) (a_known (a_message d l pm im e)) q
      → AsksConfig d l (lending_maps pm im (length e)) (shown (left r)).splicer
      → records_in (bytes_of q) ≡ General d 103 ∷ []
  opened-denied d r c z l pm im e q a asks =
      rw (bytes_inside a.0)
      (called.opened-denied name (within h) m.core d (inside (seen_of r)) (known_more name h m (an_open d) r c)
      (sym (number-inside c.allowed.0) ∙ z) l pm im e (inside (seen_of q))
      (allowed-inside (left r).core (a_message d l pm im e) (seen_of q) a.0) asks)

-- The customer's demands as theorems about the calls of `engine`, each under its sentence; proofs/Demands of demands_door has them of the
-- calls for C, that of demands_rolling of the rolling card's, in the same words (tools/theorems.sh). The only hypothesis is a trace
-- (specs/Trace, specs/Device): fresh, then any calls with any inputs, each result one that the call's contract allows; proofs/Cited holds
-- it to the contracts in engine/src/lib.rt. No axiom, no hole.
mod Words
use Words.*

-- ## "On a splicer that came from fresh and the calls after it"

-- any name of 32 bytes and any inputs: "Over all sequences of opens, closes, messages and ticks from a fresh splicer"
pub any-calls : (name : List ℕ) → length name ≡ 32 → All Byte name → (is : List Input) → All Typed is → Run name is
any-calls = runs

-- one call more gives a trace again
pub trace-goes-on : (name : List ℕ) (h : List Made) (m : Memory) (i : Input) (r : Result) → More name h m i r
    → Trace name (h ++ (made i r ∷ [])) r.memory
trace-goes-on = trace-more

-- and every point of a trace is the end of a trace, so what is said below of a trace's end is said of every point
pub every-point : (name : List ℕ) (h g : List Made) (m : Memory) → Trace name (h ++ g) m → Point name h g m
every-point = trace-point

-- the splicer is determined: the same name and the same inputs (bytes, and buffers as they were before each call) give the same
-- results, which are answers, lent words and bytes, and buffers, and the same memory
pub same-calls-same-results : (name : List ℕ) (h g : List Made) (m n : Memory) → Trace name h m → Trace name g n → inputs h ≡ inputs g
    → (h ≡ g) × (m ≡ n)
same-calls-same-results = trace-same

-- "Over all sequences": what follows is said of the name, the calls h made since, with their results, and the memory m now
module _ (name : List ℕ) (h : List Made) (m : Memory) where
  -- ## Demand 1

  -- "every call takes every input": all that open, close, message and tick require is Lent, and it holds; bring_to asks an instant
  -- below the horizon besides, which is Typed
  pub every-call-may-be-made : Trace name h m → Lent m.words m.bytes
  every-call-may-be-made = trace-lent name h m

  -- and for every input there is a result that the call's contract allows; by same-calls-same-results only one
  pub every-call-is-answered : Trace name h m → (i : Input) → Typed i → Answerable m i
  every-call-is-answered t = answerable m (trace-lent name h m t)

  -- the next call, with the input i, and its result r
  module _ (i : Input) (r : Result) (c : More name h m i r) where
    -- "A bad call gets its number from document 01": the first that applies, in 01's order; 0 stands for a good call
    pub bad-call-number : number r ≡ first_number (checks (call_of i) (shown m))
    bad-call-number = number-first m i r c.allowed

    -- "and the splicer and the lent buffers stay as they were before it"
    pub bad-call-changes-nothing : 0 < number r → (r.memory ≡ m) × (r.buffer ≡ buffer_of i)
    unfolding number_in
    bad-call-changes-nothing bad = go r.answer refl
      where
        go : (a : Answer) → r.answer ≡ a → (r.memory ≡ m) × (r.buffer ≡ buffer_of i)
        go (Err n) e = unchanged m i r c.allowed (trace-lent name h m c.trace) n e
        go (Ok did) e = let z : number r ≡ 0 = ap number_in e in absurd (omega arith)

    -- no answer is longer than 3,174 bytes, so the 4,096 that a good call has are enough
    pub answers-fit : length (bytes_of r) ≤ 3174
    answers-fit =
        rw (as-ruled m i r c.allowed).bytes (told.answers-fit (events h) (shown m) (trace-told name h m c.trace) (call_of i))

  -- fresh: number 9 for a name without a zero byte, and then the memory is that of an empty name, without sessions
  pub bad-name-number : (t : Trace name h m) → number_in t.reply ≡ cond (has_zero name) 0 9
  bad-name-number = fresh-number name h m

  pub bad-name-gives-empty : (t : Trace name h m) → has_zero name ≡ false → t.begun ≡ empty_memory
  bad-name-gives-empty = fresh-empty name h m

  -- ## Demand 2

  -- "every answer byte, its order and the state after it are those that 01's rules give": of the next call
  pub answers-as-ruled : (i : Input) (r : Result) → More name h m i r → AsRuled m i r
  answers-as-ruled i r c = as-ruled m i r c.allowed

  -- and of all calls together: their answers' bytes and refusals are those of 01's calls from a fresh splicer, and so is the splicer now
  pub trace-as-ruled : Trace name h m
      → (events h ≡ history (calls h) (fresh name).splicer) × (shown m ≡ after (calls h) (fresh name).splicer)
  trace-as-ruled = trace-history name h m

  -- "An accepted request is accepted because the rules accept it; a refused one carries the first result code that applies.": connection d
  -- sends
  -- the bytes l, which are a Splice_Request q; the last record in the answer's bytes is the Splice_Response with the code of 01's b to f
  pub first-code-applies : (d : ℕ) (l pm im e : List ℕ) (r : Result) → More name h m (a_message d l pm im e) r
      → (q : Request) → Asks d l (lending_maps pm im (length e)) q (shown m)
      → own_answer (answers (splice_result (shown m).clock d q (requested d q (shown m).queue) (shown m).queue) d q.id)
      (records_in (bytes_of r)) ≡ true
  first-code-applies d l pm im e r c q asks =
      rw (as-ruled m (a_message d l pm im e) r c.allowed).bytes
      (told.first-code-applies (events h) (shown m) (trace-told name h m c.trace) d l (lending_maps pm im (length e)) q asks)

  -- A request that is read passes b to d (a is gone: 02, CR 1), or the last record in the answer's bytes has the first of their codes that
  -- applies
  pub earlier-or-passes : (d : ℕ) (l pm im e : List ℕ) (r : Result) → More name h m (a_message d l pm im e) r
      → (q : Request) → Asks d l (lending_maps pm im (length e)) q (shown m)
      → Passes d q (shown m) ⊎ ((earlier_code d q (shown m) ≡ 100 → ⊥)
      × (own_answer (answers (earlier_code d q (shown m)) d q.id) (records_in (bytes_of r)) ≡ true))
  earlier-or-passes d l pm im e r c q asks =
      rw (as-ruled m (a_message d l pm im e) r c.allowed).bytes
      (told.earlier-or-passes (events h) (shown m) (trace-told name h m c.trace) d l (lending_maps pm im (length e)) q asks)

  -- 02, CR 1: "From here result 110 is no longer met": the result of every record in the answer's bytes, of every call, is one of 100, 102,
  -- 103,
  -- 104, 109, 112, 114, 116, 117, 120, 121, 123, 125; of a Cue_Request 0xFFFF
  pub codes-given : (i : Input) (r : Result) → More name h m i r → All Coded (records_in (bytes_of r))
  codes-given i r c =
      rw (as-ruled m i r c.allowed).bytes (told.codes-given (events h) (shown m) (trace-told name h m c.trace) (call_of i)
      (wired i c.typed))

  -- ## Demand 3

  -- "take a connection's waiting sessions from the answers alone: accepted since it was opened, less those whose start or end was written.
  -- That count never passes 20."
  pub count-never-passes-20 : Trace name h m → (d : ℕ) → waiting_count d (events h) ≤ 20
  count-never-passes-20 t = told.count-never-passes-20 (events h) (shown m) (trace-told name h m t)

  module _ (d : ℕ) (l pm im e : List ℕ) (r : Result) (c : More name h m (a_message d l pm im e) r) (q : Request)
      (asks : Asks d l (lending_maps pm im (length e)) q (shown m)) (passes : Passes d q (shown m)) where
    -- "A request that passes every earlier check in 01's order is refused for a full queue exactly when the count is 20, or when it is
    -- at least 10 and the four counts, each taken as at least 10, add up to 64." Else it is accepted
    pub full-exactly-when : own_answer (answers (cond (full_told d (events h)) 114 100) d q.id) (records_in (bytes_of r)) ≡ true
    full-exactly-when =
        rw (as-ruled m (a_message d l pm im e) r c.allowed).bytes
        (told.full-exactly-when (events h) (shown m) (trace-told name h m c.trace) d l (lending_maps pm im (length e)) q asks passes)

    -- "Reserved places hold against the other connections.": with fewer than 10 waiting it is accepted, whatever the others have
    pub reserved-places-hold : waiting_count d (events h) < 10 → own_answer (answers 100 d q.id) (records_in (bytes_of r)) ≡ true
    reserved-places-hold few = rw (not_full d (events h) few) at full-exactly-when

  -- "No accepted session gets a second end, and each gets exactly one end, at the latest when the clock is brought to its end time or its
  -- connection closes." 02: "Demand 3's one end now includes these records", those of an equal one's start: flag 1 with 125,
  -- Splice_Response 125
  pub one_end : Trace name h m → All (Ended (clock_after (events h) 0)) (book (events h) [])
  one_end t = told.one_end (events h) (shown m) (trace-told name h m t)

  -- the next call, of any connection d and any number x
  module _ (i : Input) (r : Result) (c : More name h m i r) (d x : ℕ) where
    -- An end in its answer's bytes, 125 by an equal one's start among them, a Splice_Request's own answer apart, is of an accepted session
    -- that
    -- had none: it is neither a second end nor the end of a number that nobody was granted
    pub ends-are-owed : ends_of d x (others_of (call_of i) (records_in (bytes_of r))) ≤ unended d x (book (events h) [])
    ends-are-owed =
        rw (as-ruled m i r c.allowed).bytes
        (told.ends-are-owed d x (events h) (shown m) (trace-told name h m c.trace) (call_of i) (wired i c.typed))

    -- "Two operators' as-run logs listed a spot that never aired.": a SpliceComplete flag 1 is written only under a number whose start is
    -- written, since its last end or by the same call
    pub only-aired-is-listed : outs_of d x (records_in (bytes_of r)) ≤ started_told d x (events h) 0 + starts_of d x
        (records_in (bytes_of r))
    only-aired-is-listed =
        rw (as-ruled m i r c.allowed).bytes
        (told.only-aired-is-listed d x (events h) (shown m) (trace-told name h m c.trace) (call_of i) (wired i c.typed))

-- ## The incident

-- "An ad server dropped its connection with its spot on air.": after the calls h connection d closes, by a good call, and the calls g
-- follow
module _ (name : List ℕ) (h g : List Made) (m : Memory) (d : ℕ) (e : List ℕ) (r : Result)
    (t : Trace name (h ++ (made (a_close d e) r ∷ g)) m) (z : number r ≡ 0) where
  -- its sessions of before stand in the book as they stood at the close, each with its one end; newer are those accepted since
  pub closed-stays-ended : Stands d (book (events (h ++ (made (a_close d e) r ∷ []))) [])
      (book (events (h ++ (made (a_close d e) r ∷ g))) [])
  closed-stays-ended = closed-stands name h g m d e r t z

  -- "the completion routine then wrote the old spot's end under the new SessionID": an end of the connection that the next call writes, 125
  -- too,
  -- is of a newer session that has had none
  pub the-incident : (i : Input) (o : Result) → More name (h ++ (made (a_close d e) r ∷ g)) m i o → (x : ℕ)
      → ends_of d x (others_of (call_of i) (records_in (bytes_of o))) ≤ unended d x closed-stays-ended.newer
  the-incident i o c x =
      le_trans (ends-are-owed name (h ++ (made (a_close d e) r ∷ g)) m i o c d x) (unended-newer d x _ _ closed-stays-ended)

-- ## Document 02, CR 2

module _ (name : List ℕ) (h : List Made) (m : Memory) where
  -- "Demand 3 still counts from the answers, and the stored number is shown equal to that."
  pub stored-as-told : Trace name h m → counts_of m.words ≡ counts_told (events h)
  unfolding tallied
  stored-as-told t =
      let n = waiting-counted (events h) (shown m) (trace-told name h m t) in
      rw (n 0, n 1, n 2, n 3) (trace-lent name h m t).whole.words.counts

  -- and so is what is read: every result that the read's contract allows
  pub read-as-told : Trace name h m → (r : List ℕ) → Counts m.words m.bytes r → r ≡ counts_told (events h)
  read-as-told t r c = c ∙ sym (trace-lent name h m t).whole.words.counts ∙ stored-as-told t

-- ## Document 02, CR 4

-- "so no two started sessions ever have the same AccessType": those that the started words hold fall strictly, from the one on air down
pub no-two-alike : (name : List ℕ) (h : List Made) (m : Memory) → Trace name h m → Falling (shown m).queue.started
no-two-alike name h m t = (reached-sound (shown m) (trace-lent name h m t).reached).holding.falling

-- ## Document 02, CR 5

module _ (name : List ℕ) (h : List Made) (m : Memory) where
  -- "sessions carry the value", 1 to 10: every session held, waiting, on air or covered
  pub mux-in-range : Trace name h m → Each MuxInRange (shown m).queue
  mux-in-range t = told.mux-in-range (events h) (shown m) (trace-told name h m t)

  -- "the caller can read that of the one on air, 5 with none": whatever the read's contract allows is what the request asked that was last
  -- accepted under the number on air, taken from the calls and the answers' bytes
  pub air-mux-told : Trace name h m → (r : ℕ) → ReadsMux m.words m.bytes r
      → r ≡ air_mux_told (shown m).queue.started (book (events h) [])
  air-mux-told t r c = c ∙ told.air-mux-told (events h) (shown m) (trace-told name h m t)

  -- and it is 1 to 10
  pub air-mux-in-range : Trace name h m → (r : ℕ) → ReadsMux m.words m.bytes r → (1 ≤ r) × (r ≤ 10)
  air-mux-in-range t r c = rw c (told.air-mux-in-range (events h) (shown m) (trace-told name h m t))

-- ## Document 02, CR 8

module _ (name : List ℕ) (h : List Made) (m : Memory) where
  -- "The state now also keeps the last 16 ended sessions .. oldest dropped first": what the words keep is, newest first, the first 16 of
  -- the ends
  -- that the answers' bytes tell: connection, SessionID and result of each end record, the SpliceEventID of the request that its connection
  -- last had
  -- accepted under that SessionID, and the PlayedDuration of the record, or where it shows none of the time on air, counted from the
  -- history as
  -- CR 13 counts it: 0 where the start was never written
  pub kept-as-told : Trace name h m → KeptAs (recent (shown m).queue.lately) (ends_told (events h))
  kept-as-told t = told.kept-as-told (events h) (shown m) (trace-told name h m t)

  -- under each number as many are told as its accepted sessions have ended, so each has made one, and one that has not ended none
  pub one-kept-for-each : Trace name h m → (c x : ℕ) → count (of_number c x) (ends_told (events h)) ≡ ended_once c x (book (events h) [])
  one-kept-for-each t = told.one-kept-for-each (events h) (shown m) (trace-told name h m t)

-- the next message, from whatever connection d, which asks by an ExtendedData_Request for the number x
module _ (name : List ℕ) (h : List Made) (m : Memory) (d : ℕ) (l pm im e : List ℕ) (r : Result)
    (c : More name h m (a_message d l pm im e) r)
    (x : ℕ)
    (asks : Inquires d l (lending_maps pm im (length e)) x (shown m)) where
  -- "answered with the asking connection's latest ended session of that number", "121 .. where none is kept": whatever the call's contract
  -- allows is the first of what ended lately, newest first, with that connection and number, or 121 exactly when there is none
  pub extended-answered : Finds d x (recent (shown m).queue.lately) (bytes_of r)
  extended-answered =
      rw (as-ruled m (a_message d l pm im e) r c.allowed).bytes
      (told.extended-answered (events h) (shown m) (trace-told name h m c.trace) d l (lending_maps pm im (length e)) x asks)

  -- and so, of the sixteen latest ends that the answers' bytes tell, the first with that connection and number, or 121
  pub extended-told : records_in (bytes_of r) ≡ answer_told d x (take most_kept (ends_told (events h))) ∷ []
  extended-told =
      rw (as-ruled m (a_message d l pm im e) r c.allowed).bytes
      (told.extended-told (events h) (shown m) (trace-told name h m c.trace) d l (lending_maps pm im (length e)) x asks)

-- ## Document 02, CR 10

module _ (name : List ℕ) (h : List Made) (m : Memory) where
  -- "Keep the waiting sessions ordered by start": those that the waiting words hold, first place first, rise strictly in start, and each
  -- starts after the clock
  pub waiting-in-order : Trace name h m → Sorted (shown m).queue.waiting × All (λ s. (shown m).clock < s.start.0)
      (shown m).queue.waiting
  waiting-in-order t =
      let k = (reached-sound (shown m) (trace-lent name h m t).reached).holding.timed in
      (k.sorted, all-into (Later (shown m).clock) (λ s. (shown m).clock < s.start.0) (λ s l. l.0) (shown m).queue.waiting k.later)

  -- so the first of them is the next start of all
  pub first-starts-next : Trace name h m → 0 < length (shown m).queue.waiting →
      earliest (λ s. s.start) (shown m).queue.waiting ≡ Some (get_or (shown m).queue.waiting 0 empty).start
  first-starts-next t some = earliest-start (shown m).queue.waiting empty (waiting-in-order t).0 some

  -- and with none started it is what is due next
  pub first-is-next : Trace name h m → 0 < length (shown m).queue.waiting → (shown m).queue.started ≡ [] →
      due (shown m).queue ≡ Some (get_or (shown m).queue.waiting 0 empty).start
  unfolding due
  first-is-next t some none = rw none (ap (sooner None) (first-starts-next t some))

-- ## Document 02, CR 11

module _ (name : List ℕ) (h : List Made) (m : Memory) where
  -- "Report that number with the call. [..] A request not accepted reports 0.": and so does every call that is no Splice_Request answered
  -- with
  -- 100; fresh too
  pub fresh-unmoved : (t : Trace name h m) → moved_in t.reply ≡ 0
  fresh-unmoved t = ap moved_in t.fresh.answer ∙ fresh-none name

  pub unmoved-else : (i : Input) (r : Result) → More name h m i r → granted_by (call_of i) (records_in (bytes_of r)) ≡ false → moved r ≡ 0
  unmoved-else i r c g =
      moved-is m i r c.allowed
      ∙ shifting.unmoved-else (events h) (shown m) (trace-told name h m c.trace) (call_of i) (wired i c.typed)
      (rw (as-ruled m i r c.allowed).bytes at g)

  -- "and is at most 63", of every call
  pub at-most-63 : (i : Input) (r : Result) → More name h m i r → moved r ≤ 63
  at-most-63 i r c =
      rw (moved-is m i r c.allowed) (shifting.at-most-63 (events h) (shown m) (trace-told name h m c.trace) (call_of i)
      (wired i c.typed))

  -- connection d sends the bytes l, which are a Splice_Request q, and the last record in the answer's bytes is its 100
  module _ (d : ℕ) (l pm im e : List ℕ) (r : Result) (c : More name h m (a_message d l pm im e) r) (q : Request)
      (asks : Asks d l (lending_maps pm im (length e)) q (shown m)) (yes : own_answer (answers 100 d q.id) (records_in (bytes_of r)) ≡ true)
    where
      abbrev start : ℕ
      start = (requested d q (shown m).queue).start.0

      code : splice_result (shown m).clock d q (requested d q (shown m).queue) (shown m).queue ≡ 100
      code = last_code (records_in (bytes_of r)) _ _ d q.id (first-code-applies name h m d l pm im e r c q asks) yes

      -- "It equals the waiting sessions, after any eviction, whose start is later than the new one's": of those that wait after the call
      pub moved-is-later : moved r ≡ count (starts_after start) (shown r.memory).queue.waiting
      moved-is-later =
          moved-is m (a_message d l pm im e) r c.allowed
          ∙ shifting.moved-is-later d l (lending_maps pm im (length e)) q (shown m) asks code
          ∙ ap (λ (s : Splicer). count (starts_after start) s.queue.waiting)
          (sym (as-ruled m (a_message d l pm im e) r c.allowed).state)

      -- "how many places an acceptance shifts": where it evicts nobody, of the lent places, from the ring's new end on, all but the last
      -- `moved` and its own hold what they held
      pub places-stay : some (starts_at start) (shown m).queue.waiting ≡ false
          → let k = next (see m.words).ring_end in
          take (round - (moved r + 1)) (places_from k r.memory.words) ≡ take (round - (moved r + 1)) (places_from k m.words)
      places-stay = others-stay m (trace-lent name h m c.trace) d l pm im e r c.allowed q asks code

-- ## Document 02, CR 13

-- the events of calls h, and of the calls g behind them, made from the memory m
later-events : (h g : List Made) (m n : Memory) → Leads m g n → events (h ++ g) ≡ events h ++ history (calls g) (shown m)
later-events h g m n l = events-append h g ∙ ap (λ (e : List Event). events h ++ e) (led-heard g m n l)

module _ (name : List ℕ) (h : List Made) (m : Memory) where
  -- "Every moment belongs to someone.": primary time, "counted from the history, as the time in which no session was started and unended",
  -- and
  -- each session's, "the time in which it had the highest AccessType of those started and unended", in ninths, add up to the clock
  pub every-moment : Trace name h m → primary_told (events h) + air_told (events h) ≡ clock_told (events h)
  every-moment t = owners.every-moment (events h) (shown m) (trace-told name h m t)

  -- "The sums that the engine itself keeps [..] and a primary sum it keeps from now on are shown equal to these": the primary word
  pub primary-kept : Trace name h m → (see m.words).primary ≡ primary_told (events h)
  primary-kept t = owners.primary-kept (events h) (shown m) (trace-told name h m t)

  -- and what is read of it: every result that the read's contract allows
  pub primary-read : Trace name h m → (r : ℕ) → Primary m.words m.bytes r → r ≡ primary_told (events h)
  primary-read t r c = c ∙ primary-kept t

  -- the time on air that the memory holds of a session: that of the session which its connection last accepted under its number
  pub air-kept : Trace name h m → Each (λ u. u.played.0 ≡ number_told (events h) u.conn u.id) (shown m).queue
  air-kept t = owners.air-kept (events h) (shown m) (trace-told name h m t)

  -- 0 for a waiting one
  pub waiting-played-none : Trace name h m → All (λ u. u.played.0 ≡ 0) (shown m).queue.waiting
  waiting-played-none t = (reached-sound (shown m) (trace-lent name h m t).reached).holding.played.silent

  -- "from which PlayedDuration is rounded", from bytes alone: each SpliceComplete flag 1 in the next answer has as PlayedDuration its
  -- session's time,
  -- counted from the history with this call, divided by 100 and rounded down
  pub played-as-counted : (i : Input) (r : Result) → More name h m i r → PlayedAs (events (h ++ (made i r ∷ []))) (records_in (bytes_of r))
  played-as-counted i r c =
      let g = made i r ∷ [] in
      subst (λ (e : List Event). PlayedAs e (records_in (bytes_of r))) (sym (later-events h g m r.memory (c.typed, c.allowed, refl)))
      (subst (λ (l : List ℕ). PlayedAs (events h ++ history (calls g) (shown m)) (records_in l)) (sym (as-ruled m i r c.allowed).bytes)
      (said.played-as-counted (events h) (shown m) (trace-told name h m c.trace) (call_of i) (wired i c.typed)))

  -- and so has each session in every later list
  pub lists-as-counted : Trace name h m → All (λ a. a.listed ≡ true → a.said ≡ time_told (events h) a / 100) (airings_told (events h))
  lists-as-counted t = owners.lists-as-counted (events h) (shown m) (trace-told name h m t)

-- "Between any two points of any sequence of calls": the calls h were made before the first, and then the calls g
module _ (name : List ℕ) (h g : List Made) (m : Memory) (t : Trace name (h ++ g) m) where
  point : Point name h g m
  point = trace-point name h g m t

  -- "the growth of the time on the primary channel plus that of all sessions' time on air, in ninths, equals the clock's advance between
  -- them"
  pub no_gap : Gapless (events h) (events (h ++ g))
  no_gap =
      let p = point in
      subst (λ (e : List Event). Gapless (events h) e) (sym (later-events h g p.here m p.behind))
      (owners.no_gap (events h) (shown p.here) (trace-told name h p.here p.before) (calls g) (led-wired g p.here m p.behind))

  -- a list printed later says the same: each session stands in it, in its order; its time never falls, and is fixed once its end is written
  pub prints-alike : Within (Printed (events h) (events (h ++ g))) (airings_told (events h)) (airings_told (events (h ++ g)))
  prints-alike =
      let p = point in
      subst (λ (e : List Event). Within (Printed (events h) e) (airings_told (events h)) (airings_told e))
      (sym (later-events h g p.here m p.behind))
      (owners.prints-alike (events h) (shown p.here) (trace-told name h p.here p.before) (calls g)
      (led-wired g p.here m p.behind))

-- ## Document 02, CR 7

-- a cue call with the section l, the PTS and its instant, and the buffer e
module _ (name : List ℕ) (h : List Made) (m : Memory) (l : List ℕ) (pts seconds micros : ℕ) (e : List ℕ) (r : Result)
    (c : More name h m (a_cue l pts seconds micros e) r) where
  -- "It reads the connections' states and changes nothing": the lent words and bytes are after it what they were, also when it is good
  pub cue-changes-nothing : r.memory ≡ m
  cue-changes-nothing = memory-stays m l pts seconds micros e r (trace-lent name h m c.trace) c.allowed

  -- no record of it is a start, an end or an own answer: the waiting counts, the book, the clock, what has started, who owned each ninth,
  -- what
  -- has ended and what is kept, from the answers, are with it what they were without it
  pub cue-counts-nothing : Alike (events h) (events (h ++ (made (a_cue l pts seconds micros e) r ∷ [])))
  cue-counts-nothing =
      subst (λ (g : List Event). Alike (events h) g)
      (sym (later-events h (made (a_cue l pts seconds micros e) r ∷ []) m r.memory (c.typed, c.allowed, refl)))
      (told.cue-counts-nothing (events h) (shown m) (trace-told name h m c.trace) l pts seconds micros (length e) c.typed.0)

  -- of a good one: "to every initialised connection, from 0 upward", each once, and to no other
  pub cue-to-whom : number r ≡ 0 → map conn_of (records_in (bytes_of r)) ≡ concerned (read_cue l) (shown m)
  cue-to-whom n =
      rw (as-ruled m (a_cue l pts seconds micros e) r c.allowed).bytes
      (told.cue-to-whom (events h) (shown m) (trace-told name h m c.trace) l pts seconds micros (length e) c.typed.0
      (sym (number_is m (a_cue l pts seconds micros e) r c.allowed) ∙ n))

  -- and which records those are: 117 for a bad section, else the Cue_Request with the cue's time
  pub cue-records : number r ≡ 0 → records_in (bytes_of r)
      ≡ cue_records (read_cue l) (cue_time pts seconds micros (read_cue l)) l (initialised_ones (shown m).links)
  cue-records n =
      rw (as-ruled m (a_cue l pts seconds micros e) r c.allowed).bytes
      (told.cue-records (events h) (shown m) (trace-told name h m c.trace) l pts seconds micros (length e) c.typed.0
      (sym (number_is m (a_cue l pts seconds micros e) r c.allowed) ∙ n))

  -- "the whole section as it came": each Cue_Request's bytes from the 19th on
  pub cue-whole : All (Carries l) (records_in (bytes_of r))
  cue-whole =
      rw (as-ruled m (a_cue l pts seconds micros e) r c.allowed).bytes
      (told.cue-whole (events h) (shown m) (trace-told name h m c.trace) l pts seconds micros (length e) c.typed.0)

-- ## Document 02, CR 6

module _ (name : List ℕ) (h : List Made) (m : Memory) where
  -- "Keep Hardware_Config per connection": what is kept is what the calls and the answers' bytes tell, the structure of the connection's
  -- latest
  -- Init_Request whose answer was Init_Response 100, since it was opened
  pub kept-told : Trace name h m → (d : ℕ) → hardware_of d (shown m) ≡ kept_told d (events h)
  kept-told t d = sym (kept.kept-told (events h) (shown m) (trace-told name h m t) d)

  -- "Servers ask with GetConfig_Request (0x000A, no data) and expect ChannelName, the Hardware_Config of their Init_Request and the output
  -- channel's program map section.": of an initialised connection, the answer is that one record
  pub config-told : (d : ℕ) (l pm im e : List ℕ) (r : Result) → More name h m (a_message d l pm im e) r
      → AsksConfig d l (lending_maps pm im (length e)) (shown m) → Ready d (shown m)
      → records_in (bytes_of r) ≡ ConfigResponse d 100 (shown m).name (kept_told d (events h))
      (section_of (lending_maps pm im (length e)) (shown m)) ∷ []
  config-told d l pm im e r c asks ready =
      ap records_in (as-ruled m (a_message d l pm im e) r c.allowed).bytes
      ∙ kept.config-told (events h) (shown m) (trace-told name h m c.trace) d l (lending_maps pm im (length e)) asks ready

  -- "Our card passes the map of the feed that is on air": the insertion's exactly where an Alive_Request in its place is answered with
  -- State 2
  pub section-told : (d : ℕ) (l pm im e : List ℕ) (r : Result) → More name h m (a_message d l pm im e) r
      → AsksAlive d l (lending_maps pm im (length e)) (shown m) → Ready d (shown m)
      → (loans : Loans) → section_of loans (shown m) ≡ cond (eqb (state_in (records_in (bytes_of r))) 2) loans.insertion loans.primary
  section-told d l pm im e r c asks ready loans =
      kept.section-told (events h) (shown m) (trace-told name h m c.trace) d l loans (lending_maps pm im (length e)) asks ready
      ∙ ap (λ (b : List ℕ). cond (eqb (state_in (records_in b)) 2) loans.insertion loans.primary)
      (sym (as-ruled m (a_message d l pm im e) r c.allowed).bytes)

  -- what is read of it, 0 or 1, is whose section that is: every result that the read's contract allows
  pub section-read : (r : ℕ) → ReadsFeed m.words m.bytes r
      → (loans : Loans) → section_of loans (shown m) ≡ cond (eqb r 0) loans.primary loans.insertion
  section-read r c loans = ap (λ (k : ℕ). cond (eqb k 0) loans.primary loans.insertion) (sym c)

  -- "A later Init that gets 100 replaces it; close forgets it.": nothing else changes what a connection keeps
  pub nothing-else-changes : (i : Input) (r : Result) → More name h m i r → (d : ℕ)
      → changed d (call_of i) (reply_in r.answer r.buffer) ≡ false
      → hardware_of d (shown r.memory) ≡ hardware_of d (shown m)
  nothing-else-changes i r c d e =
      ap (hardware_of d) (as-ruled m i r c.allowed).state
      ∙ kept.nothing-else-changes (events h) (shown m) (trace-told name h m c.trace) (call_of i) (wired i c.typed) d
      (ap (changed d (call_of i)) (sym (replied m i r c.allowed)) ∙ e)

  -- "close forgets it": after a good close the connection's 256 bytes are zero
  pub close-forgets : (d : ℕ) (e : List ℕ) (r : Result) → More name h m (a_close d e) r → number r ≡ 0
      → kept_bytes d r.memory.bytes ≡ replicate longest_hardware 0
  close-forgets d e r c z =
      forgotten d r.memory.bytes (close-low d (length e) (shown m) (sym (number-first m (a_close d e) r c.allowed) ∙ z))
      (promised m (a_close d e) r c.allowed).lent.whole.bytes
      (ap (hardware_of d) (as-ruled m (a_close d e) r c.allowed).state
      ∙ kept.close-forgets (events h) (shown m) (trace-told name h m c.trace) d (length e)
      (sym (number_is m (a_close d e) r c.allowed) ∙ z))

  -- and after a good open, so after a later one too, a GetConfig_Request gets 103
  pub opened-denied : (d : ℕ) (r : Result) → More name h m (an_open d) r → number r ≡ 0
      → (l pm im e : List ℕ) (q : Result) → Allowed r.memory (a_message d l pm im e) q
      → AsksConfig d l (lending_maps pm im (length e)) (shown r.memory)
      → records_in (bytes_of q) ≡ General d 103 ∷ []
  opened-denied d r c z l pm im e q a asks =
      let loans = lending_maps pm im (length e) in
      let same = (as-ruled m (an_open d) r c.allowed).state in
      ap records_in (as-ruled r.memory (a_message d l pm im e) q a).bytes
      ∙ ap (λ (s : Splicer). records_in (written_by (call (messages d l loans) s).answer)) same
      ∙ kept.opened-denied (events h) (shown m) (trace-told name h m c.trace) d (sym (number_is m (an_open d) r c.allowed) ∙ z) l loans
      (subst (λ (s : Splicer). AsksConfig d l loans s) same asks)

-- Laws of what this crate promises: records one behind another, and pieces of work one after another.
-- Rests on rules' laws of what is written into a buffer, and on memory's: what is shown determines every word.
use mathlib.Core.Path.{◌≡◌, refl, sym, ap, subst, ◌∙◌}
use mathlib.Core.Bool.{Bool, true, false, ◌||◌}
use mathlib.Core.List.{List, [], ◌∷◌, ◌++◌, map}
use Prim.Native.Nat.{ℕ, zero, suc, ◌+◌, ◌-◌, ◌≤◌, ◌<◌}
use native.Mathlib.Omega.{arith}
use lib.ListN.{length, take, get_or, length-append, length-take, length-drop}
use borrow.Rule.Slice.PartMut.{put_mid, mid_of}
use Rattle.rules.specs.declared.Session.{Session}
use Rattle.rules.specs.declared.Past.{Past}
use Rattle.rules.specs.declared.Ending.{Ending}
use Rattle.rules.specs.declared.Ending.TheVariants.{Complete, Failed, Response}
use Rattle.rules.specs.Lists.{All, some, keep, omit, place, remove_at}
use Rattle.rules.specs.Follows.Sound.{Holding}
use Rattle.rules.specs.State.{Lately, Queue, empty, of, follows, with_waiting}
use Rattle.rules.specs.Recent.{remembered, remembered_all}
use Rattle.rules.specs.Units.{to_ticks}
use Rattle.rules.specs.Bytes.{written}
use Rattle.rules.specs.Records.{Record, result_of, record_bytes, output}
use Rattle.rules.specs.Ends.{Turn, quiet, writes, and_then, ended, past, ending, one_end, all_end, endings, Walk, dismissed, cancelled}
use Rattle.rules.specs.Ends.{closed_by}
use Rattle.rules.specs.Instants.{failed}
use Rattle.rules.proofs.Tests.{by, clash}
use Rattle.rules.proofs.All.{all-into}
use Rattle.rules.proofs.Bounds.{longest}
use Rattle.rules.proofs.Count.{length-split, length-remove_at}
use Rattle.rules.proofs.Every.{Fewer, fewer-same, fewer-remove_at, fewer-all}
use Rattle.rules.proofs.Lately.{remembered-append}
use Rattle.rules.proofs.Sound.{played-now}
use Rattle.rules.proofs.Size.{weight-none, weight-ended, weight-all}
use Rattle.rules.proofs.Written.{written_none, written-part, output-append, output-one, written-output}
use Rattle.rules.proofs.Walk.{walk_none, walk_more}
use Rattle.memory.specs.declared.Which.{Which}
use Rattle.memory.specs.declared.Which.TheVariants.{Waiting, Started}
use Rattle.memory.specs.Memory.{Memory, see, sessions, list_of, listed, queued, relisted, recalling, Form, Now}
use Rattle.memory.proofs.Laws.{sessions-list, same-words}
use Rattle.writing.specs.Puts.{Puts}
use Rattle.ends.specs.Does.{Playable, Writable, Completing, room_for, Tells, Turns, Does, one_ended, chain_ended, ending_at}
use Rattle.ends.specs.Does.{air_ended, those_ended, theirs_ended}

-- ## Records, one behind another

module _ {e : List ℕ} {len : ℕ} where
  pub tells_none : Tells e len [] len e
  unfolding output
  tells_none = record { count = omega arith; bytes = sym (written_none e len) }

  -- one record
  pub tells-one : {r : Record} {to : ℕ} {o : List ℕ} → to ≡ len + length (record_bytes r) → o ≡ written e len (record_bytes r) →
      Tells e len (r ∷ []) to o
  tells-one {r} c b =
      record {
        count = c ∙ ap (λ (l : List ℕ). len + length l) (sym (output-one r));
        bytes = b ∙ ap (written e len) (sym (output-one r));
      }

  -- one record, put at the start of the part behind the last
  pub tells-part : {r : Record} {n : ℕ} {y : List ℕ} → len ≤ length e → Puts r (mid_of len (length e - len) e) n y →
      Tells e len (r ∷ []) (len + n) (put_mid len (length e - len) e y)
  tells-part {r} {y = y} h w =
      tells-one (omega (arith, w.count))
      (written-part len e y (record_bytes r) (omega (arith, w.count, simp (length-take, length-drop) at w.fits)) w.bytes)

  -- some records, and others behind them
  pub tells-then : {rs ss : List Record} {n to : ℕ} {o o' : List ℕ} → len + length (output rs) ≤ length e →
      Tells e len rs n o → Tells o n ss to o' → Tells e len (rs ++ ss) to o'
  tells-then {rs} {ss} {n} h a b =
      record {
        count =
            b.count
            ∙ omega (arith, a.count, length-append (output rs) (output ss))
            ∙ ap (λ (l : List ℕ). len + length l) (sym (output-append rs ss));
        bytes = b.bytes ∙ ap (λ (l : List ℕ). written l n (output ss)) a.bytes ∙ written-output e len rs ss n h a.count;
      }

-- one record, put at the start of the buffer
pub tells_first : {e : List ℕ} {r : Record} {n : ℕ} {o : List ℕ} → Puts r e n o → Tells e 0 (r ∷ []) n o
tells_first w = tells-one (omega (arith, w.count)) w.bytes

-- ## Work on the queue

module _ {e : List ℕ} {len : ℕ} where
  -- nothing is done
  pub turns-quiet : {m : List ℕ} → Form m → Turns e len (quiet (see m).queue) (see m) m len e
  turns-quiet f = record { shows = record { form = f; is = refl }; tells = tells_none }

  -- one piece of work, and another from where it ended
  pub turns_then : (t : Turn) (f : Queue → Turn) {s : Memory} {m m' : List ℕ} {n to : ℕ} {o o' : List ℕ} →
      len + length (output t.written) ≤ length e → Turns e len t s m n o → Turns o n (f (see m).queue) (see m) m' to o' →
      Turns e len (and_then t f) s m' to o'
  unfolding and_then
  turns_then t f {s} {m} {m'} {n} {to} {o} {o'} h a b =
      let c = subst (λ (z : Memory). Turns o n (f z.queue) z m' to o') a.shows.is b in
      record { shows = c.shows; tells = tells-then h a.tells c.tells }

  -- what the queue was before the work does not matter
  pub turns-over : {t : Turn} {q : Queue} {s : Memory} {m : List ℕ} {to : ℕ} {o : List ℕ} → Turns e len t (queued q s) m to o →
      Turns e len t s m to o
  turns-over v = record { shows = v.shows; tells = v.tells }

-- one record is put at the start of the buffer, and the words m show what they showed
pub turns-first : {e : List ℕ} {r : Record} {m : List ℕ} {n : ℕ} {o : List ℕ} → Form m → Puts r e n o →
    Turns e 0 (writes (r ∷ []) (see m).queue) (see m) m n o
turns-first f w = record { shows = record { form = f; is = refl }; tells = tells_first w }

-- ## An end

-- it fits the room of one session
pub brief : (h : Ending) (s : Session) → length (output (ended h s ∷ [])) ≤ room_for 1
brief h s = omega (arith, weight-ended h s [], weight-none)

-- so much is written at most
pub told-one : (h : Ending) (s : Session) {e o : List ℕ} {len to : ℕ} → Tells e len (ended h s ∷ []) to o → to ≤ len + room_for 1
told-one h s t = omega (arith, t.count, brief h s)

pub writable : (h : Ending) (s : Session) → Playable s → Writable h s
writable (Complete r) s p = p
writable Failed s p = tt
writable (Response r) s p = tt

-- what the tags say
pub completing : (h : Ending) → ((r : ℕ) → h ≡ Response r → ⊥) → Completing h
completing (Complete r) k = tt
completing Failed k = tt
completing (Response r) k = k r refl

-- the result of an end is its own, whoever ends
pub result-any : (h : Ending) (s : Session) → result_of (ended h empty) ≡ result_of (ended h s)
result-any (Complete r) s = refl
result-any Failed s = refl
result-any (Response r) s = refl

-- what is kept of an end, its result and time on air as they were found
pub kept-as : (h : Ending) (x : Session) (m : List ℕ) {n : List ℕ} {r p : ℕ} → r ≡ result_of (ended h empty) → p ≡ (to_ticks x.played).0 →
    Now n (recalling (record { conn = x.conn; id = x.id; event = x.event; result = r; played = p }) (see m))
    → Now n (recalling (past h x) (see m))
kept-as h x m {n} {r} {p} e f k =
    let a : r ≡ result_of (ended h x) = e ∙ result-any h x in
    subst (λ (z : Past). Now n (recalling z (see m))) (λ i. record {
      conn = x.conn;
      id = x.id;
      event = x.event;
      result = a i;
      played =
          f i;
    }) k

-- an end is kept and written
pub end-done : (h : Ending) (x : Session) (m : List ℕ) {n e o : List ℕ} {len to : ℕ} → Now n (recalling (past h x) (see m))
    → Tells e len (ended h x ∷ []) to o →
    Does (ending (one_end h x)) len m e to n o
unfolding remembered_all
end-done h x m s t = record { shows = s; tells = t }

-- the session i of a list is taken out of it, and its end kept and written
pub one_ended_lem : (v : Which) (m : List ℕ) (i : ℕ) (h : Ending) {n n' e o : List ℕ} {len to : ℕ} {x : Session}
    → x ≡ get_or (sessions v m) i empty →
    Now n (relisted v (remove_at i (sessions v m)) (see m)) → Does (ending (one_end h x)) len n e to n' o
    → Does (one_ended v i h) len m e to n' o
unfolding one_ended
one_ended_lem v m i h {n' = n'} {e = e} {o = o} {len = len} {to = to} {x = x} q s t =
    let u = subst (λ (z : Memory). Turns e len (ending (one_end h x) z.queue) z n' to o) s.is t in
    rw (← (sessions-list v m), ← q) (turns-over u)

-- one of those that wait is gone
pub removed-less : (i : ℕ) (s : Memory) {m : List ℕ} → i < length s.queue.waiting →
    Now m (queued (with_waiting (remove_at i s.queue.waiting) s.queue) s)
    → suc (length (see m).queue.waiting) ≡ length s.queue.waiting
removed-less i s h n =
    ap (λ (z : Memory). suc (length z.queue.waiting)) n.is ∙ length-remove_at i s.queue.waiting h

-- so much is written at most
pub end-brief : (v : Which) (i : ℕ) (how : Ending) (m : List ℕ) {e n o : List ℕ} {len to : ℕ} → Does (one_ended v i how) len m e to n o
    → to ≤ len + room_for 1
unfolding one_ended
end-brief v i how m d = told-one how (get_or (list_of v (see m).queue) i empty) d.tells

-- its list has one less
pub one_less : (v : Which) (i : ℕ) (how : Ending) (m : List ℕ) {e n o : List ℕ} {len to : ℕ} → i < length (sessions v m) →
    Does (one_ended v i how) len m e to n o → suc (length (sessions v n)) ≡ length (sessions v m)
unfolding one_ended
one_less Waiting i how m h d =
    ap (λ (z : Memory). suc (length z.queue.waiting)) d.shows.is ∙ length-remove_at i (see m).queue.waiting h
one_less Started i how m h d =
    ap (λ (z : Memory). suc (length z.queue.started)) d.shows.is ∙ length-remove_at i (see m).queue.started h

-- ## Followers, link by link: the two answers of `dismiss`

module _ (r c x : ℕ) (i : ℕ) where
  -- the one at the place i ends, and then those that follow it
  link : (q : Queue) → i ≡ place (follows c x) q.waiting → i < length q.waiting →
      dismissed r c x q ≡ and_then (one_ended Waiting i (Response r) q) (dismissed r c (get_or q.waiting i empty).id)
  unfolding dismissed and_then one_ended remembered_all
  link q f h =
      ap (λ (w : Walk). ending (all_end (Response r) w.gone) (with_waiting w.left q)) (walk_more c x q.waiting i f h)

  module _ (m : List ℕ) {e : List ℕ} {len : ℕ} (f : i ≡ place (follows c x) (see m).queue.waiting) where
    pub dismissed-none : Form m → length (see m).queue.waiting ≤ i → Does (dismissed r c x) len m e len m e
    unfolding dismissed remembered_all
    dismissed-none g h = rw (walk_none c x (see m).queue.waiting i f h) (turns-quiet g)

    pub dismissed-more : {n n' o o' : List ℕ} {mid to y : ℕ} → i < length (see m).queue.waiting → len + room_for 1 ≤ length e →
        y ≡ (get_or (see m).queue.waiting i empty).id → Does (one_ended Waiting i (Response r)) len m e mid n o
        → Does (dismissed r c y) mid n o to n' o' →
        Does (dismissed r c x) len m e to n' o'
    dismissed-more {y = y} h k q d w =
        rw (link (see m).queue f h, ← q) (
        turns_then (one_ended Waiting i (Response r) (see m).queue) (dismissed r c y)
        (omega (arith, d.tells.count, end-brief Waiting i (Response r) m d)) d w
        )

-- x fails: its own end, and then those that follow it
pub fails : (x : Session) (m : List ℕ) {n n' e o o' : List ℕ} {len mid to : ℕ} → len + room_for 1 ≤ length e
    → Does (ending (one_end Failed x)) len m e mid n o →
    Does (dismissed 109 x.conn x.id) mid n o to n' o' → Does (failed x) len m e to n' o'
fails x m k t d = turns_then (ending (one_end Failed x) (see m).queue) (dismissed 109 x.conn x.id) (omega (arith, brief Failed x)) t d

-- ## A session's end, and its followers'

module _ (v : Which) (i : ℕ) (how : Ending) (m : List ℕ) {e n o : List ℕ} {len to : ℕ} (d : Does (one_ended v i how) len m e to n o) where
  -- room for those that follow it
  pub chain-room : let q = (see m).queue in len + room_for (1 + length (listed v (remove_at i (list_of v q)) q).waiting) ≤ length e →
      length o ≡ length e → to + room_for (length (see n).queue.waiting) ≤ length o
  unfolding one_ended
  chain-room h k = omega (arith, end-brief v i how m d, ap (λ (s : Memory). length s.queue.waiting) d.shows.is)

  -- and then they end
  pub chain-turns : (result : ℕ) {c x : ℕ} {n' o' : List ℕ} {to' : ℕ} → c ≡ (get_or (sessions v m) i empty).conn
      → x ≡ (get_or (sessions v m) i empty).id →
      len + room_for 1 ≤ length e → Does (dismissed result c x) to n o to' n' o' → Does (chain_ended v i how result) len m e to' n' o'
  unfolding chain_ended
  chain-turns result f g h k =
      let s = get_or (list_of v (see m).queue) i empty in
      turns_then (one_ended v i how (see m).queue) (dismissed result s.conn s.id)
      (omega (arith, d.tells.count, end-brief v i how m d)) d
      (rw (← (sessions-list v m), ← f, ← g) k)

-- how a covered session ends
pub ending-covered : (i r : ℕ) → (i ≡ 0 → ⊥) → Response r ≡ ending_at i r
ending-covered zero r h = absurd (h refl)
ending-covered (suc i) r h = refl

-- ## A connection's ends at its close

-- the one on air is the first of the started
first_of : (c : ℕ) (l : List Session) → 0 < length l → some (of c) (take 1 l) ≡ of c (get_or l 0 empty)
first_of c [] h = absurd (omega arith)
first_of c (x ∷ l) h = go (of c x)
  where
    go : (b : Bool) → (b || false) ≡ b
    go true = refl
    go false = refl

first-none : (c : ℕ) (l : List Session) → length l ≡ 0 → some (of c) (take 1 l) ≡ false
first-none c [] h = refl
first-none c (x ∷ l) h = absurd (omega arith)

first_some : (c : ℕ) (l : List Session) → some (of c) (take 1 l) ≡ true → 0 < length l
first_some c [] e = absurd (clash false e refl)
first_some c (x ∷ l) e = omega arith

module _ (c : ℕ) (m : List ℕ) {e : List ℕ} where
  -- none is on air
  pub air-none : Form m → length (see m).queue.started ≡ 0 → Does (air_ended c) 0 m e 0 m e
  unfolding air_ended
  air-none f h = rw (first-none c (see m).queue.started h) (turns-quiet f)

  module _ (h : 0 < length (see m).queue.started) where
    -- another's is
    pub air-other : Form m → of c (get_or (see m).queue.started 0 empty) ≡ false → Does (air_ended c) 0 m e 0 m e
    unfolding air_ended
    air-other f d = rw (first_of c (see m).queue.started h ∙ d) (turns-quiet f)

    pub air-ends : {n o : List ℕ} {to : ℕ} → of c (get_or (see m).queue.started 0 empty) ≡ true
        → Does (one_ended Started 0 (Complete 116)) 0 m e to n o →
        Does (air_ended c) 0 m e to n o
    unfolding air_ended
    air-ends d t = rw (first_of c (see m).queue.started h ∙ d) t

-- the room of those that end is enough for their records, and those that wait stay
record Slim (q : Queue) (t : Turn) : Type 0 where
  pub room : length (output t.written) + room_for (length t.queue.started) ≤ room_for (length q.started)
  pub wait : t.queue.waiting ≡ q.waiting

air-slim : (c : ℕ) (q : Queue) → Slim q (air_ended c q)
unfolding air_ended one_ended
air-slim c q =
    let l = q.started in
    by (Slim q) (some (of c) (take 1 l)) _ _
    (λ d. record { room = omega (arith, brief (Complete 116) (get_or l 0 empty), length-remove_at 0 l (first_some c l d)); wait = refl })
    (λ d. record { room = omega (arith, weight-none); wait = refl })

air-fewer : (c : ℕ) (q : Queue) → Fewer q.started (air_ended c q).queue.started
unfolding air_ended one_ended
air-fewer c q =
    let l = q.started in
    by (λ (t : Turn). Fewer l t.queue.started) (some (of c) (take 1 l)) _ _ (λ d. fewer-remove_at 0 l) (λ d. fewer-same l)

theirs-slim : (c : ℕ) (q : Queue) → Slim q (theirs_ended Started c q)
unfolding those_ended
theirs-slim c q =
    let l = q.started in
    record { room = omega (arith, weight-all (Response 116) (keep (of c) l), length-split (of c) l); wait = refl }

-- the one on air, then the covered, then those that wait
closed-by : (c : ℕ) (w k : List Session) (l : Lately) →
    let q : Queue = record { waiting = w; started = k; lately = l } in
    closed_by c q ≡ and_then (and_then (air_ended c q) (theirs_ended Started c)) (theirs_ended Waiting c)
unfolding closed_by cancelled endings and_then air_ended those_ended one_ended remove_at remembered_all
closed-by c w [] l = refl
closed-by c w (s ∷ k) l = go (of c s) refl
  where
    go : (b : Bool) → of c s ≡ b →
        let q : Queue = record { waiting = w; started = s ∷ k; lately = l } in
        closed_by c q ≡ and_then (and_then (air_ended c q) (theirs_ended Started c)) (theirs_ended Waiting c)
    go true d =
        rw d (λ i. record {
          queue = record {
            waiting = omit (of c) w;
            started = omit (of c) k;
            lately =
                remembered-append (map (past (Response 116)) (keep (of c) k)) (map (past (Response 116)) (keep (of c) w))
                (remembered (past (Complete 116) s) l) i;
          };
          written = ended (Complete 116) s ∷ (map (ended (Response 116)) (keep (of c) k) ++ map (ended (Response 116)) (keep (of c) w));
        })
    go false d =
        rw d (rw d (λ i. record {
          queue = record {
            waiting = omit (of c) w;
            started = s ∷ omit (of c) k;
            lately =
                remembered-append (map (past (Response 116)) (keep (of c) k)) (map (past (Response 116)) (keep (of c) w)) l i;
          };
          written = map (ended (Response 116)) (keep (of c) k) ++ map (ended (Response 116)) (keep (of c) w);
        }))

module _ (c : ℕ) (m : List ℕ) {n e o : List ℕ} {to : ℕ} (a : Does (air_ended c) 0 m e to n o) where
  -- room for the covered
  pub cover-room : to + room_for (length (see n).queue.started) ≤ room_for (length (see m).queue.started)
  cover-room =
      omega (arith, a.tells.count, (air-slim c (see m).queue).room, ap (λ (s : Memory). length s.queue.started) a.shows.is)

  -- and their records can be written
  pub cover-playable : All Playable (see m).queue.started → All Playable (see n).queue.started
  cover-playable h =
      subst (λ (s : Memory). All Playable s.queue.started) (sym a.shows.is) (fewer-all Playable (air-fewer c (see m).queue) h)

  module _ {n' o' : List ℕ} {to' : ℕ} (b : Does (theirs_ended Started c) to n o to' n' o') where
    -- room for those that wait
    pub wait-room : to' + room_for (length (see n').queue.waiting) ≤ room_for
        (length (see m).queue.waiting + length (see m).queue.started)
    wait-room =
        omega (
          arith,
          cover-room,
          b.tells.count,
          (theirs-slim c (see n).queue).room,
          ap length (theirs-slim c (see n).queue).wait,
          ap length (air-slim c (see m).queue).wait,
          ap (λ (s : Memory). length s.queue.waiting) a.shows.is,
          ap (λ (s : Memory). length s.queue.waiting) b.shows.is,
        )

    -- all of a connection
    pub closed : {n'' o'' : List ℕ} {to'' : ℕ} → to' ≤ length e → Does (theirs_ended Waiting c) to' n' o' to'' n'' o''
        → Does (closed_by c) 0 m e to'' n'' o''
    closed h d =
        let q = (see m).queue in
        let t = and_then (air_ended c q) (theirs_ended Started c) in
        let u = turns_then (air_ended c q) (theirs_ended Started c) (omega (arith, a.tells.count, b.tells.count)) a b in
        rw (closed-by c q.waiting q.started q.lately) (turns_then t (theirs_ended Waiting c) (omega (arith, u.tells.count)) u d)

-- ## What is held can be written

-- nothing that waits was on air, and no PlayedDuration is longer than the longest Duration
pub playable : (v : Which) (m : List ℕ) → Holding (see m).clock (see m).queue → All Playable (sessions v m)
playable Waiting m h = all-into (λ s. s.played.0 ≡ 0) Playable (λ s e. omega arith) (see m).queue.waiting h.played.silent
playable Started m h =
    all-into (λ s. s.played.0 ≤ longest) Playable (λ s i. omega arith) (see m).queue.started
    (played-now (see m).clock (see m).queue h)

-- ## "any two results it allows are proved equal"

pub does-same : (work : Queue → Turn) (len : ℕ) (m e : List ℕ) {to to' : ℕ} {n n' o o' : List ℕ} → Does work len m e to n o
    → Does work len m e to' n' o' →
    (to ≡ to') × (n ≡ n') × (o ≡ o')
does-same work len m e {n = n} {n' = n'} a b = (
  a.tells.count ∙ sym b.tells.count,
  same-words n n' a.shows.form b.shows.form (a.shows.is ∙ sym b.shows.is),
  a.tells.bytes ∙ sym b.tells.bytes,
)

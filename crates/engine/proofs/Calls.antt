-- What each call's proof says of its own paths: the refusals in their order, and the memory after a call that is done.
-- Rests on what holds of every splicer that fresh and the calls since have given (rules' proofs/Sound).
use mathlib.Core.Path.{◌≡◌, refl, sym, ap, ap₂, subst, ◌∙◌}
use mathlib.Core.Bool.{Bool, true, false, cond, not}
use mathlib.Core.List.{List, [], ◌∷◌}
use Prim.Native.Nat.{ℕ, ◌+◌, ◌≤◌, ◌<◌}
use native.Mathlib.Omega.{arith}
use lib.Dec.{ltb}
use lib.ListN.{length, get_or, set}
use borrow.Author.Tests.{lt-ltb, le-ltb, ltb-true, ltb-false}
use Rattle.rules.specs.declared.Ninths.{Ninths}
use Rattle.rules.specs.contracts.Link.{the_type}
use denote.Enum.Bare.{sameb}
use Rattle.rules.specs.declared.Link.{Link}
use Rattle.rules.specs.declared.Link.TheVariants.{Closed, Opened, Initialised}
use Rattle.rules.specs.declared.Refusal.{Refusal}
use Rattle.rules.specs.declared.Refusal.TheVariants.{NoConnection, NoRoom, ClockBack, AlreadyOpen, NotOpen, BadMicros, LongSection}
use Rattle.rules.specs.declared.Refusal.TheVariants.{BadSection}
use Rattle.rules.specs.declared.Header.{Header}
use Rattle.rules.specs.Lists.{All}
use Rattle.rules.specs.Follows.Wires.{Byte}
use Rattle.rules.specs.Bytes.{data_of}
use Rattle.rules.specs.Units.{bad_micros, time_of, from_micros}
use Rattle.rules.specs.declared.Session.{Session}
use Rattle.rules.specs.State.{Queue, Splicer, no_hardware, is_open, link_of, to_come, with_link}
use Rattle.rules.specs.Records.{output}
use Rattle.rules.specs.Ends.{Turn, closed_by}
use Rattle.rules.specs.Instants.{run_all, silent_all}
use Rattle.rules.specs.Answers.{Answered, says, air_feed, air_map, answer}
use Rattle.rules.specs.Cues.{bad_section, read_cue, cue_time, initialised_ones, cue_records}
use Rattle.rules.specs.HouseNumbers.{Called, no_connection, no_room, not_open}
use Rattle.rules.specs.Calls.{Call, opens, closes, messages, moves, cues, cue_call, call, open_call}
use Rattle.rules.specs.Calls.{close_call, framing, handled, message_call, move_call, tick_call}
use Rattle.rules.specs.HouseNumbers.{Loans, lending_maps, longest_section, long_section}
use Rattle.rules.specs.Calls.{ticked}
use Rattle.rules.specs.HouseNumbers.{refuse, does, replies, written_by, buffer_after}
use Rattle.rules.specs.Follows.Sound.{Holding, Reached, Wired}
use Rattle.rules.specs.Units.{horizon}
use Rattle.rules.proofs.Written.{written_none}
use Rattle.rules.proofs.Sound.{reached-call, reached-sound, few-wait, few-started}
use Rattle.memory.specs.Memory.{Memory, see, Now, timed, linked, queued, silenced, shifted, name_of, kept_of, Holds, shown}
use Rattle.ends.specs.Does.{room_for, Tells, Turns}
use Rattle.instants.specs.Runs.{Ticked}
use Rattle.reply.specs.declared.Did.{Did}
use Rattle.answers.specs.Gives.{Gives, unmoved}
use Rattle.std.specs.Prelude.{Result, Ok, Err}
use Rattle.engine.specs.Lent.{Lent, Answer, Tested, answer_of, Answers, room_test, micros_test, open_test}

-- ## A refusal, and a call that is done

-- "A refusal .. writes nothing .. and changes no state"
pub refused_as : {m b e : List ℕ} (c : Called) (n : Refusal) → Lent m b → c ≡ refuse n (shown m b)
    → Answers c (see m).ring_end e (Err n) m b e
unfolding answer_of buffer_after written_by
refused_as {m} {b} {e} c n l f =
    record {
      lent = l;
      splicer = sym (ap (λ y. y.splicer) f);
      ring = sym (ap (λ y. shifted y.accepted (see m).ring_end) f);
      answer = sym (ap (λ y. answer_of y.answer y.moved) f);
      buffer = sym (ap (λ y. buffer_after y.answer e) f ∙ written_none e 0);
    }

-- the splicer of the name x and the structures h whose words show s
abbrev told : List ℕ → List (List ℕ) → Memory → Splicer
told x h s = record { name = x; clock = s.clock; primary = s.primary; links = s.links; hardware = h; queue = s.queue }

-- bytes that stay
stay : {m b : List ℕ} → Lent m b → Holds b (name_of b) (kept_of b)
stay l = record { stored = l.whole.bytes; name = refl; kept = refl }

-- k is called of the memory m and b, and lent the buffer e: the memory is v and c after it, and "bytes beyond those written stay unchanged"
done-as : (k : Call) {m b e : List ℕ} (consumed : ℕ) (a : Answered) {r : Did} {v c o : List ℕ} → Lent m b → Wired k
    → call k (shown m b) ≡ replies consumed a → Gives a (see m).ring_end e r v c o
    → Answers (call k (shown m b)) (see m).ring_end e (Ok (record { consumed = consumed; written = r.written; moved = r.moved })) v c o
unfolding answer_of buffer_after written_by
done-as k {m} {b} {e} consumed a {r} {v} {c} l wired f g =
    let q : shown v c ≡ (call k (shown m b)).splicer = g.splicer ∙ sym (ap (λ y. y.splicer) f) in
    let n : r.written ≡ length (output a.written) = omega (arith, g.tells.count) in
    record {
      lent = record {
        whole = g.whole;
        reached = subst (λ (s : Splicer). Reached s) (sym q) (reached-call (shown m b) k wired l.reached);
      };
      splicer = q;
      ring = g.ring ∙ sym (ap (λ y. shifted y.accepted (see m).ring_end) f);
      answer = ap₂ (λ (y z : ℕ). Ok (record { consumed = consumed; written = y; moved = z })) n g.moved
          ∙ sym (ap (λ y. answer_of y.answer y.moved) f);
      buffer = g.tells.bytes ∙ sym (ap (λ y. buffer_after y.answer e) f);
    }

-- a turn of the queue, all else as in z, and then one change f of what the words show, which leaves the ring's end; the bytes c hold the
-- structures h then
turned_as : (k : Call) {m b e : List ℕ} (z : Memory) (f : Memory → Memory) (t : Turn) (h : List (List ℕ)) {n v c o : List ℕ} {len : ℕ}
    → (f (queued t.queue z)).ring_end ≡ (see m).ring_end → Lent m b → Wired k
    → call k (shown m b) ≡ does 0 t.written (told (name_of b) h (f (queued t.queue z)))
    → Turns e 0 t z n len o → Now v (f (see n)) → Holds c (name_of b) h
    → Answers (call k (shown m b)) (see m).ring_end e (Ok (unmoved len)) v c o
turned_as k {m} {b} z f t h stays l wired g x y q =
    let is = y.is ∙ ap f x.shows.is in
    done-as k 0 (says t.written (told (name_of b) h (f (queued t.queue z)))) {r = unmoved _} l wired g
    (record {
      whole = record { words = y.form; bytes = q.stored };
      splicer = λ i. told (q.name i) (q.kept i) (is i);
      ring = ap (λ (s : Memory). s.ring_end) is ∙ stays;
      consumed = refl;
      tells = x.tells;
      moved = refl;
    })

-- ## What the work of a call may rely on

pub early : {m b : List ℕ} → Lent m b → (see m).primary ≤ (see m).clock
early {m} {b} l = (reached-sound (shown m b) l.reached).primary

pub holding : {m b : List ℕ} → Lent m b → Holding (see m).clock (see m).queue
holding {m} {b} l = (reached-sound (shown m b) l.reached).holding

module _ {now : ℕ} {q : Queue} (h : Holding now q) where
  pub room-run : {n : ℕ} → 4096 ≤ n → room_for (to_come q) ≤ n
  room-run le = omega (arith, few-wait h, few-started h)

  pub room-all : {n : ℕ} → 4096 ≤ n → room_for (length q.waiting + length q.started) ≤ n
  room-all le = omega (arith, few-wait h, few-started h)

-- ## Open

-- the comparison in `open` and `test_open`
pub open-is : (a : Link) → is_open a ≡ not (sameb the_type a Closed)
open-is Closed = refl
open-is Opened = refl
open-is Initialised = refl

module _ (c : ℕ) (s : Splicer) where
  open_none : 3 < c → open_call c s ≡ refuse NoConnection s
  unfolding open_call
  open_none e = rw (lt-ltb 3 c e)

  open-again : c ≤ 3 → is_open (link_of c s) ≡ true → open_call c s ≡ refuse AlreadyOpen s
  unfolding open_call
  open-again e f = rw (le-ltb 3 c e, f)

  open-good : c ≤ 3 → is_open (link_of c s) ≡ false → open_call c s ≡ does 0 [] (with_link c Opened s)
  unfolding open_call
  open-good e f = rw (le-ltb 3 c e, f)

-- a: what the connection is
module _ {m b : List ℕ} (c : ℕ) (l : Lent m b) where
  pub open-bad : 3 < c → Answers (open_call c (shown m b)) (see m).ring_end [] (Err NoConnection) m b []
  open-bad e = refused_as (open_call c (shown m b)) NoConnection l (open_none c (shown m b) e)

  module _ (a : Link) (low : c ≤ 3) (is : a ≡ get_or (see m).links c Closed) where
    pub open_twice : is_open a ≡ true → Answers (open_call c (shown m b)) (see m).ring_end [] (Err AlreadyOpen) m b []
    open_twice f = refused_as (open_call c (shown m b)) AlreadyOpen l (open-again c (shown m b) low (ap is_open (sym is) ∙ f))

    pub open_done : {v : List ℕ} → is_open a ≡ false → Now v (linked c Opened (see m))
        → Answers (open_call c (shown m b)) (see m).ring_end [] (Ok (unmoved 0)) v b []
    unfolding call output
    open_done f n =
        done-as (opens c) 0 (says [] (with_link c Opened (shown m b))) {r = unmoved 0} l tt
        (open-good c (shown m b) low (ap is_open (sym is) ∙ f))
        (record {
          whole = record { words = n.form; bytes = l.whole.bytes };
          splicer = ap (told (name_of b) (kept_of b)) n.is;
          ring = ap (λ (s : Memory). s.ring_end) n.is;
          consumed = refl;
          tells = record { count = refl; bytes = sym (written_none [] 0) };
          moved = refl;
        })

-- ## 2 and 8: what a test says

abbrev pub passed : Tested
passed = Ok tt

module _ (b : Bool) (n : Refusal) {t : Tested} (is : t ≡ cond b (Err n) passed) where
  says-no : (e : Refusal) → t ≡ Err e → (b ≡ true) × (e ≡ n)
  says-no e f = go b refl is
    where
      go : (a : Bool) → b ≡ a → t ≡ cond a (Err n) passed → (b ≡ true) × (e ≡ n)
      go true x z = (x, cc)
      go false x z = let k : ◌≡◌ {A = ℕ} 0 1 = cc in absurd (omega arith)

  says-yes : t ≡ passed → b ≡ false
  says-yes f = go b refl is
    where
      go : (a : Bool) → b ≡ a → t ≡ cond a (Err n) passed → b ≡ false
      go false x z = x
      go true x z = let k : ◌≡◌ {A = ℕ} 0 1 = cc in absurd (omega arith)

module _ (room : ℕ) {t : Tested} (is : t ≡ room_test room) where
  pub room-refused : (n : Refusal) → t ≡ Err n → (room < 4096) × (n ≡ NoRoom)
  unfolding room_test
  room-refused n e = let x = says-no (no_room room) NoRoom is n e in (ltb-true room 4096 x.0, x.1)

  pub room-past : t ≡ passed → 4096 ≤ room
  unfolding room_test
  room-past e = ltb-false room 4096 (says-yes (no_room room) NoRoom is e)

module _ (micros : ℕ) {t : Tested} (is : t ≡ micros_test micros) where
  pub micros-refused : (n : Refusal) → t ≡ Err n → (999999 < micros) × (n ≡ BadMicros)
  unfolding micros_test
  micros-refused n e = let x = says-no (bad_micros micros) BadMicros is n e in (ltb-true 999999 micros x.0, x.1)

  pub micros-past : t ≡ passed → micros ≤ 999999
  unfolding micros_test
  micros-past e = ltb-false 999999 micros (says-yes (bad_micros micros) BadMicros is e)

-- ## 1, 2, 7: close and message

module _ (c room : ℕ) (links : List Link) where
  pub test-bad : 3 < c → Err NoConnection ≡ open_test c room links
  unfolding open_test
  test-bad e = rw (lt-ltb 3 c e)

  pub test-small : c ≤ 3 → room < 4096 → Err NoRoom ≡ open_test c room links
  unfolding open_test
  test-small e m = rw (le-ltb 3 c e, lt-ltb room 4096 m)

  module _ (a : Link) (low : c ≤ 3) (roomy : 4096 ≤ room) (is : a ≡ get_or links c Closed) where
    pub test-shut : is_open a ≡ false → Err NotOpen ≡ open_test c room links
    unfolding open_test
    test-shut f = rw (le-ltb 3 c low, le-ltb room 4096 roomy, ← is, f)

    pub test_good : is_open a ≡ true → passed ≡ open_test c room links
    unfolding open_test
    test_good f = rw (le-ltb 3 c low, le-ltb room 4096 roomy, ← is, f)

-- the work x, or the refusal
abbrev tested : Tested → Splicer → Called → Called
tested (Ok u) s x = x
tested (Err n) s x = refuse n s

abbrev pub guarded : ℕ → ℕ → Splicer → Called → Called
guarded c room s x =
    cond (no_connection c) (refuse NoConnection s) (cond (no_room room) (refuse NoRoom s) (cond (not_open c s) (refuse NotOpen s) x))

guarded-is : (c room : ℕ) (s : Splicer) (x : Called) (t : Tested) → t ≡ open_test c room s.links → guarded c room s x ≡ tested t s x
unfolding open_test
guarded-is c room s x t e = go (no_connection c) (no_room room) (not_open c s) ∙ ap (λ y. tested y s x) (sym e)
  where
    go : (a b d : Bool) → cond a (refuse NoConnection s) (cond b (refuse NoRoom s) (cond d (refuse NotOpen s) x))
        ≡ tested (cond a (Err NoConnection) (cond b (Err NoRoom) (cond d (Err NotOpen) passed))) s x
    go true b d = refl
    go false true d = refl
    go false false true = refl
    go false false false = refl

-- what the work may rely on
pub test-past : (c room : ℕ) (links : List Link) → passed ≡ open_test c room links → (c ≤ 3) × (4096 ≤ room)
unfolding open_test
test-past c room links e = go (no_connection c) (no_room room) (not (is_open (get_or links c Closed))) refl refl e
  where
    go : (a b d : Bool) → no_connection c ≡ a → no_room room ≡ b
        → passed ≡ cond a (Err NoConnection) (cond b (Err NoRoom) (cond d (Err NotOpen) passed)) → (c ≤ 3) × (4096 ≤ room)
    go true b d x y z = let n : ◌≡◌ {A = ℕ} 0 1 = cc in absurd (omega arith)
    go false true d x y z = let n : ◌≡◌ {A = ℕ} 0 1 = cc in absurd (omega arith)
    go false false d x y z = (ltb-false 3 c x, ltb-false room 4096 y)

-- x: what the call would do; t: the test's answer
pub guard-refused : {m b e : List ℕ} (c : ℕ) (x : Called) (n : Refusal) {t : Tested} → Lent m b → t ≡ open_test c (length e) (see m).links
    → t ≡ Err n → Answers (guarded c (length e) (shown m b) x) (see m).ring_end e (Err n) m b e
guard-refused {m} {b} {e} c x n l f g =
    refused_as (guarded c (length e) (shown m b) x) n l (guarded-is c (length e) (shown m b) x (Err n) (sym g ∙ f))

-- p, q: the sections
module _ (c room : ℕ) (s : Splicer) (d p q : List ℕ) (e : passed ≡ open_test c room s.links) where
  abbrev loans : Loans
  loans = lending_maps p q room

  message-past : message_call c d loans s ≡ cond (long_section loans) (refuse LongSection s) (handled c (framing d) d loans s)
  unfolding message_call
  message-past = guarded-is c room s _ passed e

  message-long : long_section loans ≡ true → message_call c d loans s ≡ refuse LongSection s
  message-long i = message-past ∙ rw i

  message-framed : (f : Result Header Refusal) → long_section loans ≡ false → framing d ≡ f → message_call c d loans s
      ≡ handled c f d loans s
  message-framed f i j = message-past ∙ rw (i, j)

-- 10: "a lent section over 1,024 bytes"
one-long : (p : List ℕ) (room : ℕ) (v : Bool) → ltb longest_section (length p) ≡ v → long_section (lending_maps p p room) ≡ v
one-long p room true e = rw e
one-long p room false e = rw e

air-one : (k : List Session) (p : List ℕ) → air_map k p p ≡ p
unfolding air_feed
air-one [] p = refl
air-one (x ∷ k) p = refl

-- the read of the feed on air
pub feed-none : (l : List Session) → length l ≡ 0 → 0 ≡ air_feed l
unfolding air_feed
feed-none [] h = refl
feed-none (x ∷ l) h = absurd (omega arith)

pub feed-some : (l : List Session) → 0 < length l → 1 ≡ air_feed l
unfolding air_feed
feed-some [] h = absurd (omega arith)
feed-some (x ∷ l) h = refl

module _ {m b e : List ℕ} (c : ℕ) (l : Lent m b) (good : passed ≡ open_test c (length e) (see m).links) where
  pub close-done : {n v p o : List ℕ} {len : ℕ} → Turns e 0 (closed_by c (see m).queue) (see m) n len o → Now v (linked c Closed (see n))
      → Holds p (name_of b) (set (kept_of b) c no_hardware) → Answers (close_call c (length e) (shown m b)) (see m).ring_end e
      (Ok (unmoved len)) v p o
  unfolding close_call call
  close-done =
      turned_as (closes c (length e)) (see m) (linked c Closed) (closed_by c (see m).queue) (set (kept_of b) c no_hardware) refl l tt
      (guarded-is c (length e) (shown m b) _ passed good)

  -- d is what was read; p: the one section that is handed on
  module _ (d p : List ℕ) where
    pub message-section : longest_section < length p
        → Answers (message_call c d (lending_maps p p (length e)) (shown m b)) (see m).ring_end e (Err LongSection) m b e
    message-section h =
        refused_as (message_call c d (lending_maps p p (length e)) (shown m b)) LongSection l
        (message-long c (length e) (shown m b) d p p good (one-long p (length e) true (lt-ltb longest_section (length p) h)))

    module _ (h : length p ≤ longest_section) where
      pub message-unframed : (n : Refusal) {f : Result Header Refusal} → f ≡ framing d → f ≡ Err n
          → Answers (message_call c d (lending_maps p p (length e)) (shown m b)) (see m).ring_end e (Err n) m b e
      unfolding handled
      message-unframed n i u =
          refused_as (message_call c d (lending_maps p p (length e)) (shown m b)) n l
          (message-framed c (length e) (shown m b) d p p good (Err n)
          (one-long p (length e) false (le-ltb longest_section (length p) h)) (sym i ∙ u))

      -- y: the data that was handed on
      pub message-done : {v w o y : List ℕ} (x : Header) {r : Did} {f : Result Header Refusal} → All Byte d × All Byte p → f ≡ framing d
          → f ≡ Ok x → y ≡ data_of x.size d → Gives (answer c x.id y p (shown m b)) (see m).ring_end e r v w o
          → Answers (message_call c d (lending_maps p p (length e)) (shown m b)) (see m).ring_end e
          (Ok (record { consumed = 8 + x.size; written = r.written; moved = r.moved })) v w o
      unfolding handled call
      message-done {y = y} x a i u z g =
          let s = shown m b in
          let short = one-long p (length e) false (le-ltb longest_section (length p) h) in
          let g' = message-framed c (length e) s d p p good (Ok x) short (sym i ∙ u)
          ∙ ap₂ (λ k j. replies (8 + x.size) (answer c x.id k j s)) (sym z) (air-one s.queue.started p) in
          done-as (messages c d (lending_maps p p (length e))) (8 + x.size) (answer c x.id y p s) l (a.0, a.1, a.1) g' g

-- ## The clock brought to until

module _ (until room : ℕ) (s : Splicer) where
  move-none : room < 4096 → move_call until room s ≡ refuse NoRoom s
  unfolding move_call
  move-none e = rw (lt-ltb room 4096 e)

  move-before : 4096 ≤ room → until < s.clock → move_call until room s ≡ refuse ClockBack s
  unfolding move_call
  move-before e f = rw (le-ltb room 4096 e, lt-ltb until s.clock f)

  move-good : 4096 ≤ room → s.clock ≤ until → move_call until room s ≡ ticked until s
  unfolding move_call
  move-good e f = rw (le-ltb room 4096 e, le-ltb until s.clock f)

module _ {m b e : List ℕ} (until : ℕ) (l : Lent m b) where
  pub move-small : length e < 4096 → Answers (move_call until (length e) (shown m b)) (see m).ring_end e (Err NoRoom) m b e
  move-small h = refused_as (move_call until (length e) (shown m b)) NoRoom l (move-none until (length e) (shown m b) h)

  pub move-back : 4096 ≤ length e → until < (see m).clock → Answers (move_call until (length e) (shown m b)) (see m).ring_end e
      (Err ClockBack) m b e
  move-back h i = refused_as (move_call until (length e) (shown m b)) ClockBack l (move-before until (length e) (shown m b) h i)

  pub move-done : {n v o : List ℕ} {len : ℕ} → until < horizon → 4096 ≤ length e → (see m).clock ≤ until
      → Ticked until (see m) e len n o → Now v (timed until (see n))
      → Answers (move_call until (length e) (shown m b)) (see m).ring_end e (Ok (unmoved len)) v b o
  unfolding call ticked
  move-done low h i x y =
      turned_as (moves until (length e)) (silenced (silent_all (see m).clock until (see m).queue) (see m)) (timed until)
      (run_all (see m).clock until (see m).queue) (kept_of b) refl l low
      (move-good until (length e) (shown m b) h i) x y (stay l)

-- ## Tick

module _ (seconds micros room : ℕ) (s : Splicer) where
  tick-none : room < 4096 → tick_call seconds micros room s ≡ refuse NoRoom s
  unfolding tick_call
  tick-none e = rw (lt-ltb room 4096 e)

  tick-over : 4096 ≤ room → 999999 < micros → tick_call seconds micros room s ≡ refuse BadMicros s
  unfolding tick_call
  tick-over e f = rw (le-ltb room 4096 e, lt-ltb 999999 micros f)

  tick-good : 4096 ≤ room → micros ≤ 999999 → tick_call seconds micros room s ≡ move_call (from_micros (time_of seconds micros)).0 room s
  unfolding tick_call
  tick-good e f = rw (le-ltb room 4096 e, le-ltb 999999 micros f)

module _ {m b e : List ℕ} (seconds micros : ℕ) (l : Lent m b) where
  pub tick-small : length e < 4096 → Answers (tick_call seconds micros (length e) (shown m b)) (see m).ring_end e (Err NoRoom) m b e
  tick-small h = refused_as (tick_call seconds micros (length e) (shown m b)) NoRoom l (tick-none seconds micros (length e) (shown m b) h)

  pub tick-micros : 4096 ≤ length e → 999999 < micros
      → Answers (tick_call seconds micros (length e) (shown m b)) (see m).ring_end e (Err BadMicros) m b e
  tick-micros h i =
      refused_as (tick_call seconds micros (length e) (shown m b)) BadMicros l (tick-over seconds micros (length e) (shown m b) h i)

  -- it is the clock brought to its time
  pub tick-moves : (until : Ninths) {r : Answer} {v c o : List ℕ} → until ≡ from_micros (time_of seconds micros)
      → 4096 ≤ length e → micros ≤ 999999 → Answers (move_call until.0 (length e) (shown m b)) (see m).ring_end e r v c o
      → Answers (tick_call seconds micros (length e) (shown m b)) (see m).ring_end e r v c o
  tick-moves until {r} {v} {c} {o} same h i a =
      let q : move_call until.0 (length e) (shown m b) ≡ tick_call seconds micros (length e) (shown m b) =
      ap (λ (t : Ninths). move_call t.0 (length e) (shown m b)) same ∙ sym (tick-good seconds micros (length e) (shown m b) h i) in
      subst (λ (x : Called). Answers x (see m).ring_end e r v c o) q a

-- ## Cue

-- x: the section
module _ (x : List ℕ) (pts seconds micros room : ℕ) (s : Splicer) where
  cue-none : room < 4096 → cue_call x pts seconds micros room s ≡ refuse NoRoom s
  unfolding cue_call
  cue-none e = rw (lt-ltb room 4096 e)

  cue-over : 4096 ≤ room → 999999 < micros → cue_call x pts seconds micros room s ≡ refuse BadMicros s
  unfolding cue_call
  cue-over e f = rw (le-ltb room 4096 e, lt-ltb 999999 micros f)

  cue-unfit : 4096 ≤ room → micros ≤ 999999 → bad_section x ≡ true → cue_call x pts seconds micros room s ≡ refuse BadSection s
  unfolding cue_call
  cue-unfit e f g = rw (le-ltb room 4096 e, le-ltb 999999 micros f, g)

  cue-good : 4096 ≤ room → micros ≤ 999999 → bad_section x ≡ false
      → cue_call x pts seconds micros room s ≡ does 0 (cue_records (read_cue x) (cue_time pts seconds micros (read_cue x)) x
      (initialised_ones s.links)) s
  unfolding cue_call
  cue-good e f g = rw (le-ltb room 4096 e, le-ltb 999999 micros f, g)

module _ {m b e : List ℕ} (x : List ℕ) (pts seconds micros : ℕ) (l : Lent m b) where
  pub cue-small : length e < 4096 → Answers (cue_call x pts seconds micros (length e) (shown m b)) (see m).ring_end e (Err NoRoom) m b e
  cue-small h = refused_as (cue_call x pts seconds micros (length e) (shown m b)) NoRoom l
      (cue-none x pts seconds micros (length e) (shown m b) h)

  pub cue-micros : 4096 ≤ length e → 999999 < micros
      → Answers (cue_call x pts seconds micros (length e) (shown m b)) (see m).ring_end e (Err BadMicros) m b e
  cue-micros h i =
      refused_as (cue_call x pts seconds micros (length e) (shown m b)) BadMicros l
      (cue-over x pts seconds micros (length e) (shown m b) h i)

  pub cue-section : 4096 ≤ length e → micros ≤ 999999 → bad_section x ≡ true
      → Answers (cue_call x pts seconds micros (length e) (shown m b)) (see m).ring_end e (Err BadSection) m b e
  cue-section h i g =
      refused_as (cue_call x pts seconds micros (length e) (shown m b)) BadSection l
      (cue-unfit x pts seconds micros (length e) (shown m b) h i g)

  pub cue-done : {o : List ℕ} {len : ℕ} → All Byte x → 4096 ≤ length e → micros ≤ 999999 → bad_section x ≡ false
      → Tells e 0 (cue_records (read_cue x) (cue_time pts seconds micros (read_cue x)) x (initialised_ones (see m).links)) len o
      → Answers (cue_call x pts seconds micros (length e) (shown m b)) (see m).ring_end e (Ok (unmoved len)) m b o
  unfolding call
  cue-done y h i g t =
      done-as (cues x pts seconds micros (length e)) 0 (says _ (shown m b)) {r = unmoved _} l y
      (cue-good x pts seconds micros (length e) (shown m b) h i g)
      (record { whole = l.whole; splicer = refl; ring = refl; consumed = refl; tells = t; moved = refl })

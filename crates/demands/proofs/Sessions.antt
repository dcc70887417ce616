-- The rows of the sessions, from the calls and the answers' bytes alone: exactly the accepted ones without an end, each with what was asked
-- of it, and in their order. Rests on Owned (who is held, beside the history), Book (what was asked) and on rules' order of the two lists.
use mathlib.Core.Path.{◌≡◌, refl, ap, sym, ◌∙◌}
use mathlib.Core.Bool.{Bool, true, false, not, ◌&&◌, and-true}
use mathlib.Core.List.{List, [], ◌∷◌, ◌++◌, append_assoc}
use mathlib.Core.Logic.{◌⊎◌, inl, inr}
use Prim.Native.Nat.{ℕ, zero, suc, ◌+◌, ◌-◌, ◌*◌, ◌/◌, ◌%◌, ◌<◌, min}
use native.Mathlib.Nat.{suc-add, zero-add}
use native.Mathlib.Omega.{arith}
use lib.ListN.{length, take, drop, length-append, length-take}
use lib.Seq.{take_all}
use Rattle.rules.specs.declared.Session.{Session}
use Rattle.rules.specs.Lists.{All, count}
use Rattle.rules.specs.Bytes.{written}
use Rattle.rules.specs.State.{Queue, Splicer, same_number, is}
use Rattle.rules.specs.Follows.Wires.{Sorted}
use Rattle.rules.specs.Listing.{state_on_air, state_covered, state_waiting, started_state, waiting_state, session_row, session_rows}
use Rattle.rules.specs.Listing.{held_rows, held_number}
use Rattle.rules.specs.Follows.Sound.{Each, Proper, Small, Falling}
use Rattle.rules.proofs.Tests.{clash}
use Rattle.rules.proofs.All.{all_append, all_take}
use Rattle.rules.proofs.Every.{all_both}
use Rattle.rules.proofs.Count.{count-append, count_same}
use Rattle.demands.specs.History.{Event, book}
use Rattle.demands.specs.Airing.{Airing, newest, airings_told, number_told}
use Rattle.demands.specs.Told.{FromFresh}
use Rattle.demands.specs.Sessions.{HeldRow, row_in, rows_in, RowTold, row_is, open_as, SessionsTold, Behind, Ranked, InOrder}
use Rattle.demands.proofs.Room.{from-sound}
use Rattle.demands.proofs.Book.{Dated}
use Rattle.demands.proofs.Once.{book-told}
use Rattle.demands.proofs.Owned.{airing, Waits, Plays}
use Rattle.demands.proofs.Owners.{owned-told, air-kept}

-- ## The words as rows

abbrev row_of : ℕ → Session → HeldRow
row_of state s =
    record {
      start = s.start.0;
      end = s.end.0;
      played = s.played.0;
      conn = s.conn;
      id = s.id;
      event = s.event;
      prior = s.prior;
      access = s.access;
      overrides = s.overrides;
      mux = s.mux;
      state = state;
    }

abbrev rows_of : (ℕ → ℕ) → List Session → List HeldRow
rows_of f [] = []
rows_of f (s ∷ l) = row_of (f 0) s ∷ rows_of (λ i. f (suc i)) l

-- each number is as narrow as its half of a word
abbrev Halved : Session → Type 0
Halved s = Proper s × Small s

row_read : (state : ℕ) (s : Session) (y : List ℕ) → Halved s → row_in (session_row state s ++ y) ≡ row_of state s
unfolding session_row
row_read state s y h =
    let p = h.0 in
    let q = h.1 in
    let c : (s.conn + 4294967296 * s.id) % 4294967296 ≡ s.conn = omega (arith, p.conn) in
    let d : (s.conn + 4294967296 * s.id) / 4294967296 ≡ s.id = omega (arith, p.conn) in
    let e : (s.event + 4294967296 * s.prior) % 4294967296 ≡ s.event = omega (arith, q.event) in
    let f : (s.event + 4294967296 * s.prior) / 4294967296 ≡ s.prior = omega (arith, q.event) in
    let g : (s.access + 4294967296 * s.overrides) % 4294967296 ≡ s.access = omega (arith, p.access) in
    let i : (s.access + 4294967296 * s.overrides) / 4294967296 ≡ s.overrides = omega (arith, p.access) in
    let j : (s.mux + 4294967296 * state) % 4294967296 ≡ s.mux = omega (arith, p.mux.1) in
    let k : (s.mux + 4294967296 * state) / 4294967296 ≡ state = omega (arith, p.mux.1) in
    λ n. record {
      start = s.start.0;
      end = s.end.0;
      played = s.played.0;
      conn = c n;
      id = d n;
      event = e n;
      prior = f n;
      access = g n;
      overrides = i n;
      mux = j n;
      state = k n;
    }

rows-read : (f : ℕ → ℕ) (l : List Session) (n : ℕ) (y : List ℕ) → All Halved l
    → rows_in (length l + n) (session_rows f l ++ y) ≡ rows_of f l ++ rows_in n y
unfolding session_rows rows_in session_row
rows-read f [] n y a = ap (λ (k : ℕ). rows_in k y) (zero-add n)
rows-read f (s ∷ l) n y a =
    let z = session_rows (λ i. f (suc i)) l ++ y in
    ap (λ (k : ℕ). rows_in k (session_row (f 0) s ++ session_rows (λ i. f (suc i)) l ++ y)) (suc-add (length l) n)
    ∙ ap (λ (w : List ℕ). rows_in (suc (length l + n)) w) (append_assoc (session_row (f 0) s) (session_rows (λ i. f (suc i)) l) y)
    ∙ (λ i. row_read (f 0) s z a.0 i ∷ rows-read (λ i. f (suc i)) l n y a.1 i)

-- ## The rows of a queue

module _ (q : Queue) (room : ℕ) where
  abbrev S : List Session
  S = take room q.started

  abbrev W : List Session
  W = take (room - length q.started) q.waiting

  abbrev filled : List HeldRow
  filled = rows_of started_state S ++ rows_of waiting_state W

  rows_are : (lent : List ℕ) → Each Proper q → Each Small q
      → rows_in (min (held_number q) room) (written lent 0 (held_rows room q)) ≡ filled
  unfolding written held_rows rows_in
  rows_are lent p m =
      let k : min (held_number q) room ≡ length S + (length W + 0) =
      omega (arith, length-take room q.started, length-take (room - length q.started) q.waiting) in
      let y = drop (0 + length (session_rows started_state S ++ session_rows waiting_state W)) lent in
      let hs : All Halved S = all_take Halved room q.started (all_both Proper Small q.started p.started m.started) in
      let hw : All Halved W =
      all_take Halved (room - length q.started) q.waiting (all_both Proper Small q.waiting p.waiting m.waiting) in
      ap (λ (n : ℕ). rows_in n (session_rows started_state S ++ session_rows waiting_state W ++ y)) k
      ∙ ap (rows_in (length S + (length W + 0))) (append_assoc (session_rows started_state S) (session_rows waiting_state W) y)
      ∙ rows-read started_state S (length W + 0) (session_rows waiting_state W ++ y) hs
      ∙ ap (λ (x : List HeldRow). rows_of started_state S ++ x) (rows-read waiting_state W 0 y hw ∙ append-none (rows_of waiting_state W))
    where
      append-none : (l : List HeldRow) → l ++ [] ≡ l
      append-none [] = refl
      append-none (x ∷ l) = ap (λ (y : List HeldRow). x ∷ y) (append-none l)

length-rows_of : (f : ℕ → ℕ) (l : List Session) → length (rows_of f l) ≡ length l
length-rows_of f [] = refl
length-rows_of f (s ∷ l) = ap suc (length-rows_of (λ i. f (suc i)) l)

-- ## What each row tells

all-rows : (P : HeldRow → Type 0) (Q : Session → Type 0) (f : ℕ → ℕ) → ((i : ℕ) (s : Session) → Q s → P (row_of (f i) s))
    → (l : List Session) → All Q l → All P (rows_of f l)
all-rows P Q f g [] a = tt
all-rows P Q f g (s ∷ l) a = (g 0 s a.0, all-rows P Q (λ i. f (suc i)) (λ i. g (suc i)) l a.1)

started-is : (i : ℕ) → (started_state i ≡ state_on_air) ⊎ (started_state i ≡ state_covered)
unfolding started_state
started-is zero = inl refl
started-is (suc i) = inr refl

-- as they stand beside the history
abbrev Starts : List Event → ℕ → Session → Type 0
Starts h now s = Plays now (airings_told h) s × Dated (book h []) s × (s.played.0 ≡ number_told h s.conn s.id)

abbrev Stands : List Event → Session → Type 0
Stands h s = Waits (airings_told h) s × Dated (book h []) s × (s.played.0 ≡ number_told h s.conn s.id)

module _ (h : List Event) where
  -- b: its start was written
  row_told : (b : Bool) (state : ℕ) (s : Session) → newest s.conn s.id (airings_told h) ≡ airing b s → Dated (book h []) s
      → s.played.0 ≡ number_told h s.conn s.id → (b ≡ false → state ≡ state_waiting)
      → (b ≡ true → (state ≡ state_on_air) ⊎ (state ≡ state_covered)) → RowTold h (row_of state s)
  row_told b state s t d p w k =
      record {
        unended = ap (λ (x : Airing). x.over) t;
        start = sym (ap (λ (x : Airing). x.start) t);
        end = sym (ap (λ (x : Airing). x.end) t);
        access = sym (ap (λ (x : Airing). x.access) t);
        played = p;
        event = sym d.2;
        prior = sym d.3;
        overrides = sym d.4;
        mux = sym d.1;
        waits = λ e. w (sym (ap (λ (x : Airing). x.begun) t) ∙ e);
        began = λ e. k (sym (ap (λ (x : Airing). x.begun) t) ∙ e);
      }

  started-told : (now i : ℕ) (s : Session) → Starts h now s → RowTold h (row_of (started_state i) s)
  started-told now i s a =
      row_told true (started_state i) s a.0.told a.1 a.2 (λ e. absurd (clash true refl e)) (λ e. started-is i)

  waiting-told : (i : ℕ) (s : Session) → Stands h s → RowTold h (row_of (waiting_state i) s)
  waiting-told i s a = row_told false (waiting_state i) s a.0.told a.1 a.2 (λ e. refl) (λ e. absurd (clash false e refl))

-- ## As many

count-rows : (c x : ℕ) (f : ℕ → ℕ) (l : List Session) → count (row_is c x) (rows_of f l) ≡ count (is c x) l
count-rows c x f [] = refl
count-rows c x f (s ∷ l) = rw (count-rows c x (λ i. f (suc i)) l)

count-all : (l : List Session) → count (λ s. true) l ≡ length l
count-all [] = refl
count-all (s ∷ l) = omega (arith, count-all l)

-- ## In order

module _ (s : Session) where
  behind-later : (w : List Session) → All (λ u. s.start.0 < u.start.0) w → All (Behind (row_of state_waiting s)) (rows_of waiting_state w)
  behind-later [] a = tt
  behind-later (u ∷ w) a = (
    record { under = λ e. omega (arith, e); falls = λ e. absurd (omega (arith, e)); rises = λ e. (refl, a.0) },
    behind-later w a.1,
  )

  module _ (state : ℕ) (n : state ≡ state_waiting → ⊥) where
    behind-lower : (k : List Session) → All (λ u. u.access < s.access) k → All (Behind (row_of state s)) (rows_of (λ i. state_covered) k)
    behind-lower [] a = tt
    behind-lower (u ∷ k) a = (
      record { under = λ e. omega (arith, e); falls = λ e. a.0; rises = λ e. absurd (n e) },
      behind-lower k a.1,
    )

    behind-waiting : (w : List Session) → All (Behind (row_of state s)) (rows_of waiting_state w)
    behind-waiting [] = tt
    behind-waiting (u ∷ w) = (
      record { under = λ e. omega (arith, e); falls = λ e. absurd (omega (arith, e)); rises = λ e. absurd (n e) },
      behind-waiting w,
    )

ranked-waiting : (w : List Session) → Sorted w → Ranked (rows_of waiting_state w)
ranked-waiting [] o = tt
ranked-waiting (s ∷ w) o = (behind-later s w o.0, ranked-waiting w o.1)

ranked-covered : (k w : List Session) → Falling k → Sorted w → Ranked (rows_of (λ i. state_covered) k ++ rows_of waiting_state w)
ranked-covered [] w f o = ranked-waiting w o
ranked-covered (s ∷ k) w f o = (
  all_append (Behind (row_of state_covered s)) (rows_of (λ i. state_covered) k) (rows_of waiting_state w)
      (behind-lower s state_covered (λ e. omega (arith, e)) k f.0) (behind-waiting s state_covered (λ e. omega (arith, e)) w),
  ranked-covered k w f.1 o,
)

in_order : (k w : List Session) → Falling k → Sorted w → InOrder (rows_of started_state k ++ rows_of waiting_state w)
unfolding started_state
in_order [] [] f o = record { led = tt; ranked = tt }
in_order [] (s ∷ w) f o = record { led = λ e. omega (arith, e); ranked = ranked-waiting (s ∷ w) o }
in_order (s ∷ k) w f o =
    record {
      led = λ e. omega (arith, e);
      ranked = (
        all_append (Behind (row_of state_on_air s)) (rows_of (λ i. state_covered) k) (rows_of waiting_state w)
            (behind-lower s state_on_air (λ e. omega (arith, e)) k f.0) (behind-waiting s state_on_air (λ e. omega (arith, e)) w),
        ranked-covered k w f.1 o,
      );
    }

falling-take : (n : ℕ) (k : List Session) → Falling k → Falling (take n k)
falling-take zero k f = tt
falling-take (suc n) [] f = tt
falling-take (suc n) (s ∷ k) f = (all_take (λ u. u.access < s.access) n k f.0, falling-take n k f.1)

sorted-take : (n : ℕ) (w : List Session) → Sorted w → Sorted (take n w)
sorted-take zero w o = tt
sorted-take (suc n) [] o = tt
sorted-take (suc n) (s ∷ w) o = (all_take (λ u. s.start.0 < u.start.0) n w o.0, sorted-take n w o.1)

-- ## The theorems, of what is read of a splicer

module _ (h : List Event) (s : Splicer) (f : FromFresh h s) (room : ℕ) where
  abbrev q : Queue
  q = s.queue

  abbrev rows : List HeldRow
  rows = filled q room

  each-told : All (RowTold h) rows
  each-told =
      let o = owned-told h s f in
      let d = (book-told h s f).dated in
      let a = air-kept h s f in
      let k = room - length q.started in
      all_append (RowTold h) (rows_of started_state (S q room)) (rows_of waiting_state (W q room))
      (all-rows (RowTold h) (Starts h s.clock) started_state (started-told h s.clock) (S q room)
      (all_take (Starts h s.clock) room q.started (three (Plays s.clock (airings_told h)) q.started o.plays d.started
      a.started)))
      (all-rows (RowTold h) (Stands h) waiting_state (waiting-told h) (W q room)
      (all_take (Stands h) k q.waiting (three (Waits (airings_told h)) q.waiting o.waits d.waiting a.waiting)))
    where
      three : (P : Session → Type 0) (l : List Session) → All P l → All (Dated (book h [])) l
          → All (λ u. u.played.0 ≡ number_told h u.conn u.id) l
          → All (λ u. P u × Dated (book h []) u × (u.played.0 ≡ number_told h u.conn u.id)) l
      three P [] a b c = tt
      three P (x ∷ l) a b c = ((a.0, b.0, c.0), three P l a.1 b.1 c.1)

  held_number_lem : held_number q ≡ count (λ a. not a.over) (airings_told h)
  held_number_lem =
      let u = (owned-told h s f).unended (λ a. true) in
      let e = count_same (λ (a : Airing). not a.over && true) (λ a. not a.over) (λ a. and-true (not a.over)) (airings_told h) in
      omega (arith, u, e, count-all q.waiting, count-all q.started)

  exactly : length rows ≡ held_number q → (c x : ℕ) → count (row_is c x) rows ≡ count (open_as c x) (airings_told h)
  exactly e c x =
      let k = length q.started in
      let n : length rows ≡ length (S q room) + length (W q room) =
      length-append (rows_of started_state (S q room)) (rows_of waiting_state (W q room))
      ∙ omega (arith, length-rows_of started_state (S q room), length-rows_of waiting_state (W q room)) in
      let a = length-take room q.started in
      let b = length-take (room - k) q.waiting in
      let i : S q room ≡ q.started = take_all room q.started (omega (arith, e, n, a, b)) in
      let j : W q room ≡ q.waiting = take_all (room - k) q.waiting (omega (arith, e, n, a, b)) in
      let u = (owned-told h s f).unended (λ (a : Airing). same_number c x a.conn a.id) in
      count-append (row_is c x) (rows_of started_state (S q room)) (rows_of waiting_state (W q room))
      ∙ omega (
        arith,
        u,
        count-rows c x started_state (S q room),
        count-rows c x waiting_state (W q room),
        ap (count (is c x)) i,
        ap (count (is c x)) j,
      )

  module _ (lent after : List ℕ) (n : ℕ) (e : n ≡ held_number q) (w : after ≡ written lent 0 (held_rows room q)) where
    are : rows_in (min n room) after ≡ rows
    are =
        let p = (from-sound h s f).holding in
        (λ i. rows_in (min (e i) room) (w i)) ∙ rows_are q room lent p.proper p.small

    pub sessions-told : SessionsTold h n (rows_in (min n room) after)
    sessions-told =
        rw are (record { number = e ∙ held_number_lem; each = each-told; exactly = λ l. exactly (l ∙ e) })

    pub sessions-in-order : InOrder (rows_in (min n room) after)
    sessions-in-order =
        let p = (from-sound h s f).holding in
        rw are (in_order (S q room) (W q room) (falling-take room q.started p.falling)
        (sorted-take (room - length q.started) q.waiting p.timed.sorted))

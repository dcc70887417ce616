-- The sessions as rows: how long they are, one row more behind those that are written, and all that there is room for.
-- Rests on rules' laws of what is written.
use mathlib.Core.Path.{◌≡◌, refl, sym, ap, ◌∙◌}
use mathlib.Core.Bool.{Bool, true, false}
use mathlib.Core.List.{List, [], ◌∷◌, ◌++◌, append_assoc, append-nil}
use Prim.Native.Nat.{ℕ, zero, suc, ◌+◌, ◌-◌, ◌*◌, ◌/◌, ◌≤◌, ◌<◌, min}
use native.Mathlib.Omega.{arith}
use lib.Dec.{ltb}
use lib.ListN.{length, take, get_or, length-take, length-drop}
use lib.Seq.{take_all, take-length, length-take-le}
use borrow.Author.Tests.{ltb-true, ltb-false}
use borrow.Rule.Slice.PartMut.{put_mid, mid_of}
use Rattle.rules.specs.declared.Session.{Session}
use Rattle.rules.specs.Bytes.{written}
use Rattle.rules.specs.State.{empty}
use Rattle.rules.specs.Listing.{started_state, waiting_state, row_width, session_row, session_rows, held_rows}
use Rattle.rules.proofs.Written.{written_none, length-written, written_next}
use Rattle.rules.proofs.Sound.{few-wait, few-started}
use Rattle.memory.specs.declared.Which.{Which}
use Rattle.memory.specs.declared.Which.TheVariants.{Waiting, Started}
use Rattle.memory.specs.Memory.{sessions, shown}
use Rattle.engine.specs.Lent.{Lent, ReadsSessions, state_of, Listable, Lists}
use Rattle.engine.proofs.Calls.{holding}

-- ## Rows

length-rows : (f : ℕ → ℕ) (l : List Session) → length (session_rows f l) ≡ length l * row_width
unfolding session_rows session_row
length-rows f [] = refl
length-rows f (s ∷ l) = omega (arith, length-rows (λ i. f (suc i)) l)

length-row : (state : ℕ) (s : Session) → length (session_row state s) ≡ row_width
unfolding session_row
length-row state s = refl

rows-one : (f : ℕ → ℕ) (l : List Session) (i : ℕ) → i < length l
    → session_rows f (take (suc i) l) ≡ session_rows f (take i l) ++ session_row (f i) (get_or l i empty)
unfolding session_rows
rows-one f [] i h = absurd (omega arith)
rows-one f (s ∷ l) zero h = append-nil (session_row (f 0) s)
rows-one f (s ∷ l) (suc i) h =
    ap (λ (x : List ℕ). session_row (f 0) s ++ x) (rows-one (λ j. f (suc j)) l i (omega arith))
    ∙ sym (append_assoc (session_row (f 0) s) (session_rows (λ j. f (suc j)) (take i l)) (session_row (f (suc i)) (get_or l i empty)))

-- "any two results it allows are proved equal"
pub sessions-same : (m b lent : List ℕ) {r s : ℕ} {a c : List ℕ} → ReadsSessions m b lent r a → ReadsSessions m b lent s c
    → (r ≡ s) × (a ≡ c)
sessions-same m b lent p q = (p.number ∙ sym q.number, p.rows ∙ sym q.rows)

-- ## What a session is

module _ (which : Which) (at : ℕ) where
  pub state-first : which ≡ Started → at ≡ 0 → 1 ≡ state_of which at
  unfolding state_of started_state
  state-first e z = λ i. state_of (sym e i) (sym z i)

  pub state-other : which ≡ Started → 0 < at → 2 ≡ state_of which at
  unfolding state_of started_state
  state-other e z =
      let k : at ≡ suc (at - 1) = omega arith in
      λ i. state_of (sym e i) (sym k i)

  pub state-waits : which ≡ Waiting → 3 ≡ state_of which at
  unfolding state_of
  state-waits e = λ i. state_of (sym e i) at

-- ## The loop

module _ (which : Which) (n : ℕ) (m lent : List ℕ) where
  -- i rows are written
  abbrev pub Listing : ℕ → List ℕ → Type 0
  Listing i xs = Lists which i m lent xs

  pub none-listed : Listing 0 lent
  unfolding session_rows
  none-listed = sym (written_none lent 0)

  module _ (l : Listable which n m lent) (i : ℕ) (h : i < n) where
    pub one-listed : (xs ys : List ℕ) (state : ℕ) (s : Session) → Listing i xs → state ≡ state_of which i
        → s ≡ get_or (sessions which m) i empty
        → ys ≡ written (mid_of (i * 7) (length xs - i * 7) xs) 0 (session_row state s)
        → Listing (i + 1) (put_mid (i * 7) (length xs - i * 7) xs ys)
    one-listed xs ys state s w e f y =
        let k = sessions which m in
        let u = take i k in
        let c : length u ≡ i = length-take-le i k (omega (arith, l.held)) in
        let d : i * 7 ≡ 0 + length (session_rows (state_of which) u) = omega (arith, c, length-rows (state_of which) u) in
        let j : suc i ≡ i + 1 = omega arith in
        written_next lent 0 (session_rows (state_of which) u) (session_row state s) xs ys (i * 7) w d
        (omega (arith, length-row state s, l.room)) y
        ∙ ap (written lent 0)
        (ap (λ (x : List ℕ). session_rows (state_of which) u ++ x) (λ o. session_row (e o) (f o))
        ∙ sym (rows-one (state_of which) k i (omega (arith, l.held))) ∙ ap (λ (a : ℕ). session_rows (state_of which) (take a k)) j)

-- ## What is asked of the words, and what stays

listed-length : (which : Which) (n : ℕ) (m lent xs : List ℕ) → Listable which n m lent → Lists which n m lent xs → length xs ≡ length lent
listed-length which n m lent xs l w =
    let u = take n (sessions which m) in
    let c : length u ≡ n = length-take-le n (sessions which m) l.held in
    ap length w ∙ length-written lent 0 (session_rows (state_of which) u) (omega (arith, c, length-rows (state_of which) u, l.room))

module _ {m b : List ℕ} (l : Lent m b) where
  pub held-few : (length (sessions Started m) ≤ 10) × (length (sessions Waiting m) ≤ 64)
  held-few = (few-started (holding l), few-wait (holding l))

  -- the started, as many as there is room for
  module _ (lent : List ℕ) (first : ℕ) (e : first ≡ min (length (sessions Started m)) (length lent / 7)) where
    pub started-listable : Listable Started first m lent
    started-listable =
        record {
          form = l.whole.words;
          few = omega (arith, held-few.0);
          held = omega arith;
          room = omega arith;
          proper = (holding l).proper.started;
          small = (holding l).small.started;
        }

    -- behind them those that wait
    pub waiting-listable : (more : ℕ) (xs : List ℕ) → more ≡ min (length (sessions Waiting m)) (length lent / 7 - first)
        → Lists Started first m lent xs → Listable Waiting more m (mid_of (first * 7) (length xs - first * 7) xs)
    waiting-listable more xs f w =
        let k = listed-length Started first m lent xs started-listable w in
        record {
          form = l.whole.words;
          few = omega (arith, held-few.1);
          held = omega arith;
          room = simp (length-take, length-drop) (omega (arith, k));
          proper = (holding l).proper.waiting;
          small = (holding l).small.waiting;
        }

-- ## Both lists

take-most : (n : ℕ) (l : List Session) → take (min (length l) n) l ≡ take n l
take-most n l = go (ltb n (length l)) refl
  where
    go : (b : Bool) → ltb n (length l) ≡ b → take (min (length l) n) l ≡ take n l
    go true e =
        let h = ltb-true n (length l) e in
        let k : min (length l) n ≡ n = omega arith in
        ap (λ (j : ℕ). take j l) k
    go false e =
        let h = ltb-false n (length l) e in
        let k : min (length l) n ≡ length l = omega arith in
        ap (λ (j : ℕ). take j l) k ∙ take-length l ∙ sym (take_all n l h)

module _ (m b lent : List ℕ) where
  abbrev S : List Session
  S = sessions Started m

  abbrev W : List Session
  W = sessions Waiting m

  abbrev room : ℕ
  room = length lent / 7

  -- what the two pieces of work leave
  pub all_listed : (first more : ℕ) (xs ys : List ℕ) → first ≡ min (length S) room → more ≡ min (length W) (room - first)
      → Lists Started first m lent xs → Lists Waiting more m (mid_of (first * 7) (length xs - first * 7) xs) ys
      → put_mid (first * 7) (length xs - first * 7) xs ys ≡ written lent 0 (held_rows room (shown m b).queue)
  unfolding held_rows state_of
  all_listed first more xs ys e f x y =
      let u = take first S in
      let v = take more W in
      let c : length u ≡ first = length-take-le first S (omega arith) in
      let d : length v ≡ more = length-take-le more W (omega arith) in
      let i : first * 7 ≡ 0 + length (session_rows started_state u) = omega (arith, c, length-rows started_state u) in
      let g : u ≡ take room S = ap (λ (j : ℕ). take j S) e ∙ take-most room S in
      let o : room - first ≡ room - length S = omega arith in
      let k : v ≡ take (room - length S) W =
      ap (λ (j : ℕ). take j W) f ∙ take-most (room - first) W ∙ ap (λ (j : ℕ). take j W) o in
      written_next lent 0 (session_rows started_state u) (session_rows waiting_state v) xs ys (first * 7) x i
      (omega (arith, d, length-rows waiting_state v)) y
      ∙ ap (written lent 0) (λ j. session_rows started_state (g j) ++ session_rows waiting_state (k j))

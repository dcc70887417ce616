-- Record by record, the card program's output is that of the whole input, however the input is cut into pieces.
-- Rests on: a record lies within the bytes that it was found in, so what is behind them does not change it.
use mathlib.Core.Path.{◌≡◌, refl, sym, subst, ap, ap₂, ◌∙◌}
use mathlib.Core.Bool.{Bool, true, false, cond}
use mathlib.Core.List.{List, [], ◌∷◌, ◌++◌}
use Prim.Native.Nat.{ℕ, zero, suc, ◌+◌, ◌≤◌, ◌<◌}
use native.Mathlib.Omega.{arith}
use lib.Dec.{eqb, ltb}
use lib.ListN.{length, take, drop, length-append, length-drop}
use lib.Seq.{take-append-le, drop-append-le}
use borrow.Author.Tests.{ltb-true, ltb-false, le-ltb}
use Rattle.rules.specs.Bytes.{value, part, field, largest_size, oversize, padded}
use Rattle.rules.specs.State.{Splicer}
use Rattle.rules.specs.Calls.{Call, opens, closes, messages, ticks, call, fresh}
use Rattle.rules.specs.Card.{open_mark, close_mark, message_mark, tick_mark, mark_in, message_from}
use Rattle.rules.specs.Card.{mark_end, tick_end, header_end, message_end}
use Rattle.rules.specs.Card.{Next, calls, ends, stops, card_room, card_loans, card_name, next, told, card_step, card_run, card}
use Rattle.rules.proofs.Tests.{by, clash}
use Rattle.feed.specs.declared.Record.{Record}
use Rattle.feed.specs.declared.Record.TheVariants.{Open, Close, Message, Oversize, Tick, Cut, Unknown}
use Rattle.feed.specs.Feed.{whole, size_in, message_in, tick_in, record_in, next_of, used_by, is_cut, behind, rest}
use Rattle.feed.proofs.Laws.{size-at, next-record}

-- ## A record lies within the bytes that it was found in

module _ (l : List ℕ) where
  abbrev Fits : Record → Type 0
  Fits r = used_by r ≤ length l

  fits_whole : (n : ℕ) (r : Record) → (n ≤ length l → Fits r) → Fits (whole n l r)
  unfolding used_by
  fits_whole n r f = by Fits (ltb (length l) n) Cut r (λ e. omega arith) (λ e. f (ltb-false (length l) n e))

  fits-choice : (b : Bool) (r s : Record) → Fits r → Fits s → Fits (cond b r s)
  fits-choice b r s f g = by Fits b r s (λ e. f) (λ e. g)

  fits-message : Fits (message_in l)
  unfolding used_by
  fits-message =
      fits_whole header_end _ (λ h. fits-choice (oversize (message_from l)) _ _ h (fits_whole (message_end (size_in l)) _ (λ g. g)))

  fits-tick : Fits (tick_in l)
  unfolding used_by
  fits-tick = fits_whole tick_end _ (λ h. h)

  pub within : used_by (record_in l) ≤ length l
  unfolding record_in used_by
  within =
      fits_whole mark_end _
      (λ h. fits-choice (eqb (mark_in l) open_mark) _ _ h
      (fits-choice (eqb (mark_in l) close_mark) _ _ h
      (fits-choice (eqb (mark_in l) message_mark) _ _ fits-message
      (fits-choice (eqb (mark_in l) tick_mark) _ _ fits-tick (omega arith)))))

-- ## A cut record is shorter than the longest one

module _ (l : List ℕ) where
  abbrev Short : Record → Type 0
  Short r = is_cut r ≡ true → length l < message_end largest_size

  -- it is not cut
  other : false ≡ true → length l < message_end largest_size
  other z = absurd (clash false z refl)

  short-whole : (n : ℕ) (r : Record) → n ≤ message_end largest_size → Short r → Short (whole n l r)
  short-whole n r h f = by Short (ltb (length l) n) Cut r (λ e z. omega (arith, ltb-true (length l) n e)) (λ e. f)

  short-choice : (b : Bool) (r s : Record) → Short r → (b ≡ false → Short s) → Short (cond b r s)
  short-choice b r s f g = by Short b r s (λ e. f) g

  short-message : Short (message_in l)
  unfolding is_cut
  short-message =
      short-whole header_end _ (omega arith)
      (short-choice (oversize (message_from l)) _ _ other
      (λ e. short-whole (message_end (size_in l)) _ (omega (arith, ltb-false largest_size (size_in l) e)) other))

  short-record : Short (record_in l)
  unfolding record_in is_cut
  short-record =
      short-whole mark_end _ (omega arith)
      (short-choice (eqb (mark_in l) open_mark) _ _ other
      (λ d. short-choice (eqb (mark_in l) close_mark) _ _ other
      (λ e. short-choice (eqb (mark_in l) message_mark) _ _ short-message
      (λ f. short-choice (eqb (mark_in l) tick_mark) _ _ (short-whole tick_end _ (omega arith) other) (λ g. other)))))

  pub cut_short : record_in l ≡ Cut → length l < message_end largest_size
  unfolding is_cut
  cut_short e = short-record (ap is_cut e)

-- ## What is behind a record does not change it

module _ (l m : List ℕ) where
  part-behind : (a n : ℕ) → a + n ≤ length l → part a n (l ++ m) ≡ part a n l
  part-behind a n h =
      ap (take n) (drop-append-le a l m (omega arith)) ∙ take-append-le n (drop a l) m (simp length-drop (omega arith))

  pub field-behind : (a n : ℕ) → a + n ≤ length l → field a n (l ++ m) ≡ field a n l
  field-behind a n h = ap value (part-behind a n h)

  pub size-behind : header_end ≤ length l → size_in (l ++ m) ≡ size_in l
  size-behind h = sym (size-at (l ++ m)) ∙ field-behind 4 2 (omega arith) ∙ size-at l

  -- y: what a whole record x becomes
  abbrev Stays : Record → Record → Type 0
  Stays x y = is_cut x ≡ false → y ≡ x

  stays-whole : (n : ℕ) (x y : Record) → (n ≤ length l → Stays x y) → Stays (whole n l x) (whole n (l ++ m) y)
  unfolding is_cut
  stays-whole n x y f = go (ltb (length l) n) refl
    where
      go : (b : Bool) → ltb (length l) n ≡ b → Stays (cond b Cut x) (whole n (l ++ m) y)
      go true e z = absurd (clash true refl z)
      go false e z =
          let h = ltb-false (length l) n e in
          rw (le-ltb (length (l ++ m)) n (simp length-append (omega arith))) (f h z)

  stays-choice : (b : Bool) (x y u v : Record) → Stays x u → Stays y v → Stays (cond b x y) (cond b u v)
  stays-choice true x y u v f g = f
  stays-choice false x y u v f g = g

  message-behind : Stays (message_in l) (message_in (l ++ m))
  message-behind =
      stays-whole header_end _ _
      (λ h. rw (size-behind h, field-behind 1 1 (omega arith))
      (stays-choice (oversize (message_from l)) _ _ _ _ (λ z. refl) (stays-whole (message_end (size_in l)) _ _ (λ g z. refl))))

  tick-behind : Stays (tick_in l) (tick_in (l ++ m))
  tick-behind = stays-whole tick_end _ _ (λ h z. ap₂ Tick (field-behind 2 4 (omega arith)) (field-behind 6 4 (omega arith)))

  pub record-behind : is_cut (record_in l) ≡ false → record_in (l ++ m) ≡ record_in l
  unfolding record_in
  record-behind =
      stays-whole mark_end _ _
      (λ h. let conn = field-behind 1 1 (omega arith) in rw (field-behind 0 1 (omega arith))
      (stays-choice (eqb (mark_in l) open_mark) _ _ _ _ (λ z. ap Open conn)
      (stays-choice (eqb (mark_in l) close_mark) _ _ _ _ (λ z. ap Close conn)
      (stays-choice (eqb (mark_in l) message_mark) _ _ _ _ message-behind
      (stays-choice (eqb (mark_in l) tick_mark) _ _ _ _ tick-behind (λ z. refl))))))

  call-behind : (r : Record) → used_by r ≤ length l → next_of r (l ++ m) ≡ behind m (next_of r l)
  unfolding used_by next_of behind
  call-behind (Open c) h = ap (calls (opens c)) (drop-append-le mark_end l m h)
  call-behind (Close c) h = ap (calls (closes c card_room)) (drop-append-le mark_end l m h)
  call-behind (Message c size) h =
      ap₂ (λ p d. calls (messages c p card_loans) d) (part-behind 2 (8 + size) (omega arith)) (drop-append-le (message_end size) l m h)
  call-behind (Oversize c) h = ap (λ p. ends (messages c p card_loans)) (part-behind 2 8 (omega arith))
  call-behind (Tick s u) h = ap (calls (ticks s u card_room)) (drop-append-le tick_end l m h)
  call-behind Cut h = refl
  call-behind Unknown h = refl

  pub next-behind : is_cut (record_in l) ≡ false → next (l ++ m) ≡ behind m (next l)
  next-behind z =
      next-record (l ++ m) ∙ ap (λ r. next_of r (l ++ m)) (record-behind z)
      ∙ call-behind (record_in l) (within l) ∙ ap (behind m) (sym (next-record l))

-- ## Running

-- each call takes at least two bytes
abbrev Falls : List ℕ → Next → Type 0
Falls l (calls k left) = length left + mark_end ≤ length l
Falls l (ends k) = Unit {0}
Falls l stops = Unit {0}

falls : (l : List ℕ) → Falls l (next l)
unfolding used_by next_of
falls l = subst (Falls l) (sym (next-record l)) (go (record_in l) (within l))
  where
    go : (r : Record) → used_by r ≤ length l → Falls l (next_of r l)
    go (Open c) h = simp length-drop (omega arith)
    go (Close c) h = simp length-drop (omega arith)
    go (Message c size) h = simp length-drop (omega arith)
    go (Oversize c) h = tt
    go (Tick s u) h = simp length-drop (omega arith)
    go Cut h = tt
    go Unknown h = tt

-- enough calls are allowed: how many does not matter
fuel : (n m : ℕ) (s : Splicer) (l : List ℕ) → length l ≤ n → length l ≤ m → card_run n s l ≡ card_run m s l
unfolding card_run card_step next
fuel zero zero s l h i = refl
fuel zero (suc m) s [] h i = refl
fuel zero (suc m) s (b ∷ l) h i = absurd (omega arith)
fuel (suc n) zero s [] h i = refl
fuel (suc n) zero s (b ∷ l) h i = absurd (omega arith)
fuel (suc n) (suc m) s l h i = go (next l) (falls l) (λ k left f. fuel n m (call k s).splicer left (omega arith) (omega arith))
  where
    go : (x : Next) → Falls l x
        → ((k : Call) (left : List ℕ) → length left + mark_end ≤ length l
        → card_run n (call k s).splicer left ≡ card_run m (call k s).splicer left)
        → card_step (card_run n) x s ≡ card_step (card_run m) x s
    go (calls k left) f g = ap (λ y. told (call k s).answer ++ y) (g k left f)
    go (ends k) f g = refl
    go stops f g = refl

run-rest : (n : ℕ) (s : Splicer) (l : List ℕ) → length l ≤ n → card_run n s l ≡ rest s l
unfolding rest
run-rest n s l h = fuel n (length l) s l h (omega arith)

pub card-rest : (l : List ℕ) → card l ≡ rest (fresh (padded card_name)).splicer l
unfolding card rest
card-rest l = refl

-- one record, and the rest
pub rest-step : (s : Splicer) (l : List ℕ) → rest s l ≡ card_step rest (next l) s
unfolding card_run card_step
rest-step s l = sym (run-rest (suc (length l)) s l (omega arith)) ∙ go (next l) (falls l)
  where
    go : (x : Next) → Falls l x → card_step (card_run (length l)) x s ≡ card_step rest x s
    go (calls k left) f = ap (λ y. told (call k s).answer ++ y) (run-rest (length l) (call k s).splicer left (omega arith))
    go (ends k) f = refl
    go stops f = refl

-- l: the bytes at hand, m: those that come after them
pub ahead : (s : Splicer) (l m : List ℕ) → is_cut (record_in l) ≡ false → rest s (l ++ m) ≡ card_step rest (behind m (next l)) s
ahead s l m z = rest-step s (l ++ m) ∙ ap (λ x. card_step rest x s) (next-behind l m z)

-- the end of the input
pub rest-cut : (s : Splicer) (l : List ℕ) → record_in l ≡ Cut → rest s l ≡ []
unfolding card_step next_of
rest-cut s l e = rest-step s l ∙ ap (λ x. card_step rest x s) (next-record l ∙ ap (λ r. next_of r l) e)

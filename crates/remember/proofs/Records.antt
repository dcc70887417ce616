-- One record as it is read, mark, header and data: what came is a record whatever follows it, or begins none.
-- Rests on recall_log's laws of the call that some bytes begin with.
use mathlib.Core.Path.{◌≡◌, refl, sym, subst, ap, ◌∙◌}
use mathlib.Core.Bool.{Bool, true, false, cond, ◌&&◌}
use mathlib.Core.List.{List, ◌++◌, append-nil}
use Prim.Native.Nat.{ℕ, ◌+◌, ◌≤◌, ◌<◌}
use native.Mathlib.Omega.{arith}
use lib.Dec.{eqb, ltb}
use lib.ListN.{length, get_or, take, drop, length-append, length-drop}
use lib.Seq.{length-take-le, take_all, drop-drop}
use borrow.Author.Tests.{ltb-false, lt-ltb, le-ltb, le-leb, lt-leb, eqb-true, eqb-false}
use Rattle.std.specs.Prelude.{Some}
use Rattle.std.proofs.lemmas.Option.{same_Some}
use Rattle.rules.specs.Bytes.{value, part, field, largest_size, message_size, oversize}
use Rattle.rules.specs.Calls.{Call, opens, closes, messages, ticks}
use Rattle.rules.specs.Card.{open_mark, close_mark, message_mark, tick_mark, mark_in, conn_in, message_from, seconds_in, micros_in}
use Rattle.rules.specs.Card.{mark_end, tick_end, header_end, message_end, card_room, card_loans}
use Rattle.rules.specs.Card.{Next, calls, ends, stops, next, next_message, next_tick}
use Rattle.rules.proofs.Tests.{by, clash}
use Rattle.rules.proofs.Values.{field-one}
use Rattle.recall_log.specs.declared.Record.{Record}
use Rattle.recall_log.specs.declared.Record.TheVariants.{Open, Close, Message, Tick}
use Rattle.recall_log.specs.Kept.{record_of, record_in, call_of, span_of}
use Rattle.recall_log.proofs.Firsts.{first, part-front, part-take}
use Rattle.remember.specs.declared.stdio.Came.{Came}
use Rattle.remember.specs.Said.{made_of, call_for, head_of, ends_with}
use Rattle.remember.specs.Remembered.{Filled, Whole, Ended, Reads}

-- ## The bytes p, whatever follows

made-is : (r : Record) (p : List ℕ) → made_of (Some r) p ≡ call_of (Some r) p
unfolding made_of
made-is (Open c) p = refl
made-is (Close c) p = refl
made-is (Message c size) p = refl
made-is (Tick seconds micros) p = refl

size-at : (p : List ℕ) → message_size (message_from p) ≡ field 4 2 p
size-at p = ap (λ x. value (take 2 x)) (drop-drop 2 2 p)

module _ (p : List ℕ) where
  -- all of them are one call
  calls-whole : {k : Call} {m : List ℕ} {r : Record} → next p ≡ calls k m → record_of (calls k m) ≡ Some r
      → span_of (Some r) ≡ length p → ends_with p ≡ false → Whole p
  unfolding call_for record_in
  calls-whole {k} {m} {r} e i h f more =
      let b = first p e in
      let kind : b.kind ≡ r = same_Some b.kind r (sym b.kind_is ∙ i) in
      let whole : take b.size p ≡ p = take_all b.size p (omega (arith, b.span, ap (λ x. span_of (Some x)) kind, h)) in
      let same : call_for p ≡ k =
      ap (λ x. made_of (record_of x) p) e ∙ ap (λ x. made_of x p) b.kind_is ∙ made-is b.kind p ∙ b.made in
      ap (λ x. next (x ++ more)) (sym whole) ∙ b.again more ∙ ap (λ x. calls x more) (sym same)
      ∙ sym (ap (λ t. cond t (ends (call_for p)) (calls (call_for p) more)) f)

  not_last : length p < header_end → ends_with p ≡ false
  not_last h = rw (lt-leb header_end (length p) h) refl

  mark-at : 0 < length p → eqb (get_or p 0 0) message_mark ≡ eqb (mark_in p) message_mark
  mark-at h = ap (λ x. eqb x message_mark) (sym (field-one 0 p h))

  front : (a n : ℕ) (more : List ℕ) → a + n ≤ length p → field a n (p ++ more) ≡ field a n p
  front a n more h = ap value (part-front a n p more h)

  enough : (n : ℕ) (more : List ℕ) → n ≤ length p → ltb (length (p ++ more)) n ≡ false
  enough n more h = le-ltb (length (p ++ more)) n (omega (arith, length-append p more))

  open-whole : length p ≡ mark_end → eqb (mark_in p) open_mark ≡ true → Whole p
  unfolding next record_of span_of
  open-whole h e =
      calls-whole {k = opens (conn_in p)} {m = drop mark_end p} (rw (le-ltb (length p) mark_end (omega arith), e) refl) refl (sym h)
      (not_last (omega arith))

  close-whole : length p ≡ mark_end → eqb (mark_in p) open_mark ≡ false → eqb (mark_in p) close_mark ≡ true → Whole p
  unfolding next record_of span_of
  close-whole h c e =
      calls-whole {k = closes (conn_in p) card_room} {m = drop mark_end p} (rw (le-ltb (length p) mark_end (omega arith), c, e) refl)
      refl (sym h)
      (not_last (omega arith))

  short-mark : length p < mark_end → next p ≡ stops
  unfolding next
  short-mark h = rw (lt-ltb (length p) mark_end h) refl

  other-mark : mark_end ≤ length p → eqb (mark_in p) open_mark ≡ false → eqb (mark_in p) close_mark ≡ false
      → eqb (mark_in p) message_mark ≡ false
      → eqb (mark_in p) tick_mark ≡ false → (more : List ℕ) → next (p ++ more) ≡ stops
  unfolding next
  other-mark h c d e f more = rw (enough mark_end more h, front 0 1 more (omega arith), c, d, e, f) refl

  -- behind the mark of a message or of a tick
  module _ (two : mark_end ≤ length p) (c : eqb (mark_in p) open_mark ≡ false) (d : eqb (mark_in p) close_mark ≡ false) where
    short-header : (eqb (mark_in p) message_mark ≡ false → eqb (mark_in p) tick_mark ≡ true) → length p < header_end → next p ≡ stops
    unfolding next next_message next_tick
    short-header t h =
        let s = lt-ltb (length p) header_end h in
        rw (le-ltb (length p) mark_end two, c, d)
        (by (λ x. x ≡ stops) (eqb (mark_in p) message_mark) _ _ (λ e. rw s refl) (λ e. rw (t e, s) refl))

    tick-whole : eqb (mark_in p) message_mark ≡ false → eqb (mark_in p) tick_mark ≡ true → length p ≡ tick_end → Whole p
    unfolding next next_tick record_of span_of
    tick-whole e f h =
        calls-whole {k = ticks (seconds_in p) (micros_in p) card_room} {m = drop tick_end p}
        (rw (le-ltb (length p) mark_end two, c, d, e, f, le-ltb (length p) tick_end (omega arith)) refl) refl (sym h)
        (rw (le-leb header_end (length p) (omega arith), mark-at (omega arith), e) refl)

    module _ (e : eqb (mark_in p) message_mark ≡ true) (ten : header_end ≤ length p) where
      short-data : ltb largest_size (field 4 2 p) ≡ false → length p < message_end (field 4 2 p) → next p ≡ stops
      unfolding next next_message
      short-data o h =
          rw (
            le-ltb (length p) mark_end two,
            c,
            d,
            e,
            le-ltb (length p) header_end ten,
            size-at p,
            o,
            lt-ltb (length p) (message_end (field 4 2 p)) h,
          ) refl

      message-whole : ltb largest_size (field 4 2 p) ≡ false → length p ≡ message_end (field 4 2 p) → Whole p
      unfolding next next_message record_of span_of
      message-whole o h =
          let m = message_from p in
          let n = message_size m in
          let own : message_size (part 0 (8 + n) m) ≡ n =
          ap value (part-take 2 2 (8 + n) m (omega arith) (omega (arith, length-drop 2 p, size-at p))) in
          calls-whole {k = messages (conn_in p) (part 0 (8 + n) m) card_loans} {m = drop (message_end n) p}
          (rw (
            le-ltb (length p) mark_end two,
            c,
            d,
            e,
            le-ltb (length p) header_end ten,
            ap (λ x. ltb largest_size x) (size-at p) ∙ o,
            le-ltb (length p) (message_end n) (omega (arith, size-at p)),
          ) refl)
          refl (omega (arith, own, size-at p))
          (rw (le-leb header_end (length p) ten, mark-at (omega arith), e, o) refl)

      -- "makes the call .. and stops"
      oversize-whole : ltb largest_size (field 4 2 p) ≡ true → length p ≡ header_end → Whole p
      unfolding next next_message call_for made_of record_in record_of
      oversize-whole o h more =
          let big : oversize (message_from p) ≡ true = ap (λ x. ltb largest_size x) (size-at p) ∙ o in
          let rest : part 0 8 (message_from p) ≡ message_from p = take_all 8 (drop 2 p) (omega (arith, length-drop 2 p)) in
          let last : ends_with p ≡ true = rw (le-leb header_end (length p) ten, mark-at (omega arith), e, o) refl in
          let here : next p ≡ ends (messages (conn_in p) (part 0 8 (message_from p)) card_loans) =
          rw (le-ltb (length p) mark_end two, c, d, e, le-ltb (length p) header_end ten, big) refl in
          let made : call_for p ≡ messages (conn_in p) (message_from p) card_loans = ap (λ x. made_of (record_of x) p) here in
          let size : message_size (message_from (p ++ more)) ≡ message_size (message_from p) =
          size-at (p ++ more) ∙ front 4 2 more (omega arith) ∙ sym (size-at p) in
          let there : next (p ++ more) ≡ ends (messages (conn_in p) (part 2 8 p) card_loans) =
          rw (
            enough mark_end more two,
            front 0 1 more (omega arith),
            c,
            d,
            e,
            enough header_end more ten,
            ap (λ x. ltb largest_size x) size ∙ big,
            front 1 1 more (omega arith),
            part-front 2 8 p more (omega arith),
          ) refl in
          there ∙ ap (λ x. ends (messages (conn_in p) x card_loans)) rest ∙ ap ends (sym made)
          ∙ sym (ap (λ t. cond t (ends (call_for p)) (calls (call_for p) more)) last)

-- ## A buffer that is filled; m: its first byte

pub record Marked (m : ℕ) (l : List ℕ) : Type 0 where
  pub long : length l ≡ 4098
  pub mark : field 0 1 l ≡ m

pub marked-first : (l : List ℕ) → length l ≡ 4098 → Marked (get_or l 0 0) l
marked-first l h = record { long = h; mark = field-one 0 l (omega arith) }

module _ {from to : ℕ} {c : Came} {e l : List ℕ} (f : Filled from to c e l) where
  pub filled-all : c.whole ≡ true → c.count ≡ to
  filled-all w = eqb-true c.count to (sym f.whole ∙ w)

  filled-short : c.whole ≡ false → c.count < to
  filled-short w = omega (arith, f.most, eqb-false c.count to (sym f.whole ∙ w))

  -- what was there before stays
  stays : (a k : ℕ) → a + k ≤ from → from ≤ length l → from ≤ length e → field a k l ≡ field a k e
  stays a k i h g = sym (ap value (part-take a k from l i h)) ∙ ap (field a k) f.front ∙ ap value (part-take a k from e i g)

  pub marked-on : {m : ℕ} → Marked m e → length l ≡ 4098 → 1 ≤ from → from ≤ 4098 → Marked m l
  marked-on a h i j = record { long = h; mark = stays 0 1 (omega arith) (omega arith) (omega (arith, a.long)) ∙ a.mark }

  pub size-on : {m : ℕ} → Marked m e → Marked m l → from ≡ 10 → field 4 2 l ≡ field 4 2 e
  size-on a b z = stays 4 2 (omega arith) (omega (arith, b.long)) (omega (arith, a.long))

-- the mark of a message or of a tick
pub record Long (m : ℕ) : Type 0 where
  pub not_open : eqb m open_mark ≡ false
  pub not_close : eqb m close_mark ≡ false
  pub tick : eqb m message_mark ≡ false → eqb m tick_mark ≡ true

abbrev IfLong : ℕ → ℕ → Type 0
IfLong m x = 10 ≤ x → Long m

pub long-mark : (m : ℕ) → 10 ≤ head_of m → Long m
long-mark m =
    by (IfLong m) (eqb m open_mark) mark_end _ (λ o h. absurd (omega arith))
    (λ c. by (IfLong m) (eqb m close_mark) mark_end _ (λ o h. absurd (omega arith))
    (λ d. by (IfLong m) (eqb m message_mark) header_end _
    (λ e h. record { not_open = c; not_close = d; tick = λ z. absurd (clash (eqb m message_mark) e z) })
    (λ e. by (IfLong m) (eqb m tick_mark) header_end 0 (λ t h. record { not_open = c; not_close = d; tick = λ z. t })
    (λ t h. absurd (omega arith)))))

is-message : (m : ℕ) → Long m → (m ≡ tick_mark → ⊥) → eqb m message_mark ≡ true
is-message m a n = go (eqb m message_mark) refl
  where
    go : (b : Bool) → eqb m message_mark ≡ b → b ≡ true
    go true e = refl
    go false e = absurd (n (eqb-true m tick_mark (a.tick e)))

-- ## What `read_record` gives

module _ {m : ℕ} (l : List ℕ) (a : Marked m l) where
  long-take : (n : ℕ) → n ≤ 4098 → length (take n l) ≡ n
  long-take n h = length-take-le n l (omega (arith, a.long))

  is-mark : (n k : ℕ) {b : Bool} → 1 ≤ n → n ≤ 4098 → eqb m k ≡ b → eqb (mark_in (take n l)) k ≡ b
  is-mark n k i h e = ap (λ x. eqb x k) (ap value (part-take 0 1 n l i (omega (arith, a.long))) ∙ a.mark) ∙ e

  is-size : (n : ℕ) → 6 ≤ n → n ≤ 4098 → field 4 2 (take n l) ≡ field 4 2 l
  is-size n i h = ap value (part-take 4 2 n l i (omega (arith, a.long)))

ended_at : (p : List ℕ) (c : Came) → c.whole ≡ false → next p ≡ stops → Ended p c
ended_at p c w e more u = ap (λ x. next (p ++ x)) (u w) ∙ ap next (append-nil p) ∙ e

reads_none : {c : Came} {l : List ℕ} → c.count ≤ 4098 → Ended (take c.count l) c → Reads (record { len = 0; last = c }) l
reads_none h e = record { within = h; came = λ z. absurd (omega arith); whole = λ z. absurd (omega arith); ended = λ z. e }

reads-one : {c : Came} {l : List ℕ} (n : ℕ) → n ≡ c.count → 2 ≤ n → n ≤ 4098 → Whole (take n l) → Reads (record { len = n; last = c }) l
reads-one n e i h w = record { within = omega arith; came = λ z. e; whole = λ z. w; ended = λ z. absurd (omega arith) }

abbrev IfShort : Came → List ℕ → ℕ → Type 0
IfShort c l x = x < 10 → Reads (record { len = x; last = c }) l

module _ {from : ℕ} {c : Came} {e l : List ℕ} (f : Filled from 2 c e l) (h : length l ≡ 4098) where
  pub reads-cut-mark : c.whole ≡ false → Reads (record { len = 0; last = c }) l
  reads-cut-mark w =
      let n = filled-short f w in
      reads_none (omega arith)
      (ended_at _ c w (short-mark (take c.count l) (omega (arith, length-take-le c.count l (omega arith)))))

  pub reads-mark : {m head : ℕ} → Marked m l → c.whole ≡ true → head ≡ head_of m → head < 10 → Reads (record { len = head; last = c }) l
  reads-mark {m} {head} a w g s =
      let n = filled-all f w in
      let two = long-take l a 2 (omega arith) in
      let all = long-take l a c.count (omega arith) in
      let is : (k : ℕ) (b : Bool) → eqb m k ≡ b → eqb (mark_in (take 2 l)) k ≡ b = λ k b. is-mark l a 2 k (omega arith) (omega arith) in
      let at : (k : ℕ) → eqb m k ≡ false → eqb (mark_in (take c.count l)) k ≡ false =
      λ k. is-mark l a c.count k (omega arith) (omega arith) in
      subst (λ x. Reads (record { len = x; last = c }) l) (sym g)
      (by (IfShort c l) (eqb m open_mark) mark_end _
      (λ o z. reads-one 2 (sym n) (omega arith) (omega arith) (open-whole (take 2 l) two (is open_mark true o)))
      (λ o. by (IfShort c l) (eqb m close_mark) mark_end _
      (λ d z. reads-one 2 (sym n) (omega arith) (omega arith) (close-whole (take 2 l) two (is open_mark false o) (is close_mark true d)))
      (λ d. by (IfShort c l) (eqb m message_mark) header_end _ (λ i z. absurd (omega arith))
      (λ i. by (IfShort c l) (eqb m tick_mark) header_end 0 (λ t z. absurd (omega arith))
      (λ t z. reads_none (omega arith)
      (λ more u. other-mark (take c.count l) (omega (arith, all)) (at open_mark o) (at close_mark d)
      (at message_mark i) (at tick_mark t) more)))))
      (subst (λ x. x < 10) g s))

-- the header
module _ {m from : ℕ} {c : Came} {e l : List ℕ} (f : Filled from 10 c e l) (a : Marked m l) where
  pub reads-cut-header : Long m → from ≡ 2 → c.whole ≡ false → Reads (record { len = 0; last = c }) l
  reads-cut-header g z w =
      let n = filled-short f w in
      let i = f.least in
      let all = long-take l a c.count (omega arith) in
      let is : (k : ℕ) (b : Bool) → eqb m k ≡ b → eqb (mark_in (take c.count l)) k ≡ b =
      λ k b. is-mark l a c.count k (omega arith) (omega arith) in
      reads_none (omega arith)
      (ended_at _ c w
      (short-header (take c.count l) (omega (arith, all)) (is open_mark false g.not_open) (is close_mark false g.not_close)
      (λ x. is tick_mark true (g.tick (sym (is message_mark (eqb m message_mark) refl) ∙ x))) (omega (arith, all))))

  module _ (w : c.whole ≡ true) where
    ten : length (take 10 l) ≡ 10
    ten = long-take l a 10 (omega arith)

    marks : (k : ℕ) {b : Bool} → eqb m k ≡ b → eqb (mark_in (take 10 l)) k ≡ b
    marks k = is-mark l a 10 k (omega arith) (omega arith)

    pub reads-tick : m ≡ tick_mark → Reads (record { len = 10; last = c }) l
    reads-tick t =
        reads-one 10 (sym (filled-all f w)) (omega arith) (omega arith)
        (tick-whole (take 10 l) (omega (arith, ten)) (marks open_mark (ap (λ x. eqb x open_mark) t))
        (marks close_mark (ap (λ x. eqb x close_mark) t))
        (marks message_mark (ap (λ x. eqb x message_mark) t)) (marks tick_mark (ap (λ x. eqb x tick_mark) t)) ten)

    pub reads-oversize : {size : ℕ} → Long m → (m ≡ tick_mark → ⊥) → size ≡ field 4 2 l → ltb 4088 size ≡ true
        → Reads (record { len = 10; last = c }) l
    reads-oversize g n s o =
        reads-one 10 (sym (filled-all f w)) (omega arith) (omega arith)
        (oversize-whole (take 10 l) (omega (arith, ten)) (marks open_mark g.not_open) (marks close_mark g.not_close)
        (marks message_mark (is-message m g n)) (omega (arith, ten))
        (ap (λ x. ltb 4088 x) (is-size l a 10 (omega arith) (omega arith) ∙ sym s) ∙ o) ten)

-- the data
module _ {m from size : ℕ} {c : Came} {e l : List ℕ} (f : Filled from (10 + size) c e l) (a : Marked m l) (g : Long m)
    (n : m ≡ tick_mark → ⊥) (z : from ≡ 10) (s : size ≡ field 4 2 l) (o : ltb 4088 size ≡ false) where
  small : size ≤ 4088
  small = ltb-false 4088 size o

  module _ (k : ℕ) (i : 10 ≤ k) (h : k ≤ 10 + size) where
    here : length (take k l) ≡ k
    here = long-take l a k (omega (arith, small))

    here-mark : (x : ℕ) {b : Bool} → eqb m x ≡ b → eqb (mark_in (take k l)) x ≡ b
    here-mark x = is-mark l a k x (omega arith) (omega (arith, small))

    here-size : field 4 2 (take k l) ≡ size
    here-size = is-size l a k (omega arith) (omega (arith, small)) ∙ sym s

    here-fits : ltb largest_size (field 4 2 (take k l)) ≡ false
    here-fits = ap (λ x. ltb largest_size x) here-size ∙ o

  pub reads-cut-data : c.whole ≡ false → Reads (record { len = 0; last = c }) l
  reads-cut-data w =
      let short = filled-short f w in
      let k = c.count in
      let i : 10 ≤ k = omega (arith, f.least) in
      let h : k ≤ 10 + size = f.most in
      let p = take k l in
      reads_none (omega (arith, small))
      (ended_at p c w
      (short-data p (omega (arith, here k i h)) (here-mark k i h open_mark g.not_open) (here-mark k i h close_mark g.not_close)
      (here-mark k i h message_mark (is-message m g n)) (omega (arith, here k i h)) (here-fits k i h)
      (omega (arith, here k i h, here-size k i h))))

  pub reads-message : c.whole ≡ true → Reads (record { len = 10 + size; last = c }) l
  reads-message w =
      let k = 10 + size in
      let i : 10 ≤ k = omega arith in
      let h : k ≤ 10 + size = omega arith in
      let p = take k l in
      reads-one k (sym (filled-all f w)) (omega arith) (omega (arith, small))
      (message-whole p (omega (arith, here k i h)) (here-mark k i h open_mark g.not_open) (here-mark k i h close_mark g.not_close)
      (here-mark k i h message_mark (is-message m g n)) (omega (arith, here k i h)) (here-fits k i h)
      (omega (arith, here k i h, here-size k i h)))

-- ## What an input begins with

-- a record; t: it is the last one
pub record First (l : List ℕ) (t : Bool) : Type 0 where
  pub size : ℕ
  pub two : 2 ≤ size
  pub there : size ≤ length l
  pub whole : Whole (take size l)
  pub last : ends_with (take size l) ≡ t

abbrev pub Stands : List ℕ → Next → Type 0
Stands l (calls k m) = First l false
Stands l (ends k) = First l true
Stands l stops = Unit {0}

ends-with : (p : List ℕ) {b t : Bool} → header_end ≤ length p → eqb (mark_in p) message_mark ≡ b → ltb largest_size (field 4 2 p) ≡ t
    → ends_with p ≡ b && t
ends-with p h e o = rw (le-leb header_end (length p) h, mark-at p (omega arith), e, o) refl

module _ (l : List ℕ) where
  kept-mark : (n : ℕ) → 1 ≤ n → n ≤ length l → (k : ℕ) (b : Bool) → eqb (mark_in l) k ≡ b → eqb (mark_in (take n l)) k ≡ b
  kept-mark n i h k b e = ap (λ x. eqb x k) (ap value (part-take 0 1 n l i h)) ∙ e

  kept-size : (n : ℕ) → 6 ≤ n → n ≤ length l → field 4 2 (take n l) ≡ message_size (message_from l)
  kept-size n i h = ap value (part-take 4 2 n l i h) ∙ sym (size-at l)

  stands-open : mark_end ≤ length l → eqb (mark_in l) open_mark ≡ true → First l false
  stands-open h o =
      let n = length-take-le 2 l h in
      let p = take 2 l in
      record {
        size = 2;
        two = omega arith;
        there = h;
        whole = open-whole p n (kept-mark 2 (omega arith) h open_mark true o);
        last = not_last p (omega arith);
      }

  module _ (o : eqb (mark_in l) open_mark ≡ false) where
    stands-close : mark_end ≤ length l → eqb (mark_in l) close_mark ≡ true → First l false
    stands-close h d =
        let n = length-take-le 2 l h in
        let p = take 2 l in
        record {
          size = 2;
          two = omega arith;
          there = h;
          whole = close-whole p n (kept-mark 2 (omega arith) h open_mark false o) (kept-mark 2 (omega arith) h close_mark true d);
          last = not_last p (omega arith);
        }

    module _ (d : eqb (mark_in l) close_mark ≡ false) where
      stands-tick : eqb (mark_in l) message_mark ≡ false → eqb (mark_in l) tick_mark ≡ true → tick_end ≤ length l → First l false
      stands-tick i t h =
          let n = length-take-le 10 l h in
          let p = take 10 l in
          let at = kept-mark 10 (omega arith) h in
          record {
            size = 10;
            two = omega arith;
            there = h;
            whole = tick-whole p (omega arith) (at open_mark false o) (at close_mark false d) (at message_mark false i)
                (at tick_mark true t) n;
            last = ends-with p (omega arith) (at message_mark false i) refl;
          }

      stands-oversize : eqb (mark_in l) message_mark ≡ true → header_end ≤ length l → oversize (message_from l) ≡ true → First l true
      stands-oversize i h b =
          let n = length-take-le 10 l h in
          let p = take 10 l in
          let at = kept-mark 10 (omega arith) h in
          let big : ltb largest_size (field 4 2 p) ≡ true = ap (λ x. ltb largest_size x) (kept-size 10 (omega arith) h) ∙ b in
          record {
            size = 10;
            two = omega arith;
            there = h;
            whole = oversize-whole p (omega arith) (at open_mark false o) (at close_mark false d) (at message_mark true i) (omega arith)
                big n;
            last = ends-with p (omega arith) (at message_mark true i) big;
          }

      stands-message : eqb (mark_in l) message_mark ≡ true → oversize (message_from l) ≡ false
          → message_end (message_size (message_from l)) ≤ length l → First l false
      stands-message i b h =
          let k = message_end (message_size (message_from l)) in
          let n = length-take-le k l h in
          let p = take k l in
          let at = kept-mark k (omega arith) h in
          let size = kept-size k (omega arith) h in
          let small : ltb largest_size (field 4 2 p) ≡ false = ap (λ x. ltb largest_size x) size ∙ b in
          record {
            size = k;
            two = omega arith;
            there = h;
            whole = message-whole p (omega arith) (at open_mark false o) (at close_mark false d) (at message_mark true i) (omega arith)
                small
                (n ∙ ap message_end (sym size));
            last = ends-with p (omega arith) (at message_mark true i) small;
          }

  pub stands : Stands l (next l)
  unfolding next next_message next_tick
  stands =
      by (Stands l) (ltb (length l) mark_end) _ _ (λ e. tt)
      (λ e. let h = ltb-false (length l) mark_end e in by (Stands l) (eqb (mark_in l) open_mark) _ _ (stands-open h)
      (λ o. by (Stands l) (eqb (mark_in l) close_mark) _ _ (stands-close o h)
      (λ d. by (Stands l) (eqb (mark_in l) message_mark) _ _
      (λ i. by (Stands l) (ltb (length l) header_end) _ _ (λ j. tt)
      (λ j. by (Stands l) (oversize (message_from l)) _ _ (stands-oversize o d i (ltb-false (length l) header_end j))
      (λ b. by (Stands l) (ltb (length l) (message_end (message_size (message_from l)))) _ _ (λ q. tt)
      (λ q. stands-message o d i b (ltb-false (length l) (message_end (message_size (message_from l))) q)))))
      (λ i. by (Stands l) (eqb (mark_in l) tick_mark) _ _
      (λ t. by (Stands l) (ltb (length l) tick_end) _ _ (λ j. tt) (λ j. stands-tick o d i t (ltb-false (length l) tick_end j)))
      (λ t. tt)))))

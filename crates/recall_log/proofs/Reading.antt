-- A record of the log as the code reads it: its tests in their order, and from one record to the next.
-- Rests on `first` of Firsts: the call that some bytes begin with, and its bytes.
use mathlib.Core.Path.{◌≡◌, refl, sym, ap, ap₂, ◌∙◌}
use mathlib.Core.Bool.{Bool, true, false, cond}
use mathlib.Core.List.{List, [], ◌∷◌}
use Prim.Native.Nat.{ℕ, ◌+◌, ◌-◌, ◌≤◌, ◌<◌}
use native.Mathlib.Omega.{arith}
use Rattle.std.specs.Prelude.{None, Some}
use lib.Dec.{eqb}
use lib.ListN.{length, get_or, take, drop, length-drop}
use lib.Seq.{take_all, drop-drop}
use borrow.Rule.Slice.PartMut.{mid_of}
use borrow.Author.Tests.{lt-ltb, le-ltb, ne_eqb}
use Rattle.std.proofs.lemmas.Option.{none-some, same_Some}
use Rattle.rules.specs.Bytes.{value, field, message_size, largest_size}
use Rattle.rules.specs.Card.{open_mark, close_mark, message_mark, tick_mark, message_from, mark_end, tick_end, header_end, message_end}
use Rattle.rules.specs.Card.{Next, calls, ends, stops, next, next_message, next_tick}
use Rattle.rules.proofs.Values.{field-one}
use Rattle.recall_log.specs.declared.Record.{Record}
use Rattle.recall_log.specs.declared.Record.TheVariants.{Open, Close, Message, Tick}
use Rattle.recall_log.specs.declared.Held.{Held}
use Rattle.recall_log.specs.Log.{kept_calls, taken}
use Rattle.recall_log.specs.Kept.{record_of, record_in, call_of, span_of, Counts}
use Rattle.recall_log.proofs.Firsts.{part-take, first}
use Rattle.recall_log.proofs.Walks.{NoCall, calls-none, taken_none, calls-more, taken_more}

-- ## The tests

-- the record of a choice is the choice of the records
chosen : (b : Bool) (x y : Next) → record_of (cond b x y) ≡ cond b (record_of x) (record_of y)
chosen true x y = refl
chosen false x y = refl

pub record-cut : (l : List ℕ) → length l < mark_end → record_in l ≡ None
unfolding record_in record_of next
record-cut l h = rw (lt-ltb (length l) mark_end h)

-- behind the first test, of a log whose first byte is the mark
pub record-at : (l : List ℕ) (mark : ℕ) → mark_end ≤ length l → get_or l 0 0 ≡ mark
    → record_in l
    ≡ cond (eqb mark open_mark) (Some (Open (get_or l 1 0)))
    (cond (eqb mark close_mark) (Some (Close (get_or l 1 0)))
    (cond (eqb mark message_mark) (record_of (next_message l))
    (cond (eqb mark tick_mark) (record_of (next_tick l)) None)))
unfolding record_in record_of next
record-at l mark h e = rw (le-ltb (length l) mark_end h, field-one 0 l (omega arith), e, field-one 1 l (omega arith)) (simp chosen)

pub record-none : (l : List ℕ) → mark_end ≤ length l → (get_or l 0 0 ≡ open_mark → ⊥) → (get_or l 0 0 ≡ close_mark → ⊥)
    → (get_or l 0 0 ≡ message_mark → ⊥) → (get_or l 0 0 ≡ tick_mark → ⊥) → record_in l ≡ None
record-none l h a b c d =
    rw (
      record-at l (get_or l 0 0) h refl,
      ne_eqb (get_or l 0 0) open_mark a,
      ne_eqb (get_or l 0 0) close_mark b,
      ne_eqb (get_or l 0 0) message_mark c,
      ne_eqb (get_or l 0 0) tick_mark d,
    )

pub tick-cut : (l : List ℕ) → length l < tick_end → record_of (next_tick l) ≡ None
unfolding record_of next_tick
tick-cut l h = rw (lt-ltb (length l) tick_end h)

pub tick-whole : (l : List ℕ) → tick_end ≤ length l → record_of (next_tick l) ≡ Some (Tick (field 2 4 l) (field 6 4 l))
unfolding record_of next_tick
tick-whole l h = rw (le-ltb (length l) tick_end h)

pub header-cut : (l : List ℕ) → length l < header_end → record_of (next_message l) ≡ None
unfolding record_of next_message
header-cut l h = rw (lt-ltb (length l) header_end h)

-- size: where the code reads it
module _ (l : List ℕ) (size : ℕ) (h : header_end ≤ length l) (e : size ≡ field 4 2 l) where
  size_is : message_size (message_from l) ≡ size
  size_is = ap (λ x. value (take 2 x)) (drop-drop 2 2 l) ∙ sym e

  pub message-oversize : largest_size < size → record_of (next_message l) ≡ None
  unfolding record_of next_message
  message-oversize f = rw (le-ltb (length l) header_end h, size_is, lt-ltb largest_size size f)

  pub message-cut : size ≤ largest_size → length l < message_end size → record_of (next_message l) ≡ None
  unfolding record_of next_message
  message-cut f g = rw (le-ltb (length l) header_end h, size_is, le-ltb largest_size size f, lt-ltb (length l) (message_end size) g)

  pub message-whole : size ≤ largest_size → message_end size ≤ length l → record_of (next_message l) ≡ Some (Message (get_or l 1 0) size)
  unfolding record_of next_message
  message-whole f g =
      let own : message_size (take (8 + size) (message_from l)) ≡ size =
      ap value (part-take 2 2 (8 + size) (message_from l) (omega arith) (omega (arith, length-drop 2 l))) ∙ size_is in
      rw (
        le-ltb (length l) header_end h,
        size_is,
        le-ltb largest_size size f,
        le-ltb (length l) (message_end size) g,
        field-one 1 l (omega arith),
        own,
      )

-- ## From one to the next

-- no call stands there
pub none-is : (l : List ℕ) → record_in l ≡ None → NoCall (next l)
unfolding record_in record_of
none-is l e = go (next l) refl e
  where
    go : (x : Next) → next l ≡ x → record_of x ≡ None → NoCall x
    go (calls k m) f e = absurd (none-some (first l f).kind (sym e ∙ (first l f).kind_is))
    go (ends k) f e = tt
    go stops f e = tt

-- it takes no bytes: no call stands there
pub span_none : (l : List ℕ) → span_of (record_in l) ≡ 0 → NoCall (next l)
unfolding record_in
span_none l e = go (next l) refl e
  where
    go : (x : Next) → next l ≡ x → span_of (record_of x) ≡ 0 → NoCall x
    go (calls k m) f e = let g = first l f in absurd (omega (arith, e, ap span_of g.kind_is, g.span, g.two))
    go (ends k) f e = tt
    go stops f e = tt

-- it takes some: a call stands there, in the words of the record
pub span-some : (l : List ℕ) → 0 < span_of (record_in l) → next l ≡ calls (call_of (record_in l) l) (drop (span_of (record_in l)) l)
unfolding record_in record_of span_of
span-some l h = go (next l) refl h
  where
    go : (x : Next) → next l ≡ x → 0 < span_of (record_of x) → x ≡ calls (call_of (record_of x) l) (drop (span_of (record_of x)) l)
    go (calls k m) f h =
        let g = first l f in
        let s : span_of (record_of (calls k m)) ≡ g.size = ap span_of g.kind_is ∙ g.span in
        let d : call_of (record_of (calls k m)) l ≡ k = ap (λ x. call_of x l) g.kind_is ∙ g.made in
        ap (λ x. calls k x) (g.rest ∙ ap (λ n. drop n l) (sym s))
        ∙ ap (λ x. calls x (drop (span_of (record_of (calls k m))) l)) (sym d)
    go (ends k) f h = absurd (omega arith)
    go stops f h = absurd (omega arith)

-- a call stands there, in the words of the record
pub some-is : (l : List ℕ) {r : Record} → record_in l ≡ Some r → next l ≡ calls (call_of (Some r) l) (drop (span_of (Some r)) l)
unfolding record_in record_of
some-is l {r} e = go (next l) refl e
  where
    go : (x : Next) → next l ≡ x → record_of x ≡ Some r → x ≡ calls (call_of (Some r) l) (drop (span_of (Some r)) l)
    go (calls k m) f e =
        let g = first l f in
        let h : g.kind ≡ r = same_Some g.kind r (sym g.kind_is ∙ e) in
        ap (λ x. calls k x) (g.rest ∙ ap (λ n. drop n l) (sym g.span ∙ ap (λ x. span_of (Some x)) h))
        ∙ ap (λ x. calls x (drop (span_of (Some r)) l)) (sym g.made ∙ ap (λ x. call_of (Some x) l) h)
    go (ends k) f e = absurd (none-some r e)
    go stops f e = absurd (none-some r e)

-- ## A walk through the log l, at the place `at`

-- the bytes from there on
tail : (l : List ℕ) (at : ℕ) → mid_of at (length l - at) l ≡ drop at l
tail l at = take_all (length l - at) (drop at l) (omega (arith, length-drop at l))

module _ (l : List ℕ) (at : ℕ) where
  pub walk_end : record_in (mid_of at (length l - at) l) ≡ None → (kept_calls (drop at l) ≡ []) × (taken (drop at l) ≡ 0)
  walk_end e =
      let n = none-is (drop at l) (ap record_in (sym (tail l at)) ∙ e) in
      (calls-none (drop at l) n, taken_none (drop at l) n)

  -- r: the record there
  module _ (h : at ≤ length l) {r : Record} (e : record_in (mid_of at (length l - at) l) ≡ Some r) where
    record_is : record_in (drop at l) ≡ Some r
    record_is = ap record_in (sym (tail l at)) ∙ e

    there : next (drop at l) ≡ calls (call_of (Some r) (drop at l)) (drop (span_of (Some r)) (drop at l))
    there = some-is (drop at l) record_is

    size-is-span : (first (drop at l) there).size ≡ span_of (Some r)
    unfolding record_in
    size-is-span =
        let f = first (drop at l) there in
        sym f.span ∙ ap (λ x. span_of (Some x)) (same_Some f.kind r (sym f.kind_is ∙ ap record_of (sym there) ∙ record_is))

    pub walk-within : (2 ≤ span_of (Some r)) × (at + span_of (Some r) ≤ length l)
    walk-within =
        let f = first (drop at l) there in
        (omega (arith, size-is-span, f.two), omega (arith, size-is-span, f.there, length-drop at l))

    -- the call there, and those behind it
    pub walk-calls : kept_calls (drop at l) ≡ call_of (Some r) (drop at l) ∷ kept_calls (drop (at + span_of (Some r)) l)
    walk-calls = calls-more (drop at l) there ∙ ap (λ x. call_of (Some r) (drop at l) ∷ kept_calls x) (drop-drop (span_of (Some r)) at l)

    pub walk-taken : taken (drop at l) ≡ span_of (Some r) + taken (drop (at + span_of (Some r)) l)
    walk-taken = taken_more (drop at l) there ∙ ap₂ ◌+◌ size-is-span (ap taken (drop-drop (span_of (Some r)) at l))

-- ## The count

-- n calls stand before the place `at`
pub record Counting (l : List ℕ) (at n : ℕ) : Type 0 where
  pub there : at ≤ length l
  pub few : n ≤ at
  pub calls : n + length (kept_calls (drop at l)) ≡ length (kept_calls l)
  pub bytes : at + taken (drop at l) ≡ taken l

pub counting-none : (l : List ℕ) → Counting l 0 0
counting-none l = record { there = omega arith; few = omega arith; calls = omega arith; bytes = omega arith }

module _ {l : List ℕ} {at n : ℕ} (c : Counting l at n) where
  pub counting-end : record_in (mid_of at (length l - at) l) ≡ None → Counts l (record { calls = n; taken = at })
  counting-end e =
      let w = walk_end l at e in
      record { calls = omega (arith, c.calls, ap length w.0); taken = omega (arith, c.bytes, w.1) }

  -- r: the record there
  pub counting_more : {r : Record} → record_in (mid_of at (length l - at) l) ≡ Some r → Counting l (at + span_of (Some r)) (n + 1)
  counting_more e =
      let w = walk-within l at c.there e in
      record {
        there = w.1;
        few = omega (arith, w.0, c.few);
        calls = omega (arith, c.calls, ap length (walk-calls l at c.there e));
        bytes = omega (arith, c.bytes, walk-taken l at c.there e);
      }

-- any two results that the promise allows are equal
pub counts_same : (l : List ℕ) (g h : Held) → Counts l g → Counts l h → g ≡ h
counts_same l g h a b = same g.calls g.taken h.calls h.taken (a.calls ∙ sym b.calls) (a.taken ∙ sym b.taken)
  where
    same : (m t n u : ℕ) → m ≡ n → t ≡ u → ◌≡◌ {A = Held} (record { calls = m; taken = t }) (record { calls = n; taken = u })
    same m t n u e f = cc

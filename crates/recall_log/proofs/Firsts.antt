-- The call that some bytes begin with is read the same whatever stands behind it.
-- Rests on the lists' laws of `take`, `drop` and `++` alone.
use mathlib.Core.Path.{◌≡◌, refl, sym, subst, ap, ◌∙◌}
use mathlib.Core.Bool.{true, false}
use mathlib.Core.List.{List, ◌++◌}
use Rattle.std.specs.Prelude.{Some}
use Prim.Native.Nat.{ℕ, ◌+◌, ◌≤◌}
use native.Mathlib.Omega.{arith}
use lib.Dec.{eqb, ltb}
use lib.ListN.{length, take, drop, length-append, length-drop, take-append-drop}
use lib.Seq.{length-take-le, drop_at, drop-drop, take-append-le, drop-append-le}
use borrow.Author.Tests.{ltb-false, le-ltb}
use Rattle.rules.specs.Bytes.{value, bytes, part, field, message_size, oversize}
use Rattle.rules.specs.Calls.{Call, opens, closes, messages, ticks}
use Rattle.rules.specs.Card.{open_mark, close_mark, message_mark, tick_mark, mark_in, conn_in, message_from, seconds_in, micros_in}
use Rattle.rules.specs.Card.{mark_end, tick_end, header_end, message_end, Next, calls, ends, stops, card_room, card_loans, next}
use Rattle.rules.specs.Card.{next_message}
use Rattle.rules.specs.Card.{next_tick}
use Rattle.rules.proofs.Tests.{by}
use Rattle.rules.proofs.Bytes.{length-bytes}
use Rattle.recall_log.specs.declared.Record.{Record}
use Rattle.recall_log.specs.declared.Record.TheVariants.{Open, Close, Message, Tick}
use Rattle.recall_log.specs.Kept.{marked, record_of, call_of, span_of}

-- ## Parts of the first bytes

pub part-front : (a n : ℕ) (x y : List ℕ) → a + n ≤ length x → part a n (x ++ y) ≡ part a n x
part-front a n x y h =
    ap (take n) (drop-append-le a x y (omega arith)) ∙ take-append-le n (drop a x) y (simp length-drop (omega arith))

pub part-take : (a k n : ℕ) (l : List ℕ) → a + k ≤ n → n ≤ length l → part a k (take n l) ≡ part a k l
part-take a k n l i h =
    sym (part-front a k (take n l) (drop n l) (omega (arith, length-take-le n l h))) ∙ ap (part a k) (take-append-drop n l)

-- n bytes of l with anything behind them
module _ (n : ℕ) (l : List ℕ) (h : n ≤ length l) (y : List ℕ) where
  long : length (take n l) ≡ n
  long = length-take-le n l h

  pub part-kept : (a k : ℕ) → a + k ≤ n → part a k (take n l ++ y) ≡ part a k l
  part-kept a k i = part-front a k (take n l) y (omega (arith, long)) ∙ part-take a k n l i h

  field-kept : (a k : ℕ) → a + k ≤ n → field a k (take n l ++ y) ≡ field a k l
  field-kept a k i = ap value (part-kept a k i)

  pub rest-kept : drop n (take n l ++ y) ≡ y
  rest-kept = drop_at (take n l) y n long

  enough : (k : ℕ) → k ≤ n → ltb (length (take n l ++ y)) k ≡ false
  enough k i = le-ltb (length (take n l ++ y)) k (omega (arith, long, length-append (take n l) y))

  size-kept : header_end ≤ n → message_size (message_from (take n l ++ y)) ≡ message_size (message_from l)
  size-kept i =
      ap (λ x. value (take 2 x)) (drop-drop 2 2 (take n l ++ y)) ∙ field-kept 4 2 (omega arith)
      ∙ ap (λ x. value (take 2 x)) (sym (drop-drop 2 2 l))

-- ## What stands first

-- l begins with the call k in its first bytes, and m is behind them
pub record First (l : List ℕ) (k : Call) (m : List ℕ) : Type 0 where
  pub size : ℕ
  pub two : 2 ≤ size
  pub there : size ≤ length l
  pub rest : m ≡ drop size l
  pub marks : length (marked k) ≡ size
  pub kind : Record
  pub kind_is : record_of (calls k m) ≡ Some kind
  pub span : span_of (Some kind) ≡ size
  pub made : call_of (Some kind) l ≡ k
  pub again : (y : List ℕ) → next (take size l ++ y) ≡ calls k y

abbrev pub Begins : List ℕ → Next → Type 0
Begins l (calls k m) = First l k m
Begins l (ends k) = Unit {0}
Begins l stops = Unit {0}

module _ (l : List ℕ) where
  abbrev P : Next → Type 0
  P = Begins l

  begins-open : mark_end ≤ length l → eqb (mark_in l) open_mark ≡ true → First l (opens (conn_in l)) (drop mark_end l)
  unfolding next marked record_of span_of call_of
  begins-open h e =
      record {
        size = mark_end;
        two = omega arith;
        there = h;
        rest = refl;
        marks = refl;
        kind = Open (conn_in l);
        kind_is = refl;
        span = refl;
        made = refl;
        again = λ y. rw (
          enough 2 l h y 2 (omega arith),
          field-kept 2 l h y 0 1 (omega arith),
          field-kept 2 l h y 1 1 (omega arith),
          e,
          rest-kept 2 l h y,
        );
      }

  begins-close : mark_end ≤ length l → eqb (mark_in l) open_mark ≡ false → eqb (mark_in l) close_mark ≡ true
      → First l (closes (conn_in l) card_room) (drop mark_end l)
  unfolding next marked record_of span_of call_of
  begins-close h d e =
      record {
        size = mark_end;
        two = omega arith;
        there = h;
        rest = refl;
        marks = refl;
        kind = Close (conn_in l);
        kind_is = refl;
        span = refl;
        made = refl;
        again = λ y. rw (
          enough 2 l h y 2 (omega arith),
          field-kept 2 l h y 0 1 (omega arith),
          field-kept 2 l h y 1 1 (omega arith),
          d,
          e,
          rest-kept 2 l h y,
        );
      }

  own-size : message_end (message_size (message_from l)) ≤ length l
      → message_size (part 0 (8 + message_size (message_from l)) (message_from l)) ≡ message_size (message_from l)
  own-size h = ap value (part-take 2 2 (8 + message_size (message_from l)) (message_from l) (omega arith) (omega (arith, length-drop 2 l)))

  -- behind the mark of a message, and of a tick
  module _ (c : eqb (mark_in l) open_mark ≡ false) (d : eqb (mark_in l) close_mark ≡ false) where
    begins-message : eqb (mark_in l) message_mark ≡ true → header_end ≤ length l → oversize (message_from l) ≡ false
        → message_end (message_size (message_from l)) ≤ length l
        → First l (messages (conn_in l) (part 0 (8 + message_size (message_from l)) (message_from l)) card_loans)
        (drop (message_end (message_size (message_from l))) l)
    unfolding next next_message marked record_of span_of call_of
    begins-message e g o h =
        let n = message_end (message_size (message_from l)) in
        record {
          size = n;
          two = omega arith;
          there = h;
          rest = refl;
          kind = Message (conn_in l) (message_size (part 0 (8 + message_size (message_from l)) (message_from l)));
          kind_is = refl;
          span = ap message_end (own-size h);
          made = ap (λ x. messages (conn_in l) (part mark_end (8 + x) l) card_loans) (own-size h);
          marks = omega (arith, length-take-le (8 + message_size (message_from l)) (message_from l) (omega (arith, length-drop 2 l)));
          again =
              λ y.
              rw (
                enough n l h y 2 (omega arith),
                field-kept n l h y 0 1 (omega arith),
                c,
                d,
                e,
                enough n l h y 10 (omega arith),
                field-kept n l h y 1 1 (omega arith),
                size-kept n l h y (omega arith),
                o,
                enough n l h y n (omega arith),
                rest-kept n l h y,
                part-kept n l h y 2 (8 + message_size (message_from l)) (omega arith),
              );
        }

    begins-tick : eqb (mark_in l) message_mark ≡ false → eqb (mark_in l) tick_mark ≡ true → tick_end ≤ length l
        → First l (ticks (seconds_in l) (micros_in l) card_room) (drop tick_end l)
    unfolding next next_tick marked record_of span_of call_of
    begins-tick e f h =
        record {
          size = tick_end;
          two = omega arith;
          there = h;
          rest = refl;
          kind = Tick (seconds_in l) (micros_in l);
          kind_is = refl;
          span = refl;
          made = refl;
          marks = omega (
            arith,
            length-append (bytes 4 (seconds_in l)) (bytes 4 (micros_in l)),
            length-bytes 4 (seconds_in l),
            length-bytes 4 (micros_in l),
          );
          again =
              λ y.
              rw (
                enough 10 l h y 2 (omega arith),
                field-kept 10 l h y 0 1 (omega arith),
                c,
                d,
                e,
                f,
                enough 10 l h y 10 (omega arith),
                field-kept 10 l h y 2 4 (omega arith),
                field-kept 10 l h y 6 4 (omega arith),
                rest-kept 10 l h y,
              );
        }

  pub begins : Begins l (next l)
  unfolding next next_message next_tick
  begins =
      by P (ltb (length l) mark_end) _ _ (λ e. tt)
      (λ e. let h = ltb-false (length l) mark_end e in by P (eqb (mark_in l) open_mark) _ _ (begins-open h)
      (λ c. by P (eqb (mark_in l) close_mark) _ _ (begins-close h c)
      (λ d. by P (eqb (mark_in l) message_mark) _ _
      (λ f. by P (ltb (length l) header_end) _ _ (λ i. tt)
      (λ i. by P (oversize (message_from l)) _ _ (λ o. tt)
      (λ o. by P (ltb (length l) (message_end (message_size (message_from l)))) _ _ (λ j. tt)
      (λ j. begins-message c d f (ltb-false (length l) header_end i) o
      (ltb-false (length l) (message_end (message_size (message_from l))) j)))))
      (λ f. by P (eqb (mark_in l) tick_mark) _ _
      (λ g. by P (ltb (length l) tick_end) _ _ (λ i. tt) (λ i. begins-tick c d f g (ltb-false (length l) tick_end i)))
      (λ g. tt)))))

-- as often as it is read
pub first : (l : List ℕ) {k : Call} {m : List ℕ} → next l ≡ calls k m → First l k m
first l e = subst (Begins l) e (begins l)

-- A record of the input is the call that document 01's card program makes of it.
-- Rests on: both make the same tests in the same order.
use mathlib.Core.Path.{◌≡◌, refl, sym, ap, ◌∙◌}
use mathlib.Core.Bool.{Bool, true, false, cond}
use mathlib.Core.List.{List}
use Prim.Native.Nat.{ℕ, ◌≤◌, ◌<◌}
use native.Mathlib.Omega.{arith}
use lib.Dec.{eqb, ltb}
use lib.ListN.{length, get_or, take}
use lib.Seq.{drop-drop}
use borrow.Author.Tests.{lt-ltb, le-ltb}
use Rattle.rules.specs.Bytes.{value, field, largest_size}
use Rattle.rules.specs.Card.{open_mark, close_mark, message_mark, tick_mark, mark_end, header_end, message_end, next, next_message}
use Rattle.rules.specs.Card.{next_tick}
use Rattle.rules.proofs.Values.{field-one}
use Rattle.feed.specs.declared.Record.{Record}
use Rattle.feed.specs.declared.Record.TheVariants.{Open, Close, Message, Oversize, Cut, Unknown}
use Rattle.feed.specs.Feed.{whole, size_in, message_in, tick_in, record_in, next_of}

-- ## As the code reads it

-- where the code reads the MessageSize
pub size-at : (l : List ℕ) → field 4 2 l ≡ size_in l
size-at l = ap (λ x. value (take 2 x)) (sym (drop-drop 2 2 l))

-- its first test, and what is behind it
pub cut_at : (l : List ℕ) → length l < mark_end → record_in l ≡ Cut
unfolding record_in
cut_at l h = rw (lt-ltb (length l) mark_end h)

pub record_at : (l : List ℕ) → mark_end ≤ length l
    → record_in l
    ≡ cond (eqb (get_or l 0 0) open_mark) (Open (get_or l 1 0))
    (cond (eqb (get_or l 0 0) close_mark) (Close (get_or l 1 0))
    (cond (eqb (get_or l 0 0) message_mark) (message_in l)
    (cond (eqb (get_or l 0 0) tick_mark) (tick_in l) Unknown)))
unfolding record_in
record_at l h = rw (le-ltb (length l) mark_end h, field-one 0 l (omega arith), field-one 1 l (omega arith))

pub message-at : (l : List ℕ) (size : ℕ) → header_end ≤ length l → size ≡ field 4 2 l
    → message_in l ≡ cond (ltb largest_size size) (Oversize (get_or l 1 0)) (whole (message_end size) l (Message (get_or l 1 0) size))
message-at l size h e = rw (e ∙ size-at l, le-ltb (length l) header_end h, field-one 1 l (omega arith))

-- ## As the definition has it

-- the call of a choice is the choice of the calls
chosen : (b : Bool) (x y : Record) (l : List ℕ) → next_of (cond b x y) l ≡ cond b (next_of x l) (next_of y l)
chosen true x y l = refl
chosen false x y l = refl

pub next-record : (l : List ℕ) → next l ≡ next_of (record_in l) l
unfolding next next_message next_tick record_in next_of
next-record l = simp chosen

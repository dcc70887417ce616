-- Laws of rows and kept bytes, for the functions that fill and write them: a structure more, a row more.
-- Rests on rules' laws of structures (`streams-step`) and of what is written (`written_next`).
use mathlib.Core.Bool.{Bool, true, false, cond, or-true}
use mathlib.Core.List.{List, [], ◌∷◌, ◌++◌, append_assoc, append-nil}
use mathlib.Core.Path.{◌≡◌, refl, sym, ap, ap₂, ◌∙◌}
use Prim.Native.Nat.{ℕ, zero, suc, ◌+◌, ◌-◌, ◌*◌, ◌≤◌, ◌<◌}
use native.Mathlib.Omega.{arith}
use native.Mathlib.Nat.{add_assoc, add-zero, zero-add}
use borrow.Author.Tests.{lt-ltb, le-ltb, ltb-false, leb-false}
use borrow.Rule.Slice.PartMut.{put_mid, mid_of}
use lib.Dec.{leb, ltb}
use lib.ListN.{length, get_or, take, drop, replicate, length-append, length-drop}
use lib.Seq.{drop-drop, get_or-drop, append_snoc, length-take-le}
use Rattle.rules.specs.Bytes.{bytes, written}
use Rattle.rules.specs.Streams.{Stream, stream_length, stream_at, bad_stream, highest_pid, unknown_size, listed, unlisted, streams_in}
use Rattle.rules.specs.Streams.{pcr_pid, pid_count, most_streams, separate_in, stream_bytes, streams_bytes, separate_bytes}
use Rattle.rules.proofs.Tests.{or-none}
use Rattle.rules.proofs.Written.{written_next, written_none}
use Rattle.rules.proofs.Streams.{Stepped, streams-step, streams-none, length-kept, streams-count, separate-step}
use Rattle.rules.proofs.Bytes.{length-bytes}
use Rattle.std.specs.Prelude.{Option, Some, None}
use Rattle.reading.specs.Structures.{from}
use Rattle.reading.proofs.Laws.{behind}
use Rattle.reading.proofs.Steps.{On, on-good, Found}
use Rattle.streams.specs.Rows.{row_of, rows_of, kept_of, row_stream, list_in, bad_row, bad_rows, rows_size, judged, words_of, taken}
use Rattle.streams.specs.Rows.{words_for}
use Rattle.streams.specs.Rows.{words_after, kept_after, bad_list, bytes_of, put_size, out_after, ReadsList, WritesList, Filled, Puttable}
use Rattle.streams.specs.Rows.{Writing}

-- ## Structures into rows

abbrev one : Stream → List Stream
one s = s ∷ []

pub rows_append : (l m : List Stream) → rows_of (l ++ m) ≡ rows_of l ++ rows_of m
unfolding rows_of
rows_append [] m = refl
rows_append (s ∷ l) m = ap (λ x. row_of s ++ x) (rows_append l m) ∙ sym (append_assoc (row_of s) (rows_of l) (rows_of m))

pub kept_append : (l m : List Stream) → kept_of (l ++ m) ≡ kept_of l ++ kept_of m
unfolding kept_of
kept_append [] m = refl
kept_append (s ∷ l) m = ap (λ x. s.kept ++ x) (kept_append l m) ∙ sym (append_assoc s.kept (kept_of l) (kept_of m))

rows-one : (l : List Stream) (s : Stream) → rows_of l ++ row_of s ≡ rows_of (l ++ one s)
unfolding rows_of
rows-one l s = sym (rows_append l (one s))

kept-one : (l : List Stream) (s : Stream) → kept_of l ++ s.kept ≡ kept_of (l ++ one s)
unfolding kept_of
kept-one l s = sym (kept_append l (one s) ∙ ap (λ x. kept_of l ++ x) (append-nil s.kept))

length-rows : (l : List Stream) → length (rows_of l) ≡ 8 * length l
unfolding rows_of
length-rows [] = refl
length-rows (s ∷ l) = omega (arith, length-rows l)

-- i of n structures stand in rows and kept bytes, the next at the place `at` of p
pub record Filling (n i at to : ℕ) (p words kept words' kept' : List ℕ) : Type 0 where
  pub done : List Stream
  pub more : List Stream
  pub rest : List ℕ
  pub left : ℕ
  pub count : i + left ≡ n
  pub filled : length done ≡ i
  pub all : streams_in n p ≡ listed (done ++ more) rest
  pub next : streams_in left (drop at p) ≡ listed more rest
  pub rows : words' ≡ written words 2 (rows_of done)
  pub bytes : kept' ≡ written kept 0 (kept_of done)
  pub to_is : to ≡ length (kept_of done)
  pub small : to ≤ 234 * i

pub fill_begins : (n : ℕ) (p words kept : List ℕ) (l : List Stream) (r : List ℕ) → streams_in n p ≡ listed l r
    → Filling n 0 0 0 p words kept words kept
unfolding rows_of kept_of
fill_begins n p words kept l r e =
    record {
      done = [];
      more = l;
      rest = r;
      left = n;
      count = omega arith;
      filled = refl;
      all = e;
      next = e;
      rows =
          sym (written_none words 2);
      bytes = sym (written_none kept 0);
      to_is = refl;
      small = omega arith;
    }

module _ {n i at to : ℕ} {p words kept w k : List ℕ} (f : Filling n i at to p words kept w k) where
  -- all are in place
  pub fill-ends : n ≤ i → Filled n p words kept w k
  fill-ends h =
      let z : f.left ≡ 0 = omega (arith, f.count) in
      let none = (streams-none (drop at p) f.more f.rest (ap (λ x. streams_in x (drop at p)) (sym z) ∙ f.next)).0 in
      let whole : f.done ++ f.more ≡ f.done = rw none (append-nil f.done) in
      record {
        rows = λ l r e. f.rows ∙ ap (λ x. written words 2 (rows_of x)) (sym (same l r e ∙ whole));
        bytes = λ l r e. f.bytes ∙ ap (λ x. written kept 0 (kept_of x)) (sym (same l r e ∙ whole));
      }
    where
      same : (l : List Stream) (r : List ℕ) → streams_in n p ≡ listed l r → l ≡ f.done ++ f.more
      same l r e = let g : listed l r ≡ listed (f.done ++ f.more) f.rest = sym e ∙ f.all in cc

  module _ (h : i < n) where
    stepped : Stepped (f.left - 1) (drop at p) f.more f.rest
    stepped =
        let e : f.left ≡ suc (f.left - 1) = omega (arith, f.count) in
        streams-step (f.left - 1) (drop at p) f.more f.rest (ap (λ x. streams_in x (drop at p)) (sym e) ∙ f.next)

    -- the next structure is good
    pub fill-good : On p at
    fill-good = on-good p at stepped.good

    pub fill-bad : bad_stream (mid_of at (length p - at) p) ≡ false
    fill-bad = ap bad_stream (behind at p) ∙ stepped.good

    -- one more
    pub fill_more : n ≤ most_streams → get_or p at 0 < 256 → 130 ≤ length words → 3744 ≤ length kept → (ys zs : List ℕ)
        → ys ≡ written (mid_of (2 + i * 8) (length w - (2 + i * 8)) w) 0 (row_of (stream_at (mid_of at (length p - at) p)))
        → zs ≡ written (mid_of to (length k - to) k) 0 (mid_of (at + 21) (at + get_or p at 0 - (at + 21)) p)
        → Filling n (i + 1) (at + get_or p at 0) (to + (at + get_or p at 0 - (at + 21))) p words kept
        (put_mid (2 + i * 8) (length w - (2 + i * 8)) w ys) (put_mid to (length k - to) k zs)
    fill_more few low wide long ys zs y z =
        let q = drop at p in
        let t = stream_at q in
        let size : stream_length q ≡ get_or p at 0 = get_or-drop at p 0 0 ∙ ap (λ j. get_or p j 0) (add-zero at) in
        let on = fill-good in
        let has : length t.kept ≡ stream_length q - 21 = length-kept q stepped.good in
        let n_kept : at + get_or p at 0 - (at + 21) ≡ stream_length q - 21 = omega (arith, size, on.grows) in
        let keeps : mid_of (at + 21) (at + get_or p at 0 - (at + 21)) p ≡ t.kept = ap₂ take n_kept (sym (drop-drop 21 at p)) in
        let rows = length-rows f.done in
        record {
          done = f.done ++ one t;
          more = stepped.more;
          rest = f.rest;
          left = f.left - 1;
          count = omega (arith, f.count);
          filled = length-append f.done (one t) ∙ omega (arith, f.filled);
          all = f.all ∙ ap (λ x. listed x f.rest)
              (ap (λ x. f.done ++ x) stepped.is ∙ sym (append_snoc f.done t stepped.more));
          next = ap (streams_in (f.left - 1)) (ap (λ j. drop (at + j) p) (sym size) ∙ sym (drop-drop (stream_length q) at p))
              ∙ stepped.rest;
          rows =
              written_next words 2 (rows_of f.done) (row_of t) w ys (2 + i * 8) f.rows (omega (arith, rows, f.filled))
              (omega (arith, few))
              (y ∙ ap (λ x. written (mid_of (2 + i * 8) (length w - (2 + i * 8)) w) 0 (row_of (stream_at x))) (behind at p))
              ∙ ap (written words 2) (rows-one f.done t);
          bytes =
              written_next kept 0 (kept_of f.done) t.kept k zs to f.bytes (omega (arith, f.to_is))
              (omega (arith, has, size, f.small, few))
              (z ∙ ap (written (mid_of to (length k - to) k) 0) keeps)
              ∙ ap (written kept 0) (kept-one f.done t);
          to_is = ap₂ ◌+◌ f.to_is (n_kept ∙ sym has) ∙ sym (length-append (kept_of f.done) t.kept)
              ∙ ap length (kept-one f.done t);
          small = omega (arith, f.small, on.grows);
        }

-- ## Rows into structures

pub record GoodRow (w : List ℕ) : Type 0 where
  pub pid : get_or w 0 0 ≤ highest_pid
  pub kind : get_or w 1 0 < unknown_size
  pub width : get_or w 5 0 < 65536
  pub height : get_or w 6 0 < 65536
  pub kept : get_or w 7 0 ≤ 234

pub good-row : (w : List ℕ) → bad_row w ≡ false → GoodRow w
good-row w e =
    let a = or-none (ltb highest_pid (get_or w 0 0)) _ e in
    let b = or-none (leb unknown_size (get_or w 1 0)) _ a.1 in
    let c = or-none (leb 4294967296 (get_or w 2 0)) _ b.1 in
    let d = or-none (leb 4294967296 (get_or w 3 0)) _ c.1 in
    let g = or-none (leb 4294967296 (get_or w 4 0)) _ d.1 in
    let h = or-none (leb 65536 (get_or w 5 0)) _ g.1 in
    let j = or-none (leb 65536 (get_or w 6 0)) _ h.1 in
    record {
      pid = ltb-false highest_pid (get_or w 0 0) a.0;
      kind = leb-false unknown_size (get_or w 1 0) b.0;
      width = leb-false 65536 (get_or w 5 0) h.0;
      height = leb-false 65536 (get_or w 6 0) j.0;
      kept = ltb-false 234 (get_or w 7 0) j.1;
    }

from-none : (x : Option ℕ) → from 0 x ≡ x
unfolding from
from-none (Some n) = ap Some (zero-add n)
from-none None = refl

from-from : (a b : ℕ) (x : Option ℕ) → from a (from b x) ≡ from (a + b) x
unfolding from
from-from a b (Some n) = ap Some (sym (add_assoc a b n))
from-from a b None = refl

-- i of n rows are good and take `size` bytes
pub record Sizing (n i size : ℕ) (words : List ℕ) : Type 0 where
  pub left : ℕ
  pub count : i + left ≡ n
  pub small : size ≤ 255 * i
  pub is : judged n (drop 2 words) ≡ from size (judged left (drop (2 + i * 8) words))

pub sizing-begins : (n : ℕ) (words : List ℕ) → Sizing n 0 0 words
sizing-begins n words = record { left = n; count = omega arith; small = omega arith; is = sym (from-none (judged n (drop 2 words))) }

judged-good : (m a : ℕ) (words : List ℕ) → bad_row (drop a words) ≡ false
    → judged (suc m) (drop a words) ≡ from (21 + get_or words (a + 7) 0) (judged m (drop (a + 8) words))
unfolding judged bad_rows rows_size from
judged-good m a words e = rw (e, get_or-drop a words 7 0, drop-drop 8 a words) (go (bad_rows m (drop (a + 8) words)))
  where
    go : (b : Bool) → cond b None (Some (21 + get_or words (a + 7) 0 + rows_size m (drop (a + 8) words)))
        ≡ from (21 + get_or words (a + 7) 0) (cond b None (Some (rows_size m (drop (a + 8) words))))
    go true = refl
    go false = refl

judged-bad : (m a : ℕ) (words : List ℕ) → bad_row (drop a words) ≡ true → judged (suc m) (drop a words) ≡ None
unfolding judged bad_rows
judged-bad m a words e = rw e

module _ {n i size : ℕ} {words : List ℕ} (f : Sizing n i size words) where
  pub sizing-ends : n ≤ i → Some size ≡ judged n (drop 2 words)
  unfolding judged bad_rows rows_size from
  sizing-ends h =
      let z : f.left ≡ 0 = omega (arith, f.count) in
      sym (f.is ∙ ap (λ m. from size (judged m (drop (2 + i * 8) words))) z ∙ ap Some (add-zero size))

  module _ (h : i < n) where
    abbrev m : ℕ
    m = f.left - 1

    back : f.left ≡ suc m
    back = omega (arith, f.count)

    pub sizing-bad : bad_row (mid_of (2 + i * 8) (length words - (2 + i * 8)) words) ≡ true → None ≡ judged n (drop 2 words)
    unfolding from
    sizing-bad e =
        sym (f.is ∙ ap (λ j. from size (judged j (drop (2 + i * 8) words))) back
        ∙ ap (from size) (judged-bad m (2 + i * 8) words (ap bad_row (sym (behind (2 + i * 8) words)) ∙ e)))

    pub sizing-more : bad_row (mid_of (2 + i * 8) (length words - (2 + i * 8)) words) ≡ false
        → Sizing n (i + 1) (size + (21 + get_or words (2 + i * 8 + 7) 0)) words
    sizing-more e =
        let b = ap bad_row (sym (behind (2 + i * 8) words)) ∙ e in
        let g = good-row (drop (2 + i * 8) words) b in
        let k = get_or-drop (2 + i * 8) words 7 0 in
        let place : 2 + i * 8 + 8 ≡ 2 + (i + 1) * 8 = omega arith in
        record {
          left = m;
          count = omega (arith, f.count);
          small = omega (arith, f.small, g.kept, k);
          is =
              f.is ∙ ap (λ j. from size (judged j (drop (2 + i * 8) words))) back
              ∙ ap (from size) (judged-good m (2 + i * 8) words b)
              ∙ from-from size (21 + get_or words (2 + i * 8 + 7) 0) (judged m (drop (2 + i * 8 + 8) words))
              ∙ ap (λ j. from (size + (21 + get_or words (2 + i * 8 + 7) 0)) (judged m (drop j words))) place;
        }

-- ## Writing them

streams-append : (l m : List Stream) → streams_bytes (l ++ m) ≡ streams_bytes l ++ streams_bytes m
unfolding streams_bytes
streams-append [] m = refl
streams-append (s ∷ l) m = ap (λ x. stream_bytes s ++ x) (streams-append l m)
    ∙ sym (append_assoc (stream_bytes s) (streams_bytes l) (streams_bytes m))

streams-one : (l : List Stream) (s : Stream) → streams_bytes l ++ stream_bytes s ≡ streams_bytes (l ++ one s)
unfolding streams_bytes
streams-one l s = sym (streams-append l (one s) ∙ ap (λ x. streams_bytes l ++ x) (append-nil (stream_bytes s)))

-- a structure in its parts, as they are written
pub row-parts : (n pid kind avg max min x y : ℕ) (k : List ℕ) →
    (bytes 1 n ++ bytes 2 pid ++ bytes 2 kind) ++ (bytes 4 avg ++ bytes 4 max ++ bytes 4 min) ++ (bytes 2 x ++ bytes 2 y) ++ k
    ≡ bytes 1 n ++ bytes 2 pid ++ bytes 2 kind ++ bytes 4 avg ++ bytes 4 max ++ bytes 4 min ++ bytes 2 x ++ bytes 2 y ++ k
unfolding bytes
row-parts n pid kind avg max min x y k = refl

-- as `put_row` writes them, from a row w and kept bytes k
pub row_is : (w k : List ℕ) → get_or w 7 0 ≤ length k →
    (bytes 1 (21 + get_or w 7 0) ++ bytes 2 (get_or w 0 0) ++ bytes 2 (get_or w 1 0))
    ++ (bytes 4 (get_or w 2 0) ++ bytes 4 (get_or w 3 0) ++ bytes 4 (get_or w 4 0))
    ++ (bytes 2 (get_or w 5 0) ++ bytes 2 (get_or w 6 0)) ++ mid_of 0 (get_or w 7 0 - 0) k
    ≡ stream_bytes (row_stream w k)
unfolding stream_bytes
row_is w k h =
    let none : get_or w 7 0 - 0 ≡ get_or w 7 0 = omega arith in
    let kept : mid_of 0 (get_or w 7 0 - 0) k ≡ take (get_or w 7 0) k = ap (λ j. take j k) none in
    let long : get_or w 7 0 ≡ length (take (get_or w 7 0) k) = sym (length-take-le (get_or w 7 0) k h) in
    row-parts (21 + get_or w 7 0) (get_or w 0 0) (get_or w 1 0) (get_or w 2 0) (get_or w 3 0) (get_or w 4 0) (get_or w 5 0) (get_or w 6 0)
    (mid_of 0 (get_or w 7 0 - 0) k)
    ∙ ap₂ (λ n z. bytes 1 (21 + n) ++ bytes 2 (get_or w 0 0) ++ bytes 2 (get_or w 1 0) ++ bytes 4 (get_or w 2 0) ++ bytes 4 (get_or w 3 0)
    ++ bytes 4 (get_or w 4 0) ++ bytes 2 (get_or w 5 0) ++ bytes 2 (get_or w 6 0) ++ z) long kept

pub length-structure : (s : Stream) → length (stream_bytes s) ≡ 21 + length s.kept
unfolding stream_bytes bytes
length-structure s = omega arith

-- i of n rows are written, up to the place `to`; the next keeps the bytes from the place `at` on
pub record Putting (n i at to : ℕ) (words kept out out' : List ℕ) : Type 0 where
  pub done : List Stream
  pub left : ℕ
  pub count : i + left ≡ n
  pub all : list_in n (drop 2 words) kept ≡ done ++ list_in left (drop (2 + i * 8) words) (drop at kept)
  pub good : bad_rows left (drop (2 + i * 8) words) ≡ false
  pub room : to + rows_size left (drop (2 + i * 8) words) ≤ length out
  pub is : out' ≡ written out 6 (streams_bytes done)
  pub to_is : to ≡ 6 + length (streams_bytes done)
  pub small : at ≤ 234 * i

pub put-begins : (n : ℕ) (words kept out : List ℕ) → Writing n words kept out → Putting n 0 0 6 words kept out out
unfolding streams_bytes
put-begins n words kept out w =
    record {
      done = [];
      left = n;
      count = omega arith;
      all = refl;
      good = w.good;
      room = w.room;
      is = sym (written_none out 6);
      to_is =
          refl;
      small = omega arith;
    }

module _ {n i at to : ℕ} {words kept out o : List ℕ} (f : Putting n i at to words kept out o) where
  pub put-ends : n ≤ i → o ≡ written out 6 (streams_bytes (list_in n (drop 2 words) kept))
  unfolding list_in
  put-ends h =
      let z : f.left ≡ 0 = omega (arith, f.count) in
      f.is ∙ ap (λ x. written out 6 (streams_bytes x))
      (sym (f.all ∙ ap (λ j. f.done ++ list_in j (drop (2 + i * 8) words) (drop at kept)) z ∙ append-nil f.done))

  module _ (h : i < n) (few : n ≤ most_streams) (wide : 130 ≤ length words) (long : 3744 ≤ length kept) where
    abbrev fewer : ℕ
    fewer = f.left - 1

    abbrev row : List ℕ
    row = drop (2 + i * 8) words

    abbrev size : ℕ
    size = get_or words (2 + i * 8 + 7) 0

    again : f.left ≡ suc fewer
    again = omega (arith, f.count)

    size_is : get_or row 7 0 ≡ size
    size_is = get_or-drop (2 + i * 8) words 7 0

    tests : (bad_row row ≡ false) × (bad_rows fewer (drop 8 row) ≡ false)
    unfolding bad_rows
    tests = or-none (bad_row row) (bad_rows fewer (drop 8 row)) (ap (λ j. bad_rows j row) (sym again) ∙ f.good)

    room-is : rows_size f.left row ≡ (21 + size) + rows_size fewer (drop 8 row)
    unfolding rows_size
    room-is = ap (λ j. rows_size j row) again ∙ ap (λ j. (21 + j) + rows_size fewer (drop 8 row)) size_is

    pub put_small : size ≤ 234
    put_small = omega (arith, size_is, (good-row row tests.0).kept)

    pub put-kept : at + size ≤ length kept
    put-kept = omega (arith, put_small, f.small)

    pub put-room : to + (21 + size) ≤ length out
    put-room = omega (arith, f.room, room-is)

    -- what `put_row` asks
    pub put-able : length o ≡ length out → Puttable (mid_of (2 + i * 8) (length words - (2 + i * 8)) words)
        (mid_of at (length kept - at) kept) (mid_of to (length o - to) o)
    put-able same =
        rw (behind (2 + i * 8) words, behind at kept, behind to o)
        (record {
          row = simp length-drop (omega arith);
          good = tests.0;
          kept = simp length-drop (omega (arith, put-kept, size_is));
          room = simp length-drop (omega (arith, put-room, size_is, same));
        })

    pub put-more : (ys : List ℕ)
        → ys ≡ written (mid_of to (length o - to) o) 0 (stream_bytes (row_stream (mid_of (2 + i * 8) (length words - (2 + i * 8)) words)
        (mid_of at (length kept - at) kept)))
        → Putting n (i + 1) (at + size) (to + (21 + size)) words kept out (put_mid to (length o - to) o ys)
    unfolding list_in
    put-more ys y =
        let s = row_stream row (drop at kept) in
        let has : length s.kept ≡ size = ap (λ j. length (take j (drop at kept))) size_is
        ∙ length-take-le size (drop at kept) (simp length-drop (omega (arith, put-kept))) in
        let bytes_of_lem = length-structure s in
        let place : 2 + i * 8 + 8 ≡ 2 + (i + 1) * 8 = omega arith in
        let after : drop 8 row ≡ drop (2 + (i + 1) * 8) words = drop-drop 8 (2 + i * 8) words ∙ ap (λ j. drop j words) place in
        let beyond : drop (get_or row 7 0) (drop at kept) ≡ drop (at + size) kept =
        ap (λ j. drop j (drop at kept)) size_is ∙ drop-drop size at kept in
        record {
          done = f.done ++ one s;
          left = fewer;
          count = omega (arith, f.count);
          all =
              f.all ∙ ap (λ j. f.done ++ list_in j row (drop at kept)) again
              ∙ ap₂ (λ x z. f.done ++ (s ∷ list_in fewer x z)) after beyond
              ∙ sym (append_snoc f.done s (list_in fewer (drop (2 + (i + 1) * 8) words) (drop (at + size) kept)));
          good = ap (bad_rows fewer) (sym after) ∙ tests.1;
          room = rw (← after) (omega (arith, f.room, room-is));
          is =
              written_next out 6 (streams_bytes f.done) (stream_bytes s) o ys to f.is f.to_is
              (omega (arith, put-room, bytes_of_lem, has))
              (y ∙ ap₂ (λ x z. written (mid_of to (length o - to) o) 0 (stream_bytes (row_stream x z))) (behind (2 + i * 8) words)
              (behind at kept))
              ∙ ap (written out 6) (streams-one f.done s);
          to_is = omega (
            arith,
            f.to_is,
            bytes_of_lem,
            has,
            ap length (streams-one f.done s),
            length-append (streams_bytes f.done) (stream_bytes s),
          );
          small = omega (arith, f.small, put_small);
        }

-- ## Reading

pub read_none : (p words kept : List ℕ) → separate_in p ≡ unlisted → ReadsList p words kept 0 words kept
unfolding taken words_after kept_after
read_none p words kept e =
    record { size = sym (ap taken e); list = sym (ap (λ x. words_for (pcr_pid p) x words) e); bytes = sym (ap (λ x. kept_after x kept) e) }

pub read_done : (p words kept : List ℕ) {n m q : ℕ} {x words' kept' : List ℕ} → Found p n → m ≡ pid_count p → q ≡ pcr_pid p → x ≡ drop 6 p
    → Filled m x (m ∷ q ∷ replicate 128 0) kept words' kept' → ReadsList p words kept n words' kept'
unfolding taken words_after kept_after words_of
read_done p words kept {x = x} {words'} {kept'} f em eq ex fill =
    let l = f.items in
    let r = f.rest in
    let k = separate-step p l r f.is in
    let g : Filled (pid_count p) (drop 6 p) (pid_count p ∷ pcr_pid p ∷ replicate 128 0) kept words' kept' = rw (em, eq, ex) at fill in
    let count = streams-count (pid_count p) (drop 6 p) l r k.streams in
    record {
      size = f.end ∙ sym (ap taken f.is);
      list =
          g.rows l r k.streams ∙ ap (λ j. written (j ∷ pcr_pid p ∷ replicate 128 0) 2 (rows_of l)) (sym count)
          ∙ sym (ap (λ y. words_for (pcr_pid p) y words) f.is);
      bytes = g.bytes l r k.streams ∙ sym (ap (λ y. kept_after y kept) f.is);
    }

-- ## Writing

rows-small : (n : ℕ) (w : List ℕ) → bad_rows n w ≡ false → rows_size n w ≤ 255 * n
unfolding bad_rows rows_size
rows-small zero w e = omega arith
rows-small (suc n) w e =
    let t = or-none (bad_row w) (bad_rows n (drop 8 w)) e in
    omega (arith, (good-row w t.0).kept, rows-small n (drop 8 w) t.1)

pub judged-end : (n : ℕ) (w : List ℕ) {size : ℕ} → judged n w ≡ Some size
    → (bad_rows n w ≡ false) × (size ≡ rows_size n w) × (size ≤ 255 * n)
unfolding judged
judged-end n w {size} = go (bad_rows n w) refl
  where
    go : (b : Bool) → bad_rows n w ≡ b → cond b None (Some (rows_size n w)) ≡ Some size
        → (bad_rows n w ≡ false) × (size ≡ rows_size n w) × (size ≤ 255 * n)
    go true e f = let z : ◌≡◌ {A = ℕ} 0 1 = cc in absurd (omega arith)
    go false e f = let k : size ≡ rows_size n w = cc in (e, k, omega (arith, rows-small n w e))

pub judged-none : (n : ℕ) (w : List ℕ) → judged n w ≡ None → bad_rows n w ≡ true
unfolding judged
judged-none n w = go (bad_rows n w) refl
  where
    go : (b : Bool) → bad_rows n w ≡ b → cond b None (Some (rows_size n w)) ≡ None → bad_rows n w ≡ true
    go true e f = e
    go false e f = let z : ◌≡◌ {A = ℕ} 0 1 = cc in absurd (omega arith)

list_count : (n : ℕ) (w k : List ℕ) → length (list_in n w k) ≡ n
unfolding list_in
list_count zero w k = refl
list_count (suc n) w k = ap suc (list_count n (drop 8 w) (drop (get_or w 7 0) k))

list-size : (n : ℕ) (w k : List ℕ) → bad_rows n w ≡ false → 234 * n ≤ length k → length (streams_bytes (list_in n w k)) ≡ rows_size n w
unfolding list_in streams_bytes bad_rows rows_size
list-size zero w k e h = refl
list-size (suc n) w k e h =
    let t = or-none (bad_row w) (bad_rows n (drop 8 w)) e in
    let g = good-row w t.0 in
    let a = length-structure (row_stream w k) in
    let b = length-take-le (get_or w 7 0) k (omega (arith, g.kept)) in
    let i = list-size n (drop 8 w) (drop (get_or w 7 0) k) t.1 (simp length-drop (omega (arith, g.kept))) in
    length-append (stream_bytes (row_stream w k)) (streams_bytes (list_in n (drop 8 w) (drop (get_or w 7 0) k))) ∙ omega arith

pub bytes-are : (words kept : List ℕ) → bytes 2 (get_or words 1 0) ++ bytes 4 (get_or words 0 0)
    ++ streams_bytes (list_in (get_or words 0 0) (drop 2 words) kept) ≡ bytes_of words kept
unfolding bytes_of separate_bytes
bytes-are words kept =
    ap (λ j. bytes 2 (get_or words 1 0) ++ bytes 4 j ++ streams_bytes (list_in (get_or words 0 0) (drop 2 words) kept))
    (sym (list_count (get_or words 0 0) (drop 2 words) kept))

pub write-none : (words kept out : List ℕ) → bad_list words ≡ true → WritesList words kept out 0 out
unfolding put_size out_after
write-none words kept out e = record { size = rw e; bytes = rw e }

module _ (words kept out : List ℕ) {size : ℕ} (few : get_or words 0 0 ≤ most_streams) (long : 3744 ≤ length kept)
    (j : judged (get_or words 0 0) (drop 2 words) ≡ Some size) where
  size-of-bytes : length (bytes_of words kept) ≡ 6 + size
  size-of-bytes =
      let z = judged-end (get_or words 0 0) (drop 2 words) j in
      let l = list-size (get_or words 0 0) (drop 2 words) kept z.0 (omega arith) in
      ap length (sym (bytes-are words kept)) ∙ simp (length-append, length-bytes) (omega (arith, l, z.1))

  pub write-short : length out < 6 + size → WritesList words kept out 0 out
  unfolding put_size out_after
  write-short h = let e = lt-ltb (length out) (length (bytes_of words kept)) (omega (arith, size-of-bytes)) in
      record { size = rw e (simp or-true); bytes = rw e (simp or-true) }

  pub write_done : get_or words 1 0 ≤ highest_pid → 6 + size ≤ length out → {out' : List ℕ} → out' ≡ written out 0 (bytes_of words kept)
      → WritesList words kept out (6 + size) out'
  unfolding put_size out_after
  write_done low h w =
      let z = judged-end (get_or words 0 0) (drop 2 words) j in
      let a = le-ltb most_streams (get_or words 0 0) few in
      let b = le-ltb highest_pid (get_or words 1 0) low in
      let e = le-ltb (length out) (length (bytes_of words kept)) (omega (arith, size-of-bytes)) in
      record { size = rw (a, b, z.0, e) (sym size-of-bytes); bytes = rw (a, b, z.0, e) w }

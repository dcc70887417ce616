-- The two promises: each determines its results, and each undoes the other, numbers included: what can be read is not refused by the
-- writer, nor the other way round. Rests on rules' `separate-read-back`, `separate-write-back` and `streams-writable`.
use mathlib.Core.Bool.{false}
use mathlib.Core.List.{List, [], ◌∷◌, ◌++◌, append_assoc}
use mathlib.Core.Path.{◌≡◌, refl, sym, ap, ap₂, ◌∙◌}
use Prim.Native.Nat.{ℕ, zero, suc, ◌+◌, ◌*◌, ◌≤◌, ◌<◌}
use native.Mathlib.Omega.{arith}
use borrow.Author.Tests.{le-ltb, lt-leb, ltb-false, leb-false}
use lib.Dec.{leb, ltb}
use native.Mathlib.Nat.{zero-add}
use lib.ListN.{length, get_or, take, drop, replicate, length-append, length-take, length-drop}
use lib.Seq.{take-add, take_at, drop_at, length-take-le}
use Rattle.rules.specs.Lists.{All}
use Rattle.rules.specs.Follows.Wires.{Byte}
use Rattle.rules.specs.Bytes.{written}
use Rattle.rules.specs.Streams.{Stream, highest_pid, unknown_size, listed, pcr_pid, most_streams, pid_count, Listed, unlisted, separate_in}
use Rattle.rules.specs.Follows.ReadBack.{Writable}
use Rattle.rules.specs.Streams.{stream_bytes, streams_bytes, separate_bytes}
use Rattle.rules.proofs.Tests.{or-none}
use Rattle.rules.proofs.All.{all_drop}
use Rattle.rules.proofs.Bytes.{length-bytes}
use Rattle.rules.proofs.Streams.{streams-count, streams-writable, separate-step, separate-read-back, separate-write-back, pcr-read-back}
use Rattle.reading.specs.Structures.{sizes_of}
use Rattle.streams.proofs.Laws.{good-row, length-structure}
use Rattle.streams.specs.Rows.{row_of, rows_of, kept_of, words_of, taken, words_for, words_after, kept_after, row_stream, list_in, bad_row}
use Rattle.streams.specs.Rows.{bad_rows, bad_list, bytes_of, put_size, out_after, ReadsList, WritesList}

-- ## Determined

-- any two results that the promise allows are equal, what is lent included
pub read_same : (p words kept : List ℕ) {r s : ℕ} {w x k l : List ℕ} → ReadsList p words kept r w k → ReadsList p words kept s x l
    → (r ≡ s) × (w ≡ x) × (k ≡ l)
read_same p words kept a b = (a.size ∙ sym b.size, a.list ∙ sym b.list, a.bytes ∙ sym b.bytes)

pub write_same : (words kept out : List ℕ) {r s : ℕ} {o p : List ℕ} → WritesList words kept out r o → WritesList words kept out s p
    → (r ≡ s) × (o ≡ p)
write_same words kept out a b = (a.size ∙ sym b.size, a.bytes ∙ sym b.bytes)

-- ## What is written is read

row-writable : (w k : List ℕ) → bad_row w ≡ false → Writable (row_stream w k)
row-writable w k e =
    let a = or-none (ltb highest_pid (get_or w 0 0)) _ e in
    let b = or-none (leb unknown_size (get_or w 1 0)) _ a.1 in
    let c = or-none (leb 4294967296 (get_or w 2 0)) _ b.1 in
    let d = or-none (leb 4294967296 (get_or w 3 0)) _ c.1 in
    let f = or-none (leb 4294967296 (get_or w 4 0)) _ d.1 in
    let g = or-none (leb 65536 (get_or w 5 0)) _ f.1 in
    let h = or-none (leb 65536 (get_or w 6 0)) _ g.1 in
    let n = ltb-false 234 (get_or w 7 0) h.1 in
    record {
      pid = ltb-false highest_pid (get_or w 0 0) a.0;
      stream_type = leb-false unknown_size (get_or w 1 0) b.0;
      avg_bitrate = leb-false 4294967296 (get_or w 2 0) c.0;
      max_bitrate = leb-false 4294967296 (get_or w 3 0) d.0;
      min_bitrate = leb-false 4294967296 (get_or w 4 0) f.0;
      h_resolution = leb-false 65536 (get_or w 5 0) g.0;
      v_resolution = leb-false 65536 (get_or w 6 0) h.0;
      kept = omega (arith, length-take (get_or w 7 0) k);
    }

list-writable : (n : ℕ) (w k : List ℕ) → bad_rows n w ≡ false → All Writable (list_in n w k)
unfolding list_in bad_rows
list-writable zero w k e = tt
list-writable (suc n) w k e =
    let t = or-none (bad_row w) (bad_rows n (drop 8 w)) e in
    (row-writable w k t.0, list-writable n (drop 8 w) (drop (get_or w 7 0) k) t.1)

list_count : (n : ℕ) (w k : List ℕ) → length (list_in n w k) ≡ n
unfolding list_in
list_count zero w k = refl
list_count (suc n) w k = ap suc (list_count n (drop 8 w) (drop (get_or w 7 0) k))

-- of a list that is good: what its bytes are read as, whatever stands behind them
pub shown-is-read : (words kept rest : List ℕ) → bad_list words ≡ false
    → separate_in (bytes_of words kept ++ rest) ≡ listed (list_in (get_or words 0 0) (drop 2 words) kept) rest
unfolding bytes_of
shown-is-read words kept rest e =
    let a = or-none (ltb most_streams (get_or words 0 0)) _ e in
    let b = or-none (ltb highest_pid (get_or words 1 0)) _ a.1 in
    let n = ltb-false most_streams (get_or words 0 0) a.0 in
    let l = list_in (get_or words 0 0) (drop 2 words) kept in
    separate-read-back (get_or words 1 0) l rest (ltb-false highest_pid (get_or words 1 0) b.0)
    (omega (arith, list_count (get_or words 0 0) (drop 2 words) kept)) (list-writable (get_or words 0 0) (drop 2 words) kept b.1)

-- and its PcrPID
pub shown-pcr : (words kept rest : List ℕ) → bad_list words ≡ false → pcr_pid (bytes_of words kept ++ rest) ≡ get_or words 1 0
unfolding bytes_of
shown-pcr words kept rest e =
    let a = or-none (ltb most_streams (get_or words 0 0)) _ e in
    let b = or-none (ltb highest_pid (get_or words 1 0)) _ a.1 in
    pcr-read-back (get_or words 1 0) (list_in (get_or words 0 0) (drop 2 words) kept) rest (ltb-false highest_pid (get_or words 1 0) b.0)

-- the first eight words, one by one
eight : (w : List ℕ) → 8 ≤ length w →
    get_or w 0 0 ∷ get_or w 1 0 ∷ get_or w 2 0 ∷ get_or w 3 0 ∷ get_or w 4 0 ∷ get_or w 5 0 ∷ get_or w 6 0 ∷ get_or w 7 0 ∷ [] ≡ take 8 w
eight [] h = absurd (omega arith)
eight (a ∷ []) h = absurd (omega arith)
eight (a ∷ b ∷ []) h = absurd (omega arith)
eight (a ∷ b ∷ c ∷ []) h = absurd (omega arith)
eight (a ∷ b ∷ c ∷ d ∷ []) h = absurd (omega arith)
eight (a ∷ b ∷ c ∷ d ∷ e ∷ []) h = absurd (omega arith)
eight (a ∷ b ∷ c ∷ d ∷ e ∷ f ∷ []) h = absurd (omega arith)
eight (a ∷ b ∷ c ∷ d ∷ e ∷ f ∷ g ∷ []) h = absurd (omega arith)
eight (a ∷ b ∷ c ∷ d ∷ e ∷ f ∷ g ∷ k ∷ w) h = refl

row_back : (w k : List ℕ) → 8 ≤ length w → get_or w 7 0 ≤ length k → row_of (row_stream w k) ≡ take 8 w
row_back w k h n =
    ap (λ j. get_or w 0 0 ∷ get_or w 1 0 ∷ get_or w 2 0 ∷ get_or w 3 0 ∷ get_or w 4 0 ∷ get_or w 5 0 ∷ get_or w 6 0 ∷ j ∷ [])
    (length-take-le (get_or w 7 0) k n) ∙ eight w h

-- how many bytes n rows keep
unfoldable pub kept_size : ℕ → List ℕ → ℕ
kept_size zero w = 0
kept_size (suc n) w = get_or w 7 0 + kept_size n (drop 8 w)

-- the rows of the list that words show are these words, and its kept bytes these bytes
rows_back : (n : ℕ) (w k : List ℕ) → bad_rows n w ≡ false → n * 8 ≤ length w → 234 * n ≤ length k → rows_of (list_in n w k) ≡ take (n * 8) w
unfolding list_in bad_rows rows_of
rows_back zero w k e h m = refl
rows_back (suc n) w k e h m =
    let t = or-none (bad_row w) (bad_rows n (drop 8 w)) e in
    let g = good-row w t.0 in
    let i = rows_back n (drop 8 w) (drop (get_or w 7 0) k) t.1 (simp length-drop (omega arith)) (simp length-drop (omega (arith, g.kept)))
    in
    let j : 8 + n * 8 ≡ suc n * 8 = omega arith in
    ap₂ ◌++◌ (row_back w k (omega arith) (omega (arith, g.kept))) i ∙ sym (take-add 8 (n * 8) w) ∙ ap (λ x. take x w) j

kept_back : (n : ℕ) (w k : List ℕ) → kept_of (list_in n w k) ≡ take (kept_size n w) k
unfolding list_in kept_of kept_size
kept_back zero w k = refl
kept_back (suc n) w k =
    ap (λ x. take (get_or w 7 0) k ++ x) (kept_back n (drop 8 w) (drop (get_or w 7 0) k))
    ∙ sym (take-add (get_or w 7 0) (kept_size n (drop 8 w)) k)

-- ## Both ways

-- what stands at the front once it was written there
front : (e l : List ℕ) → written e 0 l ≡ l ++ drop (length l) e
unfolding written
front e l = ap (λ j. l ++ drop j e) (zero-add (length l))

-- as many bytes as are then taken
streams-size : (l : List Stream) → length (streams_bytes l) ≡ sizes_of l
unfolding streams_bytes
streams-size [] = refl
streams-size (s ∷ l) = length-append (stream_bytes s) (streams_bytes l) ∙ ap₂ ◌+◌ (length-structure s) (streams-size l)

separate-size : (pcr : ℕ) (l : List Stream) → length (separate_bytes pcr l) ≡ 6 + sizes_of l
unfolding separate_bytes
separate-size pcr l = simp (length-append, length-bytes) (omega (arith, streams-size l))

-- a list that was written is read: the words come back that were shown, and the kept bytes, and the bytes taken are those written
pub written-is-read : (words kept out w₀ k₀ : List ℕ) {n t : ℕ} {o w k : List ℕ} → bad_list words ≡ false → length words ≡ 130
    → length kept ≡ 3744
    → length (bytes_of words kept) ≤ length out → WritesList words kept out n o → ReadsList o w₀ k₀ t w k
    → (w ≡ written (get_or words 0 0 ∷ get_or words 1 0 ∷ replicate 128 0) 2 (take (get_or words 0 0 * 8) (drop 2 words)))
    × (k ≡ written k₀ 0 (take (kept_size (get_or words 0 0) (drop 2 words)) kept))
    × (t ≡ n) × (0 < n)
unfolding put_size out_after taken words_after kept_after words_of bytes_of
written-is-read words kept out w₀ k₀ {n = put} {o = o} good wide long room a b =
    let n = get_or words 0 0 in
    let l = list_in n (drop 2 words) kept in
    let c = or-none (ltb most_streams n) _ good in
    let few = ltb-false most_streams n c.0 in
    let rows = (or-none (ltb highest_pid (get_or words 1 0)) _ c.1).1 in
    let is : o ≡ bytes_of words kept ++ drop (length (bytes_of words kept)) out =
    a.bytes ∙ rw (good, le-ltb (length out) (length (bytes_of words kept)) room) (front out (bytes_of words kept)) in
    let found : separate_in o ≡ listed l (drop (length (bytes_of words kept)) out) = ap separate_in is ∙ shown-is-read words kept _ good in
    let pcr : pcr_pid o ≡ get_or words 1 0 = ap pcr_pid is ∙ shown-pcr words kept _ good in
    let size : put ≡ 6 + sizes_of l = a.size ∙ rw (good, le-ltb (length out) (length (bytes_of words kept)) room)
    (separate-size (get_or words 1 0) l) in (
      b.list ∙ ap₂ (λ x y. words_for x y w₀) pcr found
          ∙ ap₂ (λ x y. written (x ∷ get_or words 1 0 ∷ replicate 128 0) 2 y) (list_count n (drop 2 words) kept)
          (rows_back n (drop 2 words) kept rows (simp length-drop (omega arith)) (omega arith)),
      b.bytes ∙ ap (λ y. kept_after y k₀) found ∙ ap (written k₀ 0) (kept_back n (drop 2 words) kept),
      b.size ∙ ap taken found ∙ sym size,
      omega (arith, size),
    )

stream-shown : (s : Stream) (x y : List ℕ) → row_stream (row_of s ++ x) (s.kept ++ y) ≡ s
stream-shown s x y =
    let e : take (length s.kept) (s.kept ++ y) ≡ s.kept = take_at s.kept y (length s.kept) refl in
    λ i. record {
      pid = s.pid;
      stream_type = s.stream_type;
      avg_bitrate = s.avg_bitrate;
      max_bitrate = s.max_bitrate;
      min_bitrate =
          s.min_bitrate;
      h_resolution = s.h_resolution;
      v_resolution = s.v_resolution;
      kept = e i;
    }

-- the list whose rows and kept bytes stand in front
list-shown : (l : List Stream) (x y : List ℕ) → list_in (length l) (rows_of l ++ x) (kept_of l ++ y) ≡ l
unfolding list_in rows_of kept_of
list-shown [] x y = refl
list-shown (s ∷ l) x y =
    ap (λ z. row_stream (row_of s ++ (rows_of l ++ x)) z ∷ list_in (length l) (rows_of l ++ x) (drop (length s.kept) z))
    (append_assoc s.kept (kept_of l) y)
    ∙ ap₂ ◌∷◌ (stream-shown s (rows_of l ++ x) (kept_of l ++ y))
    (ap (list_in (length l) (rows_of l ++ x)) (drop_at s.kept (kept_of l ++ y) (length s.kept) refl) ∙ list-shown l x y)

-- what can be read, a writer of rows takes
row-good : (s : Stream) (x : List ℕ) → Writable s → bad_row (row_of s ++ x) ≡ false
row-good s x w =
    rw (
      le-ltb highest_pid s.pid w.pid,
      lt-leb unknown_size s.stream_type w.stream_type,
      lt-leb 4294967296 s.avg_bitrate w.avg_bitrate,
      lt-leb 4294967296 s.max_bitrate w.max_bitrate,
      lt-leb 4294967296 s.min_bitrate w.min_bitrate,
      lt-leb 65536 s.h_resolution w.h_resolution,
      lt-leb 65536 s.v_resolution w.v_resolution,
      le-ltb 234 (length s.kept) w.kept,
    )

rows-good : (l : List Stream) (x : List ℕ) → All Writable l → bad_rows (length l) (rows_of l ++ x) ≡ false
unfolding bad_rows rows_of
rows-good [] x a = refl
rows-good (s ∷ l) x a = rw (row-good s (rows_of l ++ x) a.0, rows-good l x a.1) refl

-- of bytes that are read as a list: the words and kept bytes that are then lent show it
module _ (p w₀ k₀ : List ℕ) (l : List Stream) (r : List ℕ) {t : ℕ} {w k : List ℕ} (a : All Byte p) (e : separate_in p ≡ listed l r)
    (b : ReadsList p w₀ k₀ t w k) where
  abbrev behind_rows : List ℕ
  behind_rows = drop (2 + length (rows_of l)) (length l ∷ pcr_pid p ∷ replicate 128 0)

  read-words : w ≡ length l ∷ pcr_pid p ∷ (rows_of l ++ behind_rows)
  unfolding words_after words_of written
  read-words = b.list ∙ ap (λ x. words_for (pcr_pid p) x w₀) e

  read_kept : k ≡ kept_of l ++ drop (0 + length (kept_of l)) k₀
  unfolding kept_after written
  read_kept = b.bytes ∙ ap (λ x. kept_after x k₀) e

  read-shows : bytes_of w k ≡ separate_bytes (pcr_pid p) l
  unfolding bytes_of
  read-shows =
      ap₂ (λ x y. separate_bytes (get_or x 1 0) (list_in (get_or x 0 0) (drop 2 x) y)) read-words read_kept
      ∙ ap (separate_bytes (pcr_pid p)) (list-shown l behind_rows (drop (0 + length (kept_of l)) k₀))

  read-good : bad_list w ≡ false
  read-good =
      let s = separate-step p l r e in
      let n = streams-count (pid_count p) (drop 6 p) l r s.streams in
      let g = streams-writable (pid_count p) (drop 6 p) l r (all_drop Byte 6 p a) s.streams in
      rw (
        read-words,
        le-ltb most_streams (length l) (omega (arith, n, s.few)),
        le-ltb highest_pid (pcr_pid p) s.pcr,
        rows-good l behind_rows g,
      ) refl

  read-put : (out : List ℕ) {n : ℕ} {o : List ℕ} → t ≤ length out → WritesList w k out n o → (n ≡ t) × (o ≡ take t p ++ drop t out)
  unfolding put_size out_after taken
  read-put out room c =
      let size : t ≡ 6 + sizes_of l = b.size ∙ ap taken e in
      let long : length (bytes_of w k) ≡ t = ap length read-shows ∙ separate-size (pcr_pid p) l ∙ sym size in
      let fits = le-ltb (length out) (length (bytes_of w k)) (omega arith) in
      let whole : bytes_of w k ++ r ≡ p = ap (λ x. x ++ r) read-shows ∙ separate-write-back p l r a e in
      let front-is : bytes_of w k ≡ take t p = sym (ap (take t) (sym whole) ∙ take_at (bytes_of w k) r t long) in (
        c.size ∙ rw (read-good, fits) long,
        c.bytes ∙ rw (read-good, fits) (front out (bytes_of w k) ∙ ap₂ (λ x j. x ++ drop j out) front-is long),
      )

-- a list that was read is written, if the output has room for it: the bytes that were taken, and as many
pub read-is-written : (p w₀ k₀ out : List ℕ) {t n : ℕ} {w k o : List ℕ} → All Byte p → ReadsList p w₀ k₀ t w k → 0 < t → t ≤ length out
    → WritesList w k out n o
    → (n ≡ t) × (o ≡ take t p ++ drop t out)
unfolding taken
read-is-written p w₀ k₀ out {t} {n} {o = o} a b some room c = go (separate_in p) refl
  where
    go : (x : Listed) → separate_in p ≡ x → (n ≡ t) × (o ≡ take t p ++ drop t out)
    go (listed l r) e = read-put p w₀ k₀ l r a e b out room c
    go unlisted e = let z : t ≡ 0 = b.size ∙ ap taken e in absurd (omega arith)

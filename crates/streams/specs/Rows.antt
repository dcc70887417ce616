-- 02, CR 1: a list of streams in lent memory. Words: how many, the PcrPID, and 16 rows of eight words; bytes: what the structures keep, all
-- streams' in a row.
use Rattle.std.specs.Prelude.{◌≡◌, Bool, false, cond, ◌||◌, List, [], ◌∷◌, ◌++◌, ℕ, zero, suc, ◌+◌, ◌≤◌, leb, ltb, length, get_or, take}
use Rattle.std.specs.Prelude.{drop, replicate, Option, Some, None}
use Rattle.rules.specs.Bytes.{written}
use Rattle.rules.specs.Streams.{Stream, highest_pid, unknown_size, Listed, listed, unlisted, streams_in, pcr_pid, most_streams, separate_in}
use Rattle.rules.specs.Streams.{separate_bytes}
use Rattle.reading.specs.Structures.{sizes_of}

-- ## A list as words and bytes

-- PID, StreamType, AvgBitrate, MaxBitrate, MinBitrate, HResolution, VResolution, how many bytes are kept
abbrev pub row_of : Stream → List ℕ
row_of s =
    s.pid ∷ s.stream_type ∷ s.avg_bitrate ∷ s.max_bitrate ∷ s.min_bitrate ∷ s.h_resolution ∷ s.v_resolution ∷ length s.kept ∷ []

unfoldable pub rows_of : List Stream → List ℕ
rows_of [] = []
rows_of (s ∷ l) = row_of s ++ rows_of l

unfoldable pub kept_of : List Stream → List ℕ
kept_of [] = []
kept_of (s ∷ l) = s.kept ++ kept_of l

-- "Rows behind the last are zeroed"
unfoldable pub words_of : ℕ → List Stream → List ℕ
words_of pcr l = written (length l ∷ pcr ∷ replicate 128 0) 2 (rows_of l)

-- ## Reading: what is found, and what is then lent

-- "the bytes taken (6 + the Lengths)", or none
unfoldable pub taken : Listed → ℕ
taken (listed l rest) = 6 + sizes_of l
taken unlisted = 0

abbrev pub words_for : ℕ → Listed → List ℕ → List ℕ
words_for pcr (listed l rest) words = words_of pcr l
words_for pcr unlisted words = words

unfoldable pub words_after : List ℕ → List ℕ → List ℕ
words_after p words = words_for (pcr_pid p) (separate_in p) words

unfoldable pub kept_after : Listed → List ℕ → List ℕ
kept_after (listed l rest) kept = written kept 0 (kept_of l)
kept_after unlisted kept = kept

-- ## Writing: the list that words and bytes show

abbrev pub row_stream : List ℕ → List ℕ → Stream
row_stream w k =
    record {
      pid = get_or w 0 0;
      stream_type = get_or w 1 0;
      avg_bitrate = get_or w 2 0;
      max_bitrate = get_or w 3 0;
      min_bitrate = get_or w 4 0;
      h_resolution = get_or w 5 0;
      v_resolution = get_or w 6 0;
      kept = take (get_or w 7 0) k;
    }

-- n rows from w on, whose kept bytes stand from k on
unfoldable pub list_in : ℕ → List ℕ → List ℕ → List Stream
list_in zero w k = []
list_in (suc n) w k = row_stream w k ∷ list_in n (drop 8 w) (drop (get_or w 7 0) k)

-- "a list that could not be read back": a PID above 0x1FFF, StreamType above 0xFFFE, a rate of 2^32 or a resolution of 2^16 or more in a
-- word, more than 234 kept bytes
abbrev pub bad_row : List ℕ → Bool
bad_row w =
    ltb highest_pid (get_or w 0 0)
    || (leb unknown_size (get_or w 1 0)
    || (leb 4294967296 (get_or w 2 0)
    || (leb 4294967296 (get_or w 3 0)
    || (leb 4294967296 (get_or w 4 0)
    || (leb 65536 (get_or w 5 0) || (leb 65536 (get_or w 6 0) || ltb 234 (get_or w 7 0)))))))

unfoldable pub bad_rows : ℕ → List ℕ → Bool
bad_rows zero w = false
bad_rows (suc n) w = bad_row w || bad_rows n (drop 8 w)

-- "more than 16, PcrPID .. above 0x1FFF"
abbrev pub bad_list : List ℕ → Bool
bad_list words = ltb most_streams (get_or words 0 0) || (ltb highest_pid (get_or words 1 0) || bad_rows (get_or words 0 0) (drop 2 words))

-- the bytes of n rows' structures
unfoldable pub rows_size : ℕ → List ℕ → ℕ
rows_size zero w = 0
rows_size (suc n) w = (21 + get_or w 7 0) + rows_size n (drop 8 w)

unfoldable pub judged : ℕ → List ℕ → Option ℕ
judged n w = cond (bad_rows n w) None (Some (rows_size n w))

unfoldable pub bytes_of : List ℕ → List ℕ → List ℕ
bytes_of words kept = separate_bytes (get_or words 1 0) (list_in (get_or words 0 0) (drop 2 words) kept)

-- "or an output that is too short"
unfoldable pub put_size : List ℕ → List ℕ → ℕ → ℕ
put_size words kept room = cond (bad_list words || ltb room (length (bytes_of words kept))) 0 (length (bytes_of words kept))

unfoldable pub out_after : List ℕ → List ℕ → List ℕ → List ℕ
out_after words kept out = cond (bad_list words || ltb (length out) (length (bytes_of words kept))) out
    (written out 0 (bytes_of words kept))

-- ## What the two promise

-- of the bytes p, from PcrPID on: the bytes taken, and what is then lent
pub record ReadsList (p words kept : List ℕ) (r : ℕ) (words' kept' : List ℕ) : Type 0 where
  pub size : r ≡ taken (separate_in p)
  pub list : words' ≡ words_after p words
  pub bytes : kept' ≡ kept_after (separate_in p) kept

-- of the list that words and kept bytes show: the bytes written, and what out then holds
pub record WritesList (words kept out : List ℕ) (r : ℕ) (out' : List ℕ) : Type 0 where
  pub size : r ≡ put_size words kept (length out)
  pub bytes : out' ≡ out_after words kept out

-- ## What the parts promise

-- a row that is good, whose kept bytes are there, and room for its structure
pub record Puttable (w k out : List ℕ) : Type 0 where
  pub row : 8 ≤ length w
  pub good : bad_row w ≡ false
  pub kept : get_or w 7 0 ≤ length k
  pub room : 21 + get_or w 7 0 ≤ length out

-- n rows that are good, and room for their structures
pub record Writing (n : ℕ) (w k out : List ℕ) : Type 0 where
  pub few : n ≤ most_streams
  pub rows : 130 ≤ length w
  pub good : bad_rows n (drop 2 w) ≡ false
  pub kept : 3744 ≤ length k
  pub room : 6 + rows_size n (drop 2 w) ≤ length out

-- a list that is good, whose structures take `size` bytes
pub record Judged (words kept : List ℕ) (size : ℕ) : Type 0 where
  pub few : get_or words 0 0 ≤ most_streams
  pub pcr : get_or words 1 0 ≤ highest_pid
  pub wide : 130 ≤ length words
  pub long : 3744 ≤ length kept
  pub rows : judged (get_or words 0 0) (drop 2 words) ≡ Some size

-- n structures that p begins with are good, and what is lent is as long as it has to be
pub record Fillable (n : ℕ) (p words kept : List ℕ) : Type 0 where
  pub few : n ≤ most_streams
  pub items : List Stream
  pub rest : List ℕ
  pub good : streams_in n p ≡ listed items rest
  pub wide : 130 ≤ length words
  pub long : 3744 ≤ length kept

-- p's first n structures stand in the rows of the words, and in the kept bytes
pub record Filled (n : ℕ) (p words kept words' kept' : List ℕ) : Type 0 where
  pub rows : (l : List Stream) (rest : List ℕ) → streams_in n p ≡ listed l rest → words' ≡ written words 2 (rows_of l)
  pub bytes : (l : List Stream) (rest : List ℕ) → streams_in n p ≡ listed l rest → kept' ≡ written kept 0 (kept_of l)

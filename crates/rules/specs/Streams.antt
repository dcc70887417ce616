-- 02, CR 1: PcrPID, PIDCount and splice_elementary_stream structures, read and written. J.280, tables 7-6 and 8-6.
use Rattle.std.specs.Prelude.{Bool, cond, ◌||◌, List, [], ◌∷◌, ◌++◌, ℕ, zero, suc, ◌+◌, ◌-◌, eqb, ltb, length, get_or, drop}
use Rattle.rules.specs.Bytes.{bytes, part, field}

-- Length 1, PID 2, StreamType 2, AvgBitrate 4, MaxBitrate 4, MinBitrate 4, HResolution 2, VResolution 2;
-- "Bytes behind its first 21 are kept unread."
pub record Stream : Type 0 where
  pub pid : ℕ
  pub stream_type : ℕ
  pub avg_bitrate : ℕ
  pub max_bitrate : ℕ
  pub min_bitrate : ℕ
  pub h_resolution : ℕ
  pub v_resolution : ℕ
  pub kept : List ℕ

-- l begins with the structure. "Length counts the whole structure"
abbrev pub stream_length : List ℕ → ℕ
stream_length l = get_or l 0 0

abbrev pub stream_at : List ℕ → Stream
stream_at l =
    record {
      pid = field 1 2 l;
      stream_type = field 3 2 l;
      avg_bitrate = field 5 4 l;
      max_bitrate = field 9 4 l;
      min_bitrate = field 13 4 l;
      h_resolution = field 17 2 l;
      v_resolution = field 19 2 l;
      kept = part 21 (stream_length l - 21) l;
    }

-- "PIDs are at most 0x1FFF"
abbrev pub highest_pid : ℕ
highest_pid = 0x1FFF

-- "0xFFFFFFFF and 0xFFFF mark an unknown rate or picture size and are legal nowhere else in a structure": of a PID and a StreamType
abbrev pub unknown_size : ℕ
unknown_size = 0xFFFF

-- "is at least 21"; it ends within the message
abbrev pub bad_stream : List ℕ → Bool
bad_stream l =
    ltb (stream_length l) 21
    || (ltb (length l) (stream_length l)
    || (ltb highest_pid (field 1 2 l) || eqb (field 3 2 l) unknown_size))

-- the structures, and what stands behind them; or structures that are bad
pub data Listed : Type 0 where
  listed : List Stream → List ℕ → Listed
  unlisted : Listed

unfoldable pub behind : Stream → Listed → Listed
behind s (listed l rest) = listed (s ∷ l) rest
behind s unlisted = unlisted

-- n structures, one directly behind the other
unfoldable pub streams_in : ℕ → List ℕ → Listed
streams_in zero l = listed [] l
streams_in (suc n) l = cond (bad_stream l) unlisted (behind (stream_at l) (streams_in n (drop (stream_length l) l)))

-- PcrPID 2, PIDCount 4, structures. "At most 16 streams."
abbrev pub pcr_pid : List ℕ → ℕ
pcr_pid p = field 0 2 p

abbrev pub pid_count : List ℕ → ℕ
pid_count p = field 2 4 p

abbrev pub most_streams : ℕ
most_streams = 16

abbrev pub bad_count : List ℕ → Bool
bad_count p = ltb (length p) 6 || (ltb highest_pid (pcr_pid p) || ltb most_streams (pid_count p))

-- 02, CR 1: "their requests carry ServiceID 0xFFFF and then PcrPID, PIDCount and that many splice_elementary_stream structures, as in
-- source document 000"
unfoldable pub separate_in : List ℕ → Listed
separate_in p = cond (bad_count p) unlisted (streams_in (pid_count p) (drop 6 p))

-- structures that are bad leave nothing
-- 02, CR 1: "Refusals: 123 for a bad structure or count, at the reading step."
unfoldable pub rest_of : Listed → List ℕ
rest_of (listed l rest) = rest
rest_of unlisted = []

-- 02, CR 1: "and write them too for our bench"
unfoldable pub stream_bytes : Stream → List ℕ
stream_bytes s =
    bytes 1 (21 + length s.kept)
    ++ bytes 2 s.pid
    ++ bytes 2 s.stream_type
    ++ bytes 4 s.avg_bitrate
    ++ bytes 4 s.max_bitrate
    ++ bytes 4 s.min_bitrate
    ++ bytes 2 s.h_resolution
    ++ bytes 2 s.v_resolution
    ++ s.kept

unfoldable pub streams_bytes : List Stream → List ℕ
streams_bytes [] = []
streams_bytes (s ∷ l) = stream_bytes s ++ streams_bytes l

unfoldable pub separate_bytes : ℕ → List Stream → List ℕ
separate_bytes pcr l = bytes 2 pcr ++ bytes 4 (length l) ++ streams_bytes l

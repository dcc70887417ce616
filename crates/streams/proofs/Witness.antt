-- What the theorems about lists of streams ask can be met, by one list of one stream, as a request's bytes and in lent words. By computing.
use mathlib.Core.Path.{◌≡◌, refl}
use mathlib.Core.Bool.{false}
use mathlib.Core.List.{List, [], ◌∷◌, ◌++◌}
use Prim.Native.Nat.{ℕ, ◌≤◌, ◌<◌}
use native.Mathlib.Omega.{arith}
use lib.Dec.{ltb→lt}
use lib.ListN.{length, drop, replicate}
use Rattle.rules.specs.Lists.{All}
use Rattle.rules.specs.Bytes
use Rattle.rules.specs.Bytes.{bytes}
use Rattle.rules.specs.Streams
use Rattle.rules.specs.Streams.{Stream, highest_pid, listed, most_streams, streams_in, separate_in}
use Rattle.rules.specs.Request.{separate_service, service_id}
use Rattle.rules.specs.Follows.ReadBack.{Writable}
use Rattle.rules.specs.Streams.{streams_bytes, separate_bytes}
use Rattle.streams.specs.Rows
use Rattle.streams.specs.Rows.{taken, bad_list, bytes_of}

-- PID 0x100, StreamType 2, its rates and its picture, and two bytes that are kept
abbrev pub stream : Stream
stream =
    record {
      pid = 0x100;
      stream_type = 2;
      avg_bitrate = 4000000;
      max_bitrate = 6000000;
      min_bitrate = 0xFFFFFFFF;
      h_resolution = 720;
      v_resolution = 576;
      kept = 1 ∷ 2 ∷ [];
    }

abbrev pub one : List Stream
one = stream ∷ []

pub writable : All Writable one
writable = (
  record {
    pid = omega arith;
    stream_type = omega arith;
    avg_bitrate = omega arith;
    max_bitrate = omega arith;
    min_bitrate = omega arith;
    h_resolution = omega arith;
    v_resolution = omega arith;
    kept = omega arith;
  },
  tt,
)

-- with the highest PcrPID, and two bytes behind
pub pcr : 0x1FFF ≤ highest_pid
pcr = omega arith

pub few : length one ≤ most_streams
few = omega arith

unfoldable pub structures : List ℕ
structures = streams_bytes one ++ (3 ∷ 4 ∷ [])

unfoldable pub separate : List ℕ
separate = separate_bytes 0x1FFF one ++ (3 ∷ 4 ∷ [])

-- a Splice_Request's data up to its ServiceID 0xFFFF, and then the list
unfoldable pub request : List ℕ
request = replicate 16 0 ++ (bytes 2 0xFFFF ++ separate)

-- and the list as a caller shows it
unfoldable pub words : List ℕ
words = 1 ∷ 0x1FFF ∷ 0x100 ∷ 2 ∷ 4000000 ∷ 6000000 ∷ 0xFFFFFFFF ∷ 720 ∷ 576 ∷ 2 ∷ replicate 120 0

unfoldable pub kept : List ℕ
kept = 1 ∷ 2 ∷ replicate 3742 0

unfoldable computing : ℕ
unfolding structures separate request words kept Bytes.bytes Bytes.value Bytes.value_from Streams.behind Streams.streams_in
    Streams.separate_in
    Streams.stream_bytes Streams.streams_bytes Streams.separate_bytes Rows.taken Rows.list_in Rows.bad_rows Rows.bytes_of
computing = 0

pub streams-read : streams_in 1 structures ≡ listed one (3 ∷ 4 ∷ [])
unfolding computing
streams-read = refl

pub separate-read : separate_in separate ≡ listed one (3 ∷ 4 ∷ [])
unfolding computing
separate-read = refl

pub request-long : 18 ≤ length request
unfolding computing
request-long = ltb→lt 17 (length request) tt

pub request-separate : service_id request ≡ separate_service
unfolding computing
request-separate = refl

pub request-read : separate_in (drop 18 request) ≡ listed one (3 ∷ 4 ∷ [])
unfolding computing
request-read = refl

pub service : 1 < separate_service
service = omega arith

pub words-wide : length words ≡ 130
unfolding computing
words-wide = refl

pub kept-long : length kept ≡ 3744
unfolding computing
kept-long = refl

pub shown : bad_list words ≡ false
unfolding computing
shown = refl

pub room : length (bytes_of words kept) ≤ length separate
unfolding computing
room = ltb→lt 28 (length separate) tt

pub some-taken : 0 < taken (separate_in separate)
unfolding computing
some-taken = ltb→lt 0 (taken (separate_in separate)) tt

pub enough : taken (separate_in separate) ≤ length separate
unfolding computing
enough = ltb→lt 28 (length separate) tt

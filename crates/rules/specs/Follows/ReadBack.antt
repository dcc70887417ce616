-- Records and lists read back from their bytes, for theorems that take everything from the answers alone.
use Rattle.std.specs.Prelude.{Bool, cond, List, [], ◌∷◌, ℕ, zero, suc, ◌+◌, ◌-◌, ◌≤◌, ◌<◌, eqb, length, drop}
use Rattle.rules.specs.Units.{time_of}
use Rattle.rules.specs.Bytes.{message_id, message_size, data_of, part, field, name_in}
use Rattle.rules.specs.Streams.{Stream, highest_pid, unknown_size}
use Rattle.rules.specs.Reading.{splice_request}
use Rattle.rules.specs.Records.{Record, General, InitResponse, AliveResponse, SpliceResponse, SpliceComplete, AbortResponse}
use Rattle.rules.specs.Records.{CueRequest, ExtendedFound, ExtendedNone, ConfigResponse}

-- "What is written and read back gives the same list": one that is
pub record Writable (s : Stream) : Type 0 where
  pub pid : s.pid ≤ highest_pid
  pub stream_type : s.stream_type < unknown_size
  pub avg_bitrate : s.avg_bitrate < 4294967296
  pub max_bitrate : s.max_bitrate < 4294967296
  pub min_bitrate : s.min_bitrate < 4294967296
  pub h_resolution : s.h_resolution < 65536
  pub v_resolution : s.v_resolution < 65536
  pub kept : length s.kept ≤ 234

-- the data of the message that l begins with
abbrev pub data_in : List ℕ → List ℕ
data_in l = data_of (message_size l) l

-- the message that l begins with is a Splice_Request
abbrev pub is_splice : List ℕ → Bool
is_splice l = eqb (message_id l) splice_request

-- of connection c, with the result r: SessionID 10, then the descriptor's tag 14, length 15, identifier 16, SpliceEventID 20, result 24,
-- PlayedDuration 26
abbrev pub extended_in : ℕ → ℕ → List ℕ → Record
extended_in c r l =
    cond (eqb r 100) (ExtendedFound c (field 10 4 l) (field 20 4 l) (field 24 2 l) (field 26 4 l)) (ExtendedNone c (field 10 4 l))

-- a GetConfig_Response whose Hardware_Config has n bytes with its Length: what is left of its data is the section
abbrev pub config_in : (conn result n : ℕ) → List ℕ → Record
config_in c r n l = ConfigResponse c r (name_in (part 10 32 l)) (part 42 n l) (part (42 + n) (field 4 2 l - (32 + n)) l)

-- the first record of l: mark 0, connection 1, MessageID 2, MessageSize 4, Result 6, Result_Extension 8, data 10
unfoldable pub record_in : List ℕ → Record
record_in l =
    let c = field 1 1 l in
    let id = field 2 2 l in
    let r = field 6 2 l in
    cond (eqb id 0x0002) (InitResponse c r (name_in (part 12 32 l)))
    (cond (eqb id 0x0006) (AliveResponse c r (field 10 4 l) (field 14 4 l) (time_of (field 18 4 l) (field 22 4 l)).0)
    (cond (eqb id 0x0008) (SpliceResponse c r (field 10 4 l))
    (cond (eqb id 0x0009) (SpliceComplete c r (field 10 4 l) (field 14 1 l) (field 19 4 l))
    (cond (eqb id 0x000F) (AbortResponse c r (field 10 4 l))
    (cond (eqb id 0x000C) (CueRequest c (field 10 4 l) (field 14 4 l) (part 18 (field 4 2 l - 8) l))
    (cond (eqb id 0x0004) (extended_in c r l)
    (cond (eqb id 0x000B) (config_in c r (2 + field 42 2 l) l) (General c r))))))))

-- the records of l, n at most
unfoldable pub records_up_to : ℕ → List ℕ → List Record
records_up_to zero l = []
records_up_to (suc n) l =
    let more : List Record = record_in l ∷ records_up_to n (drop (10 + field 4 2 l) l) in
    cond (eqb (length l) 0) [] more

-- all of them: each takes at least one byte
unfoldable pub records_in : List ℕ → List Record
records_in l = records_up_to (length l) l

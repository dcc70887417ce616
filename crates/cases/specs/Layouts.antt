-- 01, Bytes: every kind of record as literal bytes, worked by hand from 01's list and J.280's tables 7-1, 7-4, 7-5, 7-7, 7-8, 7-10, 7-13,
-- 7-15 and 7-17, and 02's lists of streams, from tables 7-6 and 8-6.
-- The same bytes are written of a record, or of a list, and read back as it. Assumes nothing.
use Rattle.std.specs.Prelude.{◌≡◌, refl, List, [], ◌∷◌, ◌++◌, map, ℕ, replicate}
use Rattle.rules.specs.Streams.{Stream, listed, pcr_pid, pid_count, separate_in, separate_bytes}
use Rattle.rules.specs.Records.{Record, General, InitResponse, AliveResponse, SpliceResponse, SpliceComplete, AbortResponse, CueRequest}
use Rattle.rules.specs.Records.{ExtendedFound, ExtendedNone, ConfigResponse, record_bytes, output}
use Rattle.rules.specs.Follows.ReadBack.{records_in}
use Rattle.cases.specs.Scenario.{hex}
use Rattle.cases.specs.Computing.{computing}

record Row : Type 0 where
  record' : Record
  laid : List ℕ

row : Record → List ℕ → Row
row r l = record { record' = r; laid = l }

-- "CH1" and the 29 zeros behind it
name : List ℕ
name = hex "434831" ++ replicate 29 0

-- Mark (0x52, connection), MessageID, MessageSize, Result, Result_Extension; then the data. Results: 100 = 0x64, 104 = 0x68, 114 = 0x72,
-- 121 = 0x79, 123 = 0x7B, 125 = 0x7D
rows : List Row
rows =
    -- no data
    row (General 3 123) (hex "52 03  0000 0000 007B FFFF")
    -- Revision_Num 0x0002, ChannelName 32: 34 = 0x22
    ∷ row (InitResponse 1 100 (hex "434831")) (hex "52 01  0002 0022 0064 FFFF  0002" ++ name)
    ∷ row (InitResponse 0 104 []) (hex "52 00  0002 0022 0068 FFFF  0002" ++ replicate 32 0)
    -- State 4, SessionID 4, Seconds 4, MicroSeconds 4: 16 = 0x10. 1,000 = 0x3E8; 123,456 = 0x1E240
    ∷ row (AliveResponse 2 100 2 0x01020304 1000123456) (hex "52 02  0006 0010 0064 FFFF  00000002 01020304 000003E8 0001E240")
    ∷ row (AliveResponse 0 100 1 0xFFFFFFFF 0) (hex "52 00  0006 0010 0064 FFFF  00000001 FFFFFFFF 00000000 00000000")
    -- SessionID 4
    ∷ row (SpliceResponse 0 114 0xA1B2C3D4) (hex "52 00  0008 0004 0072 FFFF  A1B2C3D4")
    -- SessionID 4, SpliceTypeFlag 1, Bitrate 4, PlayedDuration 4: 13 = 0x0D. A start, and an end after 2,700,000 = 0x2932E0 ticks
    ∷ row (SpliceComplete 1 100 7 0 0) (hex "52 01  0009 000D 0064 FFFF  00000007 00 00000000 00000000")
    ∷ row (SpliceComplete 1 125 0x00010203 1 2700000) (hex "52 01  0009 000D 007D FFFF  00010203 01 00000000 002932E0")
    -- SessionID 4
    ∷ row (AbortResponse 3 121 9) (hex "52 03  000F 0004 0079 FFFF  00000009")
    -- 02, CR 8: SessionID 4, tag 0x01, length 14 = 0x0E, "CARD", SpliceEventID 4, result 2, PlayedDuration 4: 20 = 0x14; 116 = 0x74
    ∷ row (ExtendedFound 2 0x01020304 0xA1B2C3D4 116 2700000)
    (hex "52 02  0004 0014 0064 FFFF  01020304  01 0E 43415244 A1B2C3D4 0074 002932E0")
    ∷ row (ExtendedNone 1 7) (hex "52 01  0004 0004 0079 FFFF  00000007")
    -- 02, CR 7: both Result fields 0xFFFF; Seconds 4, MicroSeconds 4, the section: 8 + 3 = 11 = 0x0B
    ∷ row (CueRequest 3 0x01020304 0x0001E240 (hex "FC30AB")) (hex "52 03  000C 000B FFFF FFFF  01020304 0001E240 FC30AB")
    -- 02, CR 6: ChannelName 32, Hardware_Config with its Length, the section: 32 + 5 + 2 = 39 = 0x27
    ∷ row (ConfigResponse 1 100 (hex "434831") (hex "0003AABBCC") (hex "02B1"))
    (hex "52 01  000B 0027 0064 FFFF" ++ (name ++ hex "0003 AABBCC 02B1"))
    ∷ []

joined : List Row → List ℕ
joined [] = []
joined (r ∷ rs) = r.laid ++ joined rs

laid_out : map (λ r. record_bytes r.record') rows ≡ map (λ r. r.laid) rows
unfolding row name rows computing
laid_out = refl

-- "Every outgoing message goes directly behind the last one in the output buffer"
one-behind-another : output (map (λ r. r.record') rows) ≡ joined rows
unfolding row name rows joined computing
one-behind-another = refl

read_back : records_in (joined rows) ≡ map (λ r. r.record') rows
unfolding row name rows joined computing
read_back = refl

-- ## 02, CR 1: PcrPID 2, PIDCount 4, then the structures: Length 1, PID 2, StreamType 2, AvgBitrate 4, MaxBitrate 4, MinBitrate 4,
-- HResolution 2, VResolution 2, and Length - 21 bytes that are kept

record List' : Type 0 where
  bytes : List ℕ
  pcr : ℕ
  streams : List Stream

list : List ℕ → ℕ → List Stream → List'
list l p ss = record { bytes = l; pcr = p; streams = ss }

stream : (pid stream_type avg max min h v : ℕ) → List ℕ → Stream
stream p t a m n h v l =
    record { pid = p; stream_type = t; avg_bitrate = a; max_bitrate = m; min_bitrate = n; h_resolution = h; v_resolution = v; kept = l }

lists : List List'
lists =
    -- none
    list (hex "1FFF 00000000") 0x1FFF []
    -- every byte another
    ∷ list (hex "0102 00000001  15 1122 3344 55667788 99AABBCC DDEEFF01 0203 0405") 0x0102
    (stream 0x1122 0x3344 0x55667788 0x99AABBCC 0xDDEEFF01 0x0203 0x0405 [] ∷ [])
    -- 4,000,000 bps on average, 6,000,000 at most, the least not known, 1920 x 1080, 05 01 AA kept: 24 = 0x18; then sound, no picture
    ∷ list (hex "0031 00000002  18 0032 001B 003D0900 005B8D80 FFFFFFFF 0780 0438 0501AA"
    ++ hex "15 1FFF 0081 0005DC00 0005DC01 0000FFFF FFFF FFFF")
    0x31
    (stream 0x32 0x1B 4000000 6000000 0xFFFFFFFF 1920 1080 (0x05 ∷ 0x01 ∷ 0xAA ∷ [])
    ∷ stream 0x1FFF 0x81 384000 384001 65535 0xFFFF 0xFFFF [] ∷ [])
    -- the longest: Length 255 keeps 234 bytes; then one with the smallest numbers
    ∷ list (hex "0000 00000002  FF 0000 FFFE 00000000 00000000 00000000 FFFE 0000" ++ (replicate 234 0xFF ++ (21 ∷ replicate 20 0))) 0
    (stream 0 0xFFFE 0 0 0 0xFFFE 0 (replicate 234 0xFF) ∷ stream 0 0 0 0 0 0 0 [] ∷ [])
    ∷ []

lists-written : map (λ x. separate_bytes x.pcr x.streams) lists ≡ map (λ x. x.bytes) lists
unfolding list stream lists computing
lists-written = refl

-- with the Duration that stands behind them, 10 s
lists-read : map (λ x. separate_in (x.bytes ++ hex "000DBBA0")) lists ≡ map (λ x. listed x.streams (hex "000DBBA0")) lists
unfolding list stream lists computing
lists-read = refl

counts : map (λ x. pcr_pid x.bytes ∷ pid_count x.bytes ∷ []) lists
    ≡ (0x1FFF ∷ 0 ∷ []) ∷ (0x0102 ∷ 1 ∷ []) ∷ (0x31 ∷ 2 ∷ []) ∷ (0 ∷ 2 ∷ []) ∷ []
unfolding list stream lists computing
counts = refl

-- 01, Bytes: what is written, each record's bytes with its mark.
use Rattle.std.specs.Prelude.{List, [], ◌∷◌, ◌++◌, ℕ, ◌/◌, ◌%◌, length}
use Rattle.rules.specs.Units.{second}
use Rattle.rules.specs.Bytes.{bytes, padded}

-- an outgoing message: the connection it is for, its result, and its data
-- "Written: their responses, SpliceComplete_Response, General_Response."
pub data Record : Type 0 where
  General : (conn result : ℕ) → Record
  InitResponse : (conn result : ℕ) (name : List ℕ) → Record
  AliveResponse : (conn result state id : ℕ) (time : ℕ) → Record
  SpliceResponse : (conn result id : ℕ) → Record
  SpliceComplete : (conn result id flag played : ℕ) → Record
  AbortResponse : (conn result id : ℕ) → Record
  CueRequest : (conn seconds micros : ℕ) (section : List ℕ) → Record
  ExtendedFound : (conn id event ended played : ℕ) → Record
  ExtendedNone : (conn id : ℕ) → Record
  ConfigResponse : (conn result : ℕ) (name hardware section : List ℕ) → Record

abbrev pub result_of : Record → ℕ
result_of (General c r) = r
result_of (InitResponse c r name) = r
result_of (AliveResponse c r state x t) = r
result_of (SpliceResponse c r x) = r
result_of (SpliceComplete c r x flag played) = r
result_of (AbortResponse c r x) = r
-- 02, CR 7: "(both Result fields 0xFFFF)"
result_of (CueRequest c a u l) = 0xFFFF
result_of (ExtendedFound c x event ended played) = 100
result_of (ExtendedNone c x) = 121
result_of (ConfigResponse c r name hardware section) = r

-- "after a two-byte mark: 0x52, and the connection it is for"; "in answers Result_Extension is 0xFFFF"
unfoldable pub framed : (conn id result : ℕ) (body : List ℕ) → List ℕ
framed c id r d = 0x52 ∷ (bytes 1 c ++ (bytes 2 id ++ (bytes 2 (length d) ++ (bytes 2 r ++ (bytes 2 0xFFFF ++ d)))))

-- a wire time: Seconds 4, MicroSeconds 4
abbrev pub time_bytes : ℕ → List ℕ
time_bytes t = bytes 4 (t / second) ++ bytes 4 (t % second)

-- 02, CR 8: "one descriptor of ours: tag 0x01, length 14, identifier 0x43415244, SpliceEventID 4, result 2, PlayedDuration 4"
abbrev pub end_descriptor : (event ended played : ℕ) → List ℕ
end_descriptor event ended played =
    bytes 1 0x01 ++ (bytes 1 14 ++ (bytes 4 0x43415244 ++ (bytes 4 event ++ (bytes 2 ended ++ bytes 4 played))))

-- Init_Response 0x0002: Revision_Num 2 bytes (value 2), configured ChannelName 32. Alive_Response 0x0006: State 4, SessionID 4, time 8.
-- Splice_Response 0x0008, Abort_Response 0x000F: SessionID 4. General_Response 0x0000: no data.
-- SpliceComplete_Response 0x0009: SessionID 4, SpliceTypeFlag 1, Bitrate 4 (always 0 here), PlayedDuration 4.
-- 02, CR 8: ExtendedData_Response 0x0004: SessionID 4 (000, Table 7-13) and the descriptor; "121 with the SessionID alone where none is
-- kept".
-- 02, CR 6: GetConfig_Response 0x000B (000, 7.13): "ChannelName, the Hardware_Config of their Init_Request and the output channel's program
-- map section"
-- "Init_Response 0x0002: Revision_Num 2 bytes (value 2), configured ChannelName 32."
-- "Alive_Response 0x0006: State 4, SessionID 4, time 8."
-- "Splice_Response 0x0008 …: SessionID 4."
-- "Abort_Response 0x000F: SessionID 4."
-- "SpliceComplete_Response 0x0009: SessionID 4, SpliceTypeFlag 1, Bitrate 4 (always 0 here), PlayedDuration 4."
-- "General_Response 0x0000: no data."
unfoldable pub record_bytes : Record → List ℕ
record_bytes (General c r) = framed c 0x0000 r []
record_bytes (InitResponse c r name) = framed c 0x0002 r (bytes 2 2 ++ padded name)
record_bytes (AliveResponse c r state x t) = framed c 0x0006 r (bytes 4 state ++ (bytes 4 x ++ time_bytes t))
record_bytes (SpliceResponse c r x) = framed c 0x0008 r (bytes 4 x)
record_bytes (SpliceComplete c r x flag played) = framed c 0x0009 r (bytes 4 x ++ (bytes 1 flag ++ (bytes 4 0 ++ bytes 4 played)))
record_bytes (AbortResponse c r x) = framed c 0x000F r (bytes 4 x)
-- 02, CR 7: Cue_Request 0x000C: time 8, the section
record_bytes (CueRequest c a u l) = framed c 0x000C 0xFFFF (bytes 4 a ++ (bytes 4 u ++ l))
record_bytes (ExtendedFound c x event ended played) = framed c 0x0004 100 (bytes 4 x ++ end_descriptor event ended played)
record_bytes (ExtendedNone c x) = framed c 0x0004 121 (bytes 4 x)
record_bytes (ConfigResponse c r name hardware section) = framed c 0x000B r (padded name ++ (hardware ++ section))

-- "Every outgoing message goes directly behind the last one in the output buffer"
unfoldable pub output : List Record → List ℕ
output [] = []
output (r ∷ rs) = record_bytes r ++ output rs

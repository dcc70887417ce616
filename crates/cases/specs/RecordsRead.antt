-- Records read back from bytes, each number to its highest bit, lengths as they are: what theorems take from answers alone. From 01 and 02,
-- by hand; each row is for a reading of some bits only or of a part one off. Assumes nothing.
use Rattle.std.specs.Prelude.{◌≡◌, refl, List, [], ◌∷◌, ◌++◌, map, ℕ, replicate}
use Prim.Native.String.{String}
use Rattle.rules.specs.Records.{Record, General, InitResponse, AliveResponse, SpliceResponse, SpliceComplete, AbortResponse, CueRequest}
use Rattle.rules.specs.Records.{ExtendedFound, ExtendedNone, ConfigResponse}
use Rattle.rules.specs.Follows.ReadBack.{record_in, records_in}
use Rattle.cases.specs.Scenario.{hex}
use Rattle.cases.specs.Computing.{computing}

record Row : Type 0 where
  bytes : List ℕ
  wants : Record

row : List ℕ → Record → Row
row l r = record { bytes = l; wants = r }

-- a name of 32 bytes without a zero
name : List ℕ
name = replicate 32 0x41

-- "0x52, and the connection it is for"; MessageID, MessageSize, Result, Result_Extension; data as 01 and 02 list it for each
rows : List Row
rows =
    row (hex "5283 0000 0000 8067 FFFF") (General 0x83 0x8067)
    ∷ row (hex "5200 0000 0000 1067 FFFF") (General 0 0x1067)
    ∷ row (hex "5200 0002 0022 0064 FFFF 0002" ++ (name ++ hex "42")) (InitResponse 0 100 name)
    ∷ row (hex "5200 0006 0010 0064 FFFF 80000002 80000003 80000004 80000005") (AliveResponse 0 100 0x80000002 0x80000003 2147485799483653)
    ∷ row (hex "5200 0008 0004 0064 FFFF 80000001") (SpliceResponse 0 100 0x80000001)
    ∷ row (hex "5200 0009 000D 0064 FFFF 80000001 81 00000000 80000005") (SpliceComplete 0 100 0x80000001 0x81 0x80000005)
    ∷ row (hex "5200 000F 0004 0064 FFFF 80000001") (AbortResponse 0 100 0x80000001)
    -- a section of two bytes; MessageSizes of which some bits say 9
    ∷ row (hex "5200 000C 000A FFFF FFFF 80000001 80000002 AABBCC") (CueRequest 0 0x80000001 0x80000002 (hex "AABB"))
    ∷ row (hex "5200 000C 1009 FFFF FFFF 80000001 80000002 AABBCC") (CueRequest 0 0x80000001 0x80000002 (hex "AABBCC"))
    ∷ row (hex "5200 000C 8009 FFFF FFFF 80000001 80000002 AABBCC") (CueRequest 0 0x80000001 0x80000002 (hex "AABBCC"))
    -- result 100, and ones below it or of which some bits say 100
    ∷ row (hex "5200 0004 0014 0064 FFFF 80000001 010E 43415244 80000002 8003 80000004") (ExtendedFound 0 0x80000001 0x80000002 0x8003
    0x80000004)
    ∷ row (hex "5200 0004 0014 0064 FFFF 80000001 010E 43415244 80000002 1003 80000004") (ExtendedFound 0 0x80000001 0x80000002 0x1003
    0x80000004)
    ∷ row (hex "5200 0004 0004 0063 FFFF 80000001") (ExtendedNone 0 0x80000001)
    ∷ row (hex "5200 0004 0004 00E4 FFFF 80000001") (ExtendedNone 0 0x80000001)
    ∷ row (hex "5200 0004 0004 0164 FFFF 80000001") (ExtendedNone 0 0x80000001)
    -- ChannelName 32, a Hardware_Config of Length 1, a section of two bytes; Lengths and MessageSizes of which some bits say so
    ∷ row (hex "5200 000B 0025 0064 FFFF" ++ (name ++ hex "0001 55 6677 88")) (ConfigResponse 0 100 name (hex "000155") (hex "6677"))
    ∷ row (hex "5200 000B 0025 0064 FFFF" ++ (name ++ hex "1001 55 6677 88")) (ConfigResponse 0 100 name (hex "100155667788") [])
    ∷ row (hex "5200 000B 0025 0064 FFFF" ++ (name ++ hex "8001 55 6677 88")) (ConfigResponse 0 100 name (hex "800155667788") [])
    ∷ row (hex "5200 000B 1025 0064 FFFF" ++ (name ++ hex "0001 55 6677 88")) (ConfigResponse 0 100 name (hex "000155") (hex "667788"))
    ∷ row (hex "5200 000B 8025 0064 FFFF" ++ (name ++ hex "0001 55 6677 88")) (ConfigResponse 0 100 name (hex "000155") (hex "667788"))
    ∷ []

read : map (λ r. record_in r.bytes) rows ≡ map (λ r. r.wants) rows
unfolding computing row name rows
read = refl

-- other MessageIDs are no kind of these, whatever their low bits say
others : List String
others =
    "000D" ∷ "0010" ∷ "0082" ∷ "0084" ∷ "0086" ∷ "0088" ∷ "0089" ∷ "008B" ∷ "008C" ∷ "008F" ∷ "0102" ∷ "0104"
    ∷ "0106" ∷ "0108" ∷ "0109" ∷ "010B" ∷ "010C" ∷ "010F" ∷ "1002" ∷ "8002" ∷ []

read-others : map (λ x. record_in (hex "5200" ++ (hex x ++ hex "0000 0064 FFFF"))) others ≡ map (λ x. General 0 100) others
unfolding computing others
read-others = refl

-- "goes directly behind the last one": lengths as they are
one-behind : map records_in
    (hex "5200 0000 0001 0064 FFFF AA 5201 0000 0000 0067 FFFF" ∷ hex "5200 0000 1000 0064 FFFF 5201 0000 0000 0067 FFFF"
    ∷ hex "5200 0000 8000 0064 FFFF 5201 0000 0000 0067 FFFF" ∷ (hex "5200 0000 00F6 0064 FFFF" ++ replicate 246 0) ∷ [])
    ≡ (General 0 100 ∷ General 1 103 ∷ []) ∷ (General 0 100 ∷ []) ∷ (General 0 100 ∷ []) ∷ (General 0 100 ∷ []) ∷ []
unfolding computing
one-behind = refl

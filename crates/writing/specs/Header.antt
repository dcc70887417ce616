-- The part of a record that all writers share. Assumes nothing.
use Rattle.std.specs.Prelude.{List, ◌∷◌, ◌++◌, ℕ}
use Rattle.rules.specs.Bytes.{bytes}

-- what stands before `size` bytes of data: the mark, the connection, MessageID, MessageSize, Result, Result_Extension
-- (`framed-header` of proofs/Parts: the same bytes as `framed` of the rules has there)
unfoldable pub header_of : (conn id size result : ℕ) → List ℕ
header_of c id n r = 0x52 ∷ (bytes 1 c ++ (bytes 2 id ++ (bytes 2 n ++ (bytes 2 r ++ bytes 2 0xFFFF))))

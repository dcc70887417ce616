-- What C can hand in, by the types alone: whatever these hold can be lent, and no `Typed` stands here.
use Rattle.std.specs.Prelude.{◌≡◌, List, [], ◌∷◌, ℕ, ◌<◌, length}
use Rattle.rules.specs.Lists.{All}
use Rattle.rules.specs.Follows.Wires.{Byte}
use Rattle.door.specs.Door.{Input, an_open, a_close, a_message, a_tick, a_cue}

-- a uint32_t
pub record Word : Type 0 where
  pub value : ℕ
  pub low : value < 4294967296

-- so many uint8_t as a length says
pub record Slice : Type 0 where
  pub list : List ℕ
  pub bytes : All Byte list

-- 32 of them
pub record Name : Type 0 where
  pub list : List ℕ
  pub whole : length list ≡ 32
  pub bytes : All Byte list

-- of a cue: the four words that are lent with it
pub data Handed : Type 0 where
  to_open : (conn : Word) → Handed
  to_close : (conn : Word) (buffer : List ℕ) → Handed
  to_message : (conn : Word) (l primary insertion : Slice) (buffer : List ℕ) → Handed
  to_tick : (seconds micros : Word) (buffer : List ℕ) → Handed
  to_cue : (section : Slice) (high low seconds micros : Word) (buffer : List ℕ) → Handed

abbrev pub input_of : Handed → Input
input_of (to_open conn) = an_open conn.value
input_of (to_close conn e) = a_close conn.value e
input_of (to_message conn l pm im e) = a_message conn.value l.list pm.list im.list e
input_of (to_tick seconds micros e) = a_tick seconds.value micros.value e
input_of (to_cue l high low seconds micros e) = a_cue l.list (high.value ∷ low.value ∷ seconds.value ∷ micros.value ∷ []) e

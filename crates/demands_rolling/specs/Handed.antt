-- What C can hand in to the card with a rolling counter, by the types alone: what it can hand in to the door but for ticks, and in their
-- place an instant, which is three words, or a reading.
use Rattle.std.specs.Prelude.{List, [], ◌∷◌, ℕ}
use Rattle.demands_door.specs.Handed.{Word, Slice}
use Rattle.demands_door.specs.Handed as door
use Rattle.door_rolling.specs.RollDoor.{RollInput, a_known, an_instant, a_reading}

pub data Handed : Type 0 where
  to_open : (conn : Word) → Handed
  to_close : (conn : Word) (buffer : List ℕ) → Handed
  to_message : (conn : Word) (l primary insertion : Slice) (buffer : List ℕ) → Handed
  to_cue : (section : Slice) (high low seconds micros : Word) (buffer : List ℕ) → Handed
  to_instant : (seconds micros to_reading : Word) (buffer : List ℕ) → Handed
  to_reading : (x : Word) (buffer : List ℕ) → Handed

abbrev pub input_of : Handed → RollInput
input_of (to_open conn) = a_known (door.input_of (door.to_open conn))
input_of (to_close conn e) = a_known (door.input_of (door.to_close conn e))
input_of (to_message conn l pm im e) = a_known (door.input_of (door.to_message conn l pm im e))
input_of (to_cue l high low seconds micros e) = a_known (door.input_of (door.to_cue l high low seconds micros e))
input_of (to_instant seconds micros x e) = an_instant (seconds.value ∷ micros.value ∷ x.value ∷ []) e
input_of (to_reading x e) = a_reading x.value e

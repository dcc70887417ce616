-- 02, CR 6: the Hardware_Config of an Init_Request: where it stands, how long it may be. J.280, table 8-2.
use Rattle.std.specs.Prelude.{Bool, ◌||◌, List, ℕ, ◌+◌, ltb, length, drop}
use Rattle.rules.specs.Bytes.{part, field}

-- 02, CR 6: the structure that l begins with, with its Length 2, which counts what follows it; of Hardware_Config nothing else is looked at
abbrev pub length_in : List ℕ → ℕ
length_in l = field 0 2 l

abbrev pub structure_in : List ℕ → List ℕ
structure_in l = part 0 (2 + length_in l) l

-- where Hardware_Config begins
abbrev pub hardware_place : ℕ
hardware_place = 66

abbrev pub hardware_length : List ℕ → ℕ
hardware_length d = field hardware_place 2 d

abbrev pub hardware_in : List ℕ → List ℕ
hardware_in d = structure_in (drop hardware_place d)

-- "Keep Hardware_Config per connection, up to 256 bytes with its Length."
abbrev pub longest_hardware : ℕ
longest_hardware = 256

-- "for a Hardware_Config over 256 bytes or past the message's end": its Length field, or the bytes that this counts
abbrev pub bad_hardware : List ℕ → Bool
bad_hardware d =
    ltb (length d) (hardware_place + 2)
    || (ltb longest_hardware (2 + hardware_length d) || ltb (length d) (hardware_place + 2 + hardware_length d))

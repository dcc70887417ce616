-- 01, Bytes, "Descriptor": what makes one good; 02, CR 5: the mux priority that a message's descriptors give.
use Rattle.std.specs.Prelude.{Bool, true, false, cond, not, ◌&&◌, List, ℕ, zero, suc, ◌+◌, eqb, leb, length, get_or, drop}
use Rattle.rules.specs.Bytes.{field}
use Rattle.std.specs.declared.option.Option.{Option}
use Rattle.std.specs.declared.option.Option.TheVariants.{Some, None}

-- "Descriptor: tag 1, length 1, identifier 4, private bytes. Length counts what follows it, is 4 to 254, and the descriptors
-- fill the message exactly." n is at least the number of descriptors.
abbrev pub descriptor_length : List ℕ → ℕ
descriptor_length l = get_or l 1 0

abbrev pub descriptor_fits : List ℕ → Bool
descriptor_fits l = leb 4 (descriptor_length l) && (leb (descriptor_length l) 254 && leb (2 + descriptor_length l) (length l))

-- 02, CR 5: "For tag 0x02 under "SAPI" the length must be 5 and the value 1 to 10" (000, Table 8-11)
abbrev pub is_mux : List ℕ → Bool
is_mux l = eqb (get_or l 0 0) 0x02 && eqb (field 2 4 l) 0x53415049

abbrev pub mux_value : List ℕ → ℕ
mux_value l = get_or l 6 0

abbrev pub bad_mux : List ℕ → Bool
bad_mux l = not (eqb (descriptor_length l) 5 && (leb 1 (mux_value l) && leb (mux_value l) 10))

-- whether the first descriptor of l is good; of a foreign one its form alone
abbrev pub good_descriptor : List ℕ → Bool
good_descriptor l = descriptor_fits l && not (is_mux l && bad_mux l)

-- "without one the value is 5"
abbrev pub average_mux : ℕ
average_mux = 5

-- "the last one wins": the value is v before the first descriptor of l, and this behind it
abbrev pub mux_after : ℕ → List ℕ → ℕ
mux_after v l = cond (is_mux l) (mux_value l) v

unfoldable pub mux_from : ℕ → ℕ → List ℕ → Option ℕ
mux_from zero v l = cond (eqb (length l) 0) (Some v) None
mux_from (suc n) v l =
    cond (eqb (length l) 0) (Some v)
    (cond (good_descriptor l) (mux_from n (mux_after v l) (drop (2 + descriptor_length l) l)) None)

-- each takes at least six bytes, so there are fewer than bytes
abbrev pub mux_of : List ℕ → Option ℕ
mux_of l = mux_from (length l) average_mux l

abbrev pub is_bad : Option ℕ → Bool
is_bad (Some v) = false
is_bad None = true

-- of bad descriptors, with which nothing is read, as without one
abbrev pub mux_in : Option ℕ → ℕ
mux_in (Some v) = v
mux_in None = average_mux

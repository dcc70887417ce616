-- 02, CR 8: the sessions that ended lately, oldest dropped first.
use Rattle.std.specs.Prelude.{Bool, not, List, [], ◌∷◌, ℕ, zero, suc, ◌+◌, ◌-◌, ◌%◌, eqb, get_or, set, replicate}
use Rattle.rules.specs.declared.Past.{Past}
use Rattle.rules.specs.State.{Lately, Queue}

abbrev pub most_kept : ℕ
most_kept = 16

-- what stands where none is kept: "numbers 0"
abbrev pub unused : Past
unused = record { conn = 0; id = 0; event = 0; result = 0; played = 0 }

-- no end has the result 0
abbrev pub is_kept : Past → Bool
is_kept e = not (eqb e.result 0)

abbrev pub none_ended : Lately
none_ended = record { places = replicate most_kept unused; next = 0 }

-- no session is held, and none has ended
abbrev pub none_held : Queue
none_held = record { waiting = []; started = []; lately = none_ended }

-- one more has ended: "oldest dropped first"
unfoldable pub remembered : Past → Lately → Lately
remembered e l = record { places = set l.places l.next e; next = (l.next + 1) % most_kept }

-- one after the other
unfoldable pub remembered_all : List Past → Lately → Lately
remembered_all [] l = l
remembered_all (e ∷ es) l = remembered_all es (remembered e l)

-- "from the newest down": the one that ended i ends before the newest, i below 16
unfoldable pub recent_at : ℕ → Lately → Past
recent_at i l = get_or l.places ((l.next + (most_kept - 1 - i)) % most_kept) unused

unfoldable pub recent_from : (i n : ℕ) → Lately → List Past
recent_from i zero l = []
recent_from i (suc n) l = recent_at i l ∷ recent_from (suc i) n l

-- all sixteen, unused ones too
unfoldable pub recent : Lately → List Past
recent l = recent_from 0 most_kept l

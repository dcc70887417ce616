-- What the referee finds in a bench recording of any length. The rules are 02, CR 14's own: entries, the calls, what is due of each. It is
-- told in the order of the bytes: who is handed a recording piece by piece can not know of a mark that is still to come.
use Rattle.std.specs.Prelude.{ℕ, ◌+◌, ◌-◌, ◌%◌, ◌^◌, Bool, true, cond, List, [], ◌∷◌, ◌++◌, length, ◌==◌}
use Rattle.rules.specs.Calls.{fresh}
use Rattle.rules.specs.Card.{next}
use Rattle.recording.specs.Recording.{Item, made, wrote, cut, another, entries, Bench, called_by, taken, begins, is_nothing}

-- ## What is found

-- all is in order; a call whose records are not those due; an unknown mark; a cut last entry
abbrev pub in_order : ℕ
in_order = 0

abbrev pub a_call : ℕ
a_call = 1

abbrev pub a_mark : ℕ
a_mark = 2

abbrev pub a_cut : ℕ
a_cut = 3

-- numbers and places are counted modulo 2^64
abbrev pub counted : ℕ → ℕ
counted n = n % 2 ^ 64

-- what is known between two entries: the splicer, the number of the last call and what is still due of it; the place of its mark, and the
-- place of the next entry
pub record Stand : Type 0 where
  pub bench : Bench
  pub mark : ℕ
  pub at : ℕ

-- a card of this name, and no byte: "Records before any call are call 0's"
unfoldable pub begun : List ℕ → Stand
begun name = record { bench = record { splicer = (fresh name).splicer; number = 0; due = [] }; mark = 0; at = 0 }

-- what was found, and what was known there
pub record Found : Type 0 where
  pub kind : ℕ
  pub stand : Stand

abbrev pub numbered : Bench → Bench
numbered g = record { splicer = g.splicer; number = counted g.number; due = g.due }

-- behind the call c
unfoldable pub called_at : List ℕ → Stand → Stand
called_at c g = record { bench = numbered (called_by (next c) g.bench); mark = g.at; at = counted (g.at + length c) }

-- behind a record of n bytes
unfoldable pub taken_at : ℕ → Stand → Stand
taken_at n g = record { bench = taken n g.bench; mark = g.mark; at = counted (g.at + n) }

-- nothing may be due any more, at the next call, at an unknown mark and at the end: or it is the call
abbrev pub unless_due : Stand → Found → Found
unless_due g f = cond (is_nothing g.bench.due) f (record { kind = a_call; stand = g })

-- the first that is found. "A cut last record is dropped, and the last call before it then needs only the beginning of its due records":
-- there nothing is asked
unfoldable pub followed : Stand → List Item → Found
followed g [] = unless_due g (record { kind = in_order; stand = g })
followed g (made c ∷ es) = unless_due g (followed (called_at c g) es)
followed g (wrote w ∷ es) = cond (begins w g.bench.due) (followed (taken_at (length w) g) es) (record { kind = a_call; stand = g })
followed g (cut l ∷ es) = record { kind = a_cut; stand = g }
followed g (another l ∷ es) = unless_due g (record { kind = a_mark; stand = g })

-- of a whole recording of a card of this name
unfoldable pub refereed : List ℕ → List ℕ → Found
refereed name l = followed (begun name) (entries l)

-- ## How it is said

pub record Says : Type 0 where
  pub kind : ℕ
  pub number : ℕ
  pub place : ℕ
  pub good : ℕ

-- of a call its number, the place of its mark, and the calls before it; of all else the calls so far and the place of the entry
unfoldable pub said : ℕ → (number mark at : ℕ) → Says
said k number mark at =
    cond (k == a_call)
    (record { kind = k; number = number; place = mark; good = number - 1 })
    (record { kind = k; number = number; place = at; good = number })

abbrev pub said_of : Found → Says
said_of f = said f.kind f.stand.bench.number f.stand.mark f.stand.at

-- what no further bytes change
abbrev pub is_told : ℕ → Bool
is_told k = cond (k == a_call) true (k == a_mark)

-- the pieces one behind the other
abbrev pub joined : List (List ℕ) → List ℕ
joined [] = []
joined (p ∷ ps) = p ++ joined ps

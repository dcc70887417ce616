-- 02, CR 8: the driver's page. From the words in which what ended is kept, sixteen rows, the newest first; for any words.
use Rattle.std.specs.Prelude.{◌≡◌, cond, List, map, ℕ, zero, suc, ◌%◌, eqb, length, set}
use Rattle.rules.specs.declared.Past.{Past}
use Rattle.rules.specs.declared.Refusal.TheVariants.{NotSixteen}
use Rattle.rules.specs.State.{Lately}
use Rattle.rules.specs.Recent.{is_kept, recent}
use Rattle.rules.specs.HouseNumbers.{house_number}
use Rattle.memory.specs.Memory.{ended_in}
use Rattle.rows.specs.declared.Row.{Row}

-- "the last 16 ended sessions"
abbrev pub rows : ℕ
rows = 16

-- "unused rows marked empty, numbers 0"
abbrev pub unused_row : Row
unused_row = record { kept = 0; connection = 0; session = 0; event = 0; result = 0; played = 0 }

abbrev pub narrow : ℕ → ℕ
narrow n = n % 4294967296

-- a place whose result is 0 keeps nothing (rules' `is_kept`)
unfoldable pub row_in : Past → Row
row_in x =
    cond (eqb x.result 0) unused_row (record {
      kept = 1;
      connection = narrow x.conn;
      session = narrow x.id;
      event = narrow x.event;
      result = narrow x.result;
      played = narrow x.played;
    })

-- the row i, "filled from the newest down", of any words
abbrev pub row_at : List ℕ → ℕ → Row
row_at e i = row_in (ended_in e i)

-- "the caller lends sixteen rows and they are filled": of n rows, all of sixteen, of another number none
abbrev pub sixteen : ℕ → ℕ
sixteen n = cond (eqb n rows) rows 0

-- "house number 16 for other than sixteen rows": the number that n rows get, 0 if they are filled
unfoldable pub page_number : ℕ → ℕ
page_number n = cond (eqb n rows) 0 (house_number NotSixteen)

-- the first n rows are f's
unfoldable pub filled : ℕ → (ℕ → Row) → List Row → List Row
filled zero f l = l
filled (suc n) f l = set (filled n f l) n (f n)

-- what the page promises, of the kept words e and the rows lent: its number, and the rows after
pub record Pages (e : List ℕ) (lent : List Row) (r : ℕ) (after : List Row) : Type 0 where
  pub number : r ≡ page_number (length lent)
  pub rows : after ≡ filled (sixteen (length lent)) (row_at e) lent

-- ## The rows of a splicer

-- what is kept of an end, as a row
abbrev pub row_of : Past → Row
row_of e =
    cond (is_kept e)
    (record { kept = 1; connection = e.conn; session = e.id; event = e.event; result = e.result; played = e.played })
    unused_row

-- "filled from the newest down"
abbrev pub rows_of : Lately → List Row
rows_of l = map row_of (recent l)

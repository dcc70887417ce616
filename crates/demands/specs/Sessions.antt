-- What the rows of the sessions say, in the words of the calls and the answers' bytes.
use Rattle.std.specs.Prelude.{◌≡◌, Bool, true, false, not, ◌&&◌, List, [], ◌∷◌, ◌⊎◌, ℕ, zero, suc, ◌/◌, ◌%◌, ◌<◌, min, length, drop, get_or}
use Rattle.rules.specs.Lists.{All, count}
use Rattle.rules.specs.State.{same_number}
use Rattle.rules.specs.Listing.{state_on_air, state_covered, state_waiting, row_width}
use Rattle.demands.specs.History.{Event, book, mux_told, event_told, prior_told, overrides_told}
use Rattle.demands.specs.Airing.{Airing, newest, airings_told, number_told}

-- ## A row as C reads it

pub record HeldRow : Type 0 where
  pub start : ℕ
  pub end : ℕ
  pub played : ℕ
  pub conn : ℕ
  pub id : ℕ
  pub event : ℕ
  pub prior : ℕ
  pub access : ℕ
  pub overrides : ℕ
  pub mux : ℕ
  pub state : ℕ

-- the halves of a word
abbrev pub low : ℕ → ℕ
low n = n % 4294967296

abbrev pub high : ℕ → ℕ
high n = n / 4294967296

-- the first seven of the words
abbrev pub row_in : List ℕ → HeldRow
row_in w =
    record {
      start = get_or w 0 0;
      end = get_or w 1 0;
      played = get_or w 2 0;
      conn = low (get_or w 3 0);
      id = high (get_or w 3 0);
      event = low (get_or w 4 0);
      prior = high (get_or w 4 0);
      access = low (get_or w 5 0);
      overrides = high (get_or w 5 0);
      mux = low (get_or w 6 0);
      state = high (get_or w 6 0);
    }

unfoldable pub rows_in : ℕ → List ℕ → List HeldRow
rows_in zero w = []
rows_in (suc n) w = row_in w ∷ rows_in n (drop row_width w)

-- the rows that a read has filled, of as many as `lent` has room for, if n are held
abbrev pub rows_read : (n : ℕ) (lent after : List ℕ) → List HeldRow
rows_read n lent after = rows_in (min n (length lent / row_width)) after

-- ## "exactly the accepted ones without an end, each with what was asked of it"

-- a row is of the session that its connection last accepted under its SessionID: it has had no end, and what the row says of it is what its
-- Splice_Request asked; its time on air is what the history tells (02, CR 13); it waits exactly if its start was not written
pub record RowTold (h : List Event) (r : HeldRow) : Type 0 where
  pub unended : (newest r.conn r.id (airings_told h)).over ≡ false
  pub start : r.start ≡ (newest r.conn r.id (airings_told h)).start
  pub end : r.end ≡ (newest r.conn r.id (airings_told h)).end
  pub access : r.access ≡ (newest r.conn r.id (airings_told h)).access
  pub played : r.played ≡ number_told h r.conn r.id
  pub event : r.event ≡ event_told r.conn r.id (book h [])
  pub prior : r.prior ≡ prior_told r.conn r.id (book h [])
  pub overrides : r.overrides ≡ overrides_told r.conn r.id (book h [])
  pub mux : r.mux ≡ mux_told r.conn r.id (book h [])
  pub waits : (newest r.conn r.id (airings_told h)).begun ≡ false → r.state ≡ state_waiting
  pub began : (newest r.conn r.id (airings_told h)).begun ≡ true → (r.state ≡ state_on_air) ⊎ (r.state ≡ state_covered)

-- the row is of connection c's number x
abbrev pub row_is : ℕ → ℕ → HeldRow → Bool
row_is c x r = same_number c x r.conn r.id

-- an accepted session of connection c's number x that has had no end
abbrev pub open_as : ℕ → ℕ → Airing → Bool
open_as c x a = not a.over && same_number c x a.conn a.id

-- n: how many are held; with rows for all, of each number there are as many as were accepted and have had no end
pub record SessionsTold (h : List Event) (n : ℕ) (rows : List HeldRow) : Type 0 where
  pub number : n ≡ count (λ a. not a.over) (airings_told h)
  pub each : All (RowTold h) rows
  pub exactly : length rows ≡ n → (c x : ℕ) → count (row_is c x) rows ≡ count (open_as c x) (airings_told h)

-- ## "the started from the highest AccessType down, then the waiting in order of start"

-- u may stand behind r: it is not on air; if it is covered its AccessType is lower; behind one that waits it waits and starts later
pub record Behind (r u : HeldRow) : Type 0 where
  pub under : u.state ≡ state_on_air → ⊥
  pub falls : u.state ≡ state_covered → u.access < r.access
  pub rises : r.state ≡ state_waiting → (u.state ≡ state_waiting) × (r.start < u.start)

abbrev pub Ranked : List HeldRow → Type 0
Ranked [] = Unit {0}
Ranked (r ∷ rs) = All (Behind r) rs × Ranked rs

-- with one covered, one is on air
abbrev pub Led : List HeldRow → Type 0
Led [] = Unit {0}
Led (r ∷ rs) = r.state ≡ state_covered → ⊥

pub record InOrder (rows : List HeldRow) : Type 0 where
  pub led : Led rows
  pub ranked : Ranked rows

-- The sessions that lent words hold, what is asked of the words, and what a search looks for.
use Rattle.std.specs.Prelude.{◌≡◌, List, [], ◌∷◌, ◌++◌, Bool, not, ℕ, zero, suc, ◌+◌, ◌-◌, ◌*◌, ◌/◌, ◌%◌, ◌≤◌, ◌<◌, eqb, leb, ltb, length}
use Rattle.std.specs.Prelude.{take, drop, set, get_or, replicate}
use Rattle.rules.specs.declared.Session.{Session}
use Rattle.rules.specs.Lists.{some, omit, place}
use Rattle.rules.specs.State.{empty, is, follows, starts_at}
use Rattle.places.specs.declared.Key.{Key}
use Rattle.places.specs.declared.Key.TheVariants.{Held, Follows}

-- the words of a place
abbrev pub width : ℕ
width = 8

-- how many places lent words have
abbrev pub capacity : List ℕ → ℕ
capacity q = length q / width

-- the session whose word k is f k
abbrev pub session_of : (ℕ → ℕ) → Session
session_of f =
    record {
      conn = f 0;
      id = f 1;
      prior = f 2;
      start = record { 0 = f 3 };
      end = record { 0 = f 4 };
      access = f 5;
      overrides = f 6 % 2;
      mux = f 6 / 2 % 128;
      event = f 6 / 256;
      played = record { 0 = f 7 };
    }

-- OverridePlaying, what is asked of the multiplexer (02, CR 5) and the SpliceEventID (02, CR 8) share a word
abbrev pub asked_word : Session → ℕ
asked_word s = s.overrides + 2 * s.mux + 256 * s.event

-- so they are given back; every session that a request asks for is such a one
pub record Narrow (s : Session) : Type 0 where
  pub overrides : s.overrides ≤ 1
  pub mux : s.mux < 128
  pub asked : asked_word s < 18446744073709551616

-- the words of a session, in the same order; the time on air is the last
abbrev pub words_of : Session → List ℕ
words_of s = s.conn ∷ s.id ∷ s.prior ∷ s.start.0 ∷ s.end.0 ∷ s.access ∷ asked_word s ∷ s.played.0 ∷ []

-- the session in the first words
abbrev pub row : List ℕ → Session
row q = session_of (λ k. get_or q k 0)

-- b is the first word of a place of the words q
abbrev pub Row : (b : ℕ) (q : List ℕ) → Type 0
Row b q = (b % width ≡ 0) × (b / width < capacity q)

-- n sessions, one behind the other
unfoldable pub rows : ℕ → List ℕ → List Session
rows zero q = []
rows (suc n) q = row q ∷ rows n (drop width q)

-- the places of lent words
abbrev pub places : List ℕ → List Session
places q = rows (capacity q) q

-- the words behind the last whole place: none, where whole places are lent
abbrev pub spare : List ℕ → List ℕ
spare q = drop (capacity q * width) q

-- the words of places that are all empty
abbrev pub zeros : ℕ → List ℕ
zeros n = replicate n 0

-- what a ring of places goes round at
abbrev pub round : ℕ
round = 64

-- the places from e on, and round the end
unfoldable pub turned : ℕ → List Session → List Session
turned e l = drop e l ++ take e l

-- k places that end before the place e: all that a ring has, or no more than those from its place 0 on
abbrev pub Ring : (k e : ℕ) → Type 0
Ring k zero = k ≤ round
Ring k (suc e) = (k ≡ round) × (suc e < round)

-- the next place
abbrev pub next : ℕ → ℕ
next e = (e + 1) % round

-- places, and how many of them are used
pub record Lot : Type 0 where
  pub items : List Session
  pub len : ℕ

-- of the words q: the ring's end is e, and n places are used
abbrev pub lot : List ℕ → ℕ → ℕ → Lot
lot q e n = record { items = turned e (places q); len = n }

-- the places that stand free, before the used ones: so the first session goes and no other moves
abbrev pub free : Lot → ℕ
free l = length l.items - l.len

-- the sessions that stand there, in their order
abbrev pub used : Lot → List Session
used l = drop (free l) l.items

-- the session `from` in place of the session `to` too
abbrev pub moved : ℕ → ℕ → List Session → List Session
moved from to u = set u to (get_or u from empty)

-- what `cleared` gives and each function keeps: the free places are empty
pub record Good (l : Lot) : Type 0 where
  pub fits : l.len ≤ length l.items
  pub clear : take (free l) l.items ≡ replicate (free l) empty

-- what a function makes of the words p: n places of the words o, up to the ring's end e, hold u, and the spare words are as they were
pub record Made (p o : List ℕ) (e n : ℕ) (u : List Session) : Type 0 where
  pub good : Good (lot o e n)
  pub list : used (lot o e n) ≡ u
  pub rest : spare o ≡ spare p

-- s starts at t or later
abbrev pub starts_from : ℕ → Session → Bool
starts_from t s = leb t s.start.0

-- the test of each key
abbrev pub key_test : Key → Session → Bool
key_test (Held c x) = is c x
key_test (Follows c x) = follows c x

-- of l in order of start, each with its flag in f: that of s is 1
abbrev pub flagged : List ℕ → List Session → Session → Bool
flagged f l s = eqb 1 (get_or f (place (starts_at s.start.0) l) 0)

abbrev pub unflagged : List ℕ → List Session → List Session
unflagged f l = omit (flagged f l) l

-- none from the place i on
pub record Unflagged (f : List ℕ) (i : ℕ) (l : List Session) : Type 0 where
  pub within : i ≤ length l
  pub all : drop i l ≡ omit (flagged f l) (drop i l)

-- nothing of l ends before s
abbrev pub ends_first : List Session → Session → Bool
ends_first l s = not (some (λ x. ltb x.end.0 s.end.0) l)

-- the place of the session that ends first; of several that end together the first
unfoldable pub least_end : List Session → ℕ
least_end l = place (ends_first l) l

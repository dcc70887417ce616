-- Where what stands in the lent words and bytes, what they show, and what is asked of them.
use Rattle.std.specs.Prelude.{◌≡◌, Bool, cond, List, [], ◌∷◌, ◌++◌, map, ℕ, zero, suc, ◌+◌, ◌-◌, ◌*◌, ◌%◌, ◌≤◌, ◌<◌, eqb, ltb, length, drop}
use Rattle.std.specs.Prelude.{set, get_or, replicate}
use Rattle.rules.specs.declared.Session.{Session}
use Rattle.rules.specs.declared.Past.{Past}
use Rattle.rules.specs.declared.Link.{Link}
use Rattle.rules.specs.declared.Link.TheVariants.{Closed, Opened, Initialised}
use Rattle.rules.specs.Lists.{All}
use Rattle.rules.specs.Bytes.{part, name_in, padded}
use Rattle.rules.specs.Hardware.{longest_hardware, length_in, structure_in}
use Rattle.rules.specs.Splicing.{waits}
use Rattle.rules.specs.State.{Lately, Queue, Splicer, no_hardware, with_waiting, with_started, with_lately}
use Rattle.rules.specs.Recent.{most_kept, remembered, none_held}
use Rattle.rules.specs.Recent.{unused}
use Rattle.places.specs.Places.{Narrow, Lot, lot, Good, used, width, places, turned, round, next}
use Rattle.memory.specs.declared.Which.{Which}
use Rattle.memory.specs.declared.Which.TheVariants.{Waiting, Started}

-- ## Where what stands in the words: the clock, how many wait, how many have started, where the ring of those that wait ends, the primary
-- sum, how many of those that wait are each connection's, a word for each connection, the places, what ended lately

abbrev pub clock_word : ℕ
clock_word = 0

-- how many there are
abbrev pub slot_of : Which → ℕ
slot_of Waiting = 1
slot_of Started = 2

-- the place behind the last of those that wait, "where the ring ends"
abbrev pub ring_word : ℕ
ring_word = 3

-- 02, CR 13: "a primary sum"
abbrev pub primary_word : ℕ
primary_word = 4

abbrev pub connections : ℕ
connections = 4

-- how many of those that wait are each connection's
abbrev pub first_count : ℕ
first_count = 5

abbrev pub first_link : ℕ
first_link = first_count + connections

abbrev pub places_of : Which → ℕ
places_of Waiting = round
places_of Started = 10

-- the first word of the places, and the word behind their last
abbrev pub first_place : ℕ
first_place = first_link + connections

abbrev pub from_of : Which → ℕ
from_of Waiting = first_place
from_of Started = first_place + places_of Waiting * width

abbrev pub to_of : Which → ℕ
to_of Waiting = from_of Waiting + places_of Waiting * width
to_of Started = from_of Started + places_of Started * width

abbrev pub span_of : Which → ℕ
span_of v = to_of v - from_of v

-- 02, CR 8: behind the places, sixteen times the words of one that ended, and then which of the sixteen is written next
abbrev pub past_width : ℕ
past_width = 5

abbrev pub first_past : ℕ
first_past = to_of Started

abbrev pub past_words : ℕ
past_words = most_kept * past_width

abbrev pub next_word : ℕ
next_word = first_past + past_words

abbrev pub late_size : ℕ
late_size = past_words + 1

abbrev pub words : ℕ
words = first_past + late_size

-- a connection's word
abbrev pub word_of : Link → ℕ
word_of Closed = 0
word_of Opened = 1
word_of Initialised = 2

abbrev pub link_in : ℕ → Link
link_in n = cond (eqb n (word_of Closed)) Closed (cond (eqb n (word_of Opened)) Opened Initialised)

abbrev pub IsLink : ℕ → Type 0
IsLink n = n ≤ word_of Initialised

-- the connections' words
abbrev pub links_of : List ℕ → List ℕ
links_of m = part first_link connections m

-- the connections' counts
abbrev pub counts_of : List ℕ → List ℕ
counts_of m = part first_count connections m

-- where the places of a list end: the started never come round
abbrev pub ring_of : Which → List ℕ → ℕ
ring_of Waiting m = get_or m ring_word 0
ring_of Started m = 0

-- the places of a list, and how many are used
abbrev pub lot_of : Which → List ℕ → Lot
lot_of v m = lot (part (from_of v) (span_of v) m) (ring_of v m) (get_or m (slot_of v) 0)

-- the places of those that wait from the place e on, round the ring, used or free
abbrev pub places_from : ℕ → List ℕ → List Session
places_from e m = turned e (places (part (from_of Waiting) (span_of Waiting) m))

-- ## 02, CR 8: what ended lately

abbrev pub late_of : List ℕ → List ℕ
late_of m = part first_past late_size m

-- the one whose word k is f k
abbrev pub past_of : (ℕ → ℕ) → Past
past_of f = record { conn = f 0; id = f 1; event = f 2; result = f 3; played = f 4 }

-- n of them, one behind the other
unfoldable pub pasts : ℕ → List ℕ → List Past
pasts zero q = []
pasts (suc n) q = past_of (λ k. get_or q k 0) ∷ pasts n (drop past_width q)

abbrev pub next_in : List ℕ → ℕ
next_in q = get_or q past_words 0

abbrev pub lately_in : List ℕ → Lately
lately_in q = record { places = pasts most_kept q; next = next_in q }

-- the one whose words stand from the word b on
abbrev pub past_from : List ℕ → ℕ → Past
past_from q b =
    record {
      conn = get_or q b 0;
      id = get_or q (b + 1) 0;
      event = get_or q (b + 2) 0;
      result = get_or q (b + 3) 0;
      played = get_or q
          (b + 4) 0;
    }

-- of any words: the one that ended i ends before the newest, "filled from the newest down"; fewer words keep nothing
unfoldable pub ended_in : List ℕ → ℕ → Past
ended_in q i =
    cond (ltb (length q) late_size) unused (past_from q ((next_in q % most_kept + (most_kept - 1 - i)) % most_kept * past_width))

-- ## What the words show

pub record Memory : Type 0 where
  pub clock : ℕ
  pub primary : ℕ
  pub links : List Link
  pub queue : Queue
  pub ring_end : ℕ

abbrev pub sessions : Which → List ℕ → List Session
sessions v m = used (lot_of v m)

abbrev pub see : List ℕ → Memory
see m =
    record {
      clock = get_or m clock_word 0;
      primary = get_or m primary_word 0;
      links = map link_in (links_of m);
      queue = record { waiting = sessions Waiting m; started = sessions Started m; lately = lately_in (late_of m) };
      ring_end = ring_of Waiting m;
    }

-- each connection is one of four
abbrev pub OfFour : Session → Type 0
OfFour s = s.conn ≤ 3

-- what is asked of a session that is to wait: its connection is one of four, and it is as narrow as its words
pub record Storable (x : Session) : Type 0 where
  pub of_four : OfFour x
  pub narrow : Narrow x

-- 02, CR 2: how many are each connection's
unfoldable pub tallied : List Session → List ℕ
tallied l = waits 0 l ∷ waits 1 l ∷ waits 2 l ∷ waits 3 l ∷ []

-- the free places are empty, in each list; "the stored number" of each connection is that of its sessions that wait
pub record Form (m : List ℕ) : Type 0 where
  pub whole : length m ≡ words
  pub waiting : Good (lot_of Waiting m)
  pub started : Good (lot_of Started m)
  pub ring : ring_of Waiting m < places_of Waiting
  pub links : All IsLink (links_of m)
  pub late : next_in (late_of m) < most_kept
  pub of_four : All OfFour (sessions Waiting m)
  pub counts : counts_of m ≡ tallied (sessions Waiting m)

-- the words show just that
pub record Now (m : List ℕ) (s : Memory) : Type 0 where
  pub form : Form m
  pub is : see m ≡ s

-- ## With one part made anew

abbrev pub timed : ℕ → Memory → Memory
timed t s = record { clock = t; primary = s.primary; links = s.links; queue = s.queue; ring_end = s.ring_end }

abbrev pub linked : ℕ → Link → Memory → Memory
linked c l s = record { clock = s.clock; primary = s.primary; links = set s.links c l; queue = s.queue; ring_end = s.ring_end }

abbrev pub queued : Queue → Memory → Memory
queued q s = record { clock = s.clock; primary = s.primary; links = s.links; queue = q; ring_end = s.ring_end }

-- d ninths more were the primary channel's
abbrev pub silenced : ℕ → Memory → Memory
silenced d s = record { clock = s.clock; primary = s.primary + d; links = s.links; queue = s.queue; ring_end = s.ring_end }

abbrev pub list_of : Which → Queue → List Session
list_of Waiting q = q.waiting
list_of Started q = q.started

abbrev pub listed : Which → List Session → Queue → Queue
listed Waiting l q = with_waiting l q
listed Started l q = with_started l q

abbrev pub relisted : Which → List Session → Memory → Memory
relisted v l s = queued (listed v l s.queue) s

-- 02, CR 11: an acceptance takes the place where the ring ends, and the ring then ends one on; nothing else moves that
abbrev pub shifted : Bool → ℕ → ℕ
shifted a e = cond a (next e) e

abbrev pub onward : Bool → Memory → Memory
onward a s =
    record { clock = s.clock; primary = s.primary; links = s.links; queue = s.queue; ring_end = shifted a s.ring_end }

-- one more has ended
abbrev pub recalling : Past → Memory → Memory
recalling e s = queued (with_lately (remembered e s.queue.lately) s.queue) s

-- clock 0 and no time before it, all connections closed, no session, none that ended, the ring at its place 0
abbrev pub nothing_shown : Memory
nothing_shown =
    record { clock = 0; primary = 0; links = replicate connections Closed; queue = none_held; ring_end = 0 }

-- ## The bytes: the ChannelName, with zeros behind its end; 02, CR 6: and of each connection the Hardware_Config that it keeps, with zeros
-- behind its end

abbrev pub name_size : ℕ
name_size = 32

-- the first byte of connection c's, and the byte behind the last of all
abbrev pub kept_from : ℕ → ℕ
kept_from c = name_size + c * longest_hardware

abbrev pub bytes : ℕ
bytes = kept_from connections

abbrev pub name_bytes : List ℕ → List ℕ
name_bytes b = part 0 name_size b

abbrev pub name_of : List ℕ → List ℕ
name_of b = name_in (name_bytes b)

abbrev pub kept_bytes : ℕ → List ℕ → List ℕ
kept_bytes c b = part (kept_from c) longest_hardware b

abbrev pub kept_of : List ℕ → List (List ℕ)
kept_of b = map (λ c. structure_in (kept_bytes c b)) (0 ∷ 1 ∷ 2 ∷ 3 ∷ [])

-- a structure in a connection's bytes
abbrev pub spread : List ℕ → List ℕ
spread h = h ++ replicate (longest_hardware - length h) 0

pub record Spread (x : List ℕ) : Type 0 where
  pub fits : 2 + length_in x ≤ longest_hardware
  pub zeros : x ≡ spread (structure_in x)

pub record Stored (b : List ℕ) : Type 0 where
  pub whole : length b ≡ bytes
  pub name : name_bytes b ≡ padded (name_of b)
  pub kept : (c : ℕ) → c ≤ 3 → Spread (kept_bytes c b)

-- the bytes hold just that name and those structures
pub record Holds (b x : List ℕ) (l : List (List ℕ)) : Type 0 where
  pub stored : Stored b
  pub name : name_of b ≡ x
  pub kept : kept_of b ≡ l

-- that name, and nothing is kept
abbrev pub Named : (b name : List ℕ) → Type 0
Named b name = Holds b name (replicate connections no_hardware)

-- ## Both

pub record Whole (m b : List ℕ) : Type 0 where
  pub words : Form m
  pub bytes : Stored b

abbrev pub shown : List ℕ → List ℕ → Splicer
shown m b =
    record {
      name = name_of b;
      clock = (see m).clock;
      primary = (see m).primary;
      links = (see m).links;
      hardware = kept_of b;
      queue = (see m).queue;
    }

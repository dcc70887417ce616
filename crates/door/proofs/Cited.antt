-- The contracts in src/lib.rt, as the toolchain reads them, are what specs/Door says of the calls. Each by computing: whoever edits one
-- side alone is refused here. a: what a call is handed, z: what the lent memory is at its end.
use mathlib.Core.Path.{◌≡◌, refl}
use mathlib.Core.List.{List, []}
use Prim.Native.Nat.{ℕ}
use lib.ListN.{length}
use base.Logic.{SProp}
use seplogic.Ra.Ura.{Ura}
use types.Logic.{Logic}
use prog.Memory as store
use prog.Routine.{Routine}
use contract.Lifetimes.{Lfts}
use contract.Monad.{Fun}
use contract.Notation.{Connectives, connectives}
use denote.Ref.{Bor}
use denote.Triple.Clauses.{AtExit}
use denote.Triple.Entry.{Args, Res}
use Rattle.rules.specs.Lists.{All}
use Rattle.rules.specs.Follows.Wires.{Byte}
use Rattle.rules.specs.Calls as rules
use Rattle.rules.specs.Calls.{call}
use Rattle.engine.specs.Lent.{Lent, Counts, Primary, ReadsMux, ReadsFeed, ReadsAir, ReadsDue, ReadsSessions}
use Rattle.streams.specs.Rows.{ReadsList, WritesList}
use Rattle.rows.specs.Rows.{Pages}
use Rattle.engine.proofs.Held.{kind, Holds, Same, both, number-held, words-held, name-held, InRoom, bytes-held}
use Rattle.door.specs.Door.{Replies, an_open, a_close, a_message, a_tick, a_cue, Typed, Seen, Allowed, version}
use Rattle.door.specs.contracts.splicer_7_fresh as fresh
use Rattle.door.specs.contracts.splicer_7_open as opening
use Rattle.door.specs.contracts.splicer_7_close as close
use Rattle.door.specs.contracts.splicer_7_message as message
use Rattle.door.specs.contracts.splicer_7_tick as tick
use Rattle.door.specs.contracts.splicer_7_cue as cue
use Rattle.door.specs.contracts.splicer_7_waiting as waiting
use Rattle.door.specs.contracts.splicer_7_primary as primary
use Rattle.door.specs.contracts.splicer_7_mux as mux
use Rattle.door.specs.contracts.splicer_7_ended as page
use Rattle.door.specs.contracts.splicer_7_map as mapping
use Rattle.door.specs.contracts.splicer_7_air as airing
use Rattle.door.specs.contracts.splicer_7_due as dueing
use Rattle.door.specs.contracts.splicer_7_sessions as listing
use Rattle.door.specs.contracts.splicer_7_read_streams as reads
use Rattle.door.specs.contracts.splicer_7_write_streams as writes
use Rattle.door.specs.contracts.splicer_7_version as versioned

-- what C sees
abbrev ended : (r m b o : List ℕ) → Seen
ended r m b o = record { reply = r; words = m; bytes = b; buffer = o }

module _ {M : Type 1} {𝓤 : Ura M} (𝓛 : Logic 𝓤) (mem : store.Memory → SProp 𝓤) (run : Routine → Fun 𝓤) where
  abbrev 𝓝 : Connectives 𝓤
  𝓝 = connectives 𝓤

  open 𝓝 use {⌜◌⌝, ⊤ₛ}

  -- splicer_7_fresh(name, words, bytes, reply)
  module _ (κs : Lfts 4) (a : Args fresh.signature κs) (r : Res fresh.signature κs) (z : AtExit fresh.ended κs) where
    pub fresh-requires : (fresh.clauses 𝓛 mem run κs a).requires tt ≡ ⊤ₛ
    fresh-requires = refl

    pub fresh-ensures : (fresh.clauses 𝓛 mem run κs a).ensures tt r z
        ≡ ⌜ Replies (rules.fresh a.0.now) 0 [] z.1.1.1.0.now z.1.0.now z.1.1.0.now [] ⌝
    fresh-ensures = refl

  -- splicer_7_open(words, bytes, conn, reply)
  module _ (κs : Lfts 3) (a : Args opening.signature κs) (r : Res opening.signature κs) (z : AtExit opening.ended κs) where
    pub open-requires : (opening.clauses 𝓛 mem run κs a).requires tt ≡ ⌜ Lent a.0.now a.1.0.now ⌝
    open-requires = refl

    pub open-ensures : (opening.clauses 𝓛 mem run κs a).ensures tt r z
        ≡ ⌜ Allowed a.0.now a.1.0.now (an_open a.1.1.0)
        (ended z.1.1.1.0.now z.0.now z.1.0.now []) ⌝
    unfolding call
    open-ensures = refl

  -- splicer_7_close(words, bytes, conn, out, reply)
  module _ (κs : Lfts 4) (a : Args close.signature κs) (r : Res close.signature κs) (z : AtExit close.ended κs) where
    pub close-requires : (close.clauses 𝓛 mem run κs a).requires tt ≡ ⌜ Lent a.0.now a.1.0.now ⌝
    close-requires = refl

    pub close-ensures : (close.clauses 𝓛 mem run κs a).ensures tt r z
        ≡ ⌜ Allowed a.0.now a.1.0.now (a_close a.1.1.0 a.1.1.1.0.now)
        (ended z.1.1.1.1.0.now z.0.now z.1.0.now z.1.1.1.0.now) ⌝
    unfolding call
    close-ensures = refl

  -- splicer_7_message(words, bytes, conn, l, primary, insertion, out, reply)
  module _ (κs : Lfts 6) (a : Args message.signature κs) (r : Res message.signature κs) (z : AtExit message.ended κs) where
    pub message-requires : (message.clauses 𝓛 mem run κs a).requires tt ≡ ⌜ Lent a.0.now a.1.0.now ⌝
    message-requires = refl

    pub message-ensures : (message.clauses 𝓛 mem run κs a).ensures tt r z
        ≡ ⌜ Allowed a.0.now a.1.0.now (a_message a.1.1.0 a.1.1.1.0.now a.1.1.1.1.0.now
        a.1.1.1.1.1.0.now a.1.1.1.1.1.1.0.now)
        (ended z.1.1.1.1.1.1.1.0.now z.0.now z.1.0.now z.1.1.1.1.1.1.0.now) ⌝
    unfolding call
    message-ensures = refl

  -- splicer_7_tick(words, bytes, seconds, micros, out, reply)
  module _ (κs : Lfts 4) (a : Args tick.signature κs) (r : Res tick.signature κs) (z : AtExit tick.ended κs) where
    pub tick-requires : (tick.clauses 𝓛 mem run κs a).requires tt ≡ ⌜ Lent a.0.now a.1.0.now ⌝
    tick-requires = refl

    pub tick-ensures : (tick.clauses 𝓛 mem run κs a).ensures tt r z
        ≡ ⌜ Allowed a.0.now a.1.0.now (a_tick a.1.1.0 a.1.1.1.0 a.1.1.1.1.0.now)
        (ended z.1.1.1.1.1.0.now z.0.now z.1.0.now z.1.1.1.1.0.now) ⌝
    unfolding call
    tick-ensures = refl

  -- splicer_7_cue(words, bytes, section, given, out, reply): the words and the bytes are only read
  module _ (κs : Lfts 6) (a : Args cue.signature κs) (r : Res cue.signature κs) (z : AtExit cue.ended κs) where
    pub cue-requires : (cue.clauses 𝓛 mem run κs a).requires tt ≡ ⌜ Lent a.0.now a.1.0.now ⌝
    cue-requires = refl

    pub cue-ensures : (cue.clauses 𝓛 mem run κs a).ensures tt r z
        ≡ ⌜ Allowed a.0.now a.1.0.now (a_cue a.1.1.0.now a.1.1.1.0.now a.1.1.1.1.0.now)
        (ended z.1.1.1.1.1.0.now a.0.now a.1.0.now z.1.1.1.1.0.now) ⌝
    unfolding call
    cue-ensures = refl

  -- splicer_7_waiting(words, bytes, counts)
  module _ (κs : Lfts 3) (a : Args waiting.signature κs) (r : Res waiting.signature κs) (z : AtExit waiting.ended κs) where
    pub waiting-requires : (waiting.clauses 𝓛 mem run κs a).requires tt ≡ ⌜ Lent a.0.now a.1.0.now ⌝
    waiting-requires = refl

    pub waiting-ensures : (waiting.clauses 𝓛 mem run κs a).ensures tt r z
        ≡ ⌜ Counts a.0.now a.1.0.now z.1.1.0.now ⌝
    waiting-ensures = refl

  -- splicer_7_primary(words, bytes)
  module _ (κs : Lfts 2) (a : Args primary.signature κs) (r : Res primary.signature κs) (z : AtExit primary.ended κs) where
    pub primary-requires : (primary.clauses 𝓛 mem run κs a).requires tt ≡ ⌜ Lent a.0.now a.1.0.now ⌝
    primary-requires = refl

    pub primary-ensures : (primary.clauses 𝓛 mem run κs a).ensures tt r z ≡ ⌜ Primary a.0.now a.1.0.now r ⌝
    primary-ensures = refl

  -- splicer_7_mux(words, bytes)
  module _ (κs : Lfts 2) (a : Args mux.signature κs) (r : Res mux.signature κs) (z : AtExit mux.ended κs) where
    pub mux-requires : (mux.clauses 𝓛 mem run κs a).requires tt ≡ ⌜ Lent a.0.now a.1.0.now ⌝
    mux-requires = refl

    pub mux-ensures : (mux.clauses 𝓛 mem run κs a).ensures tt r z ≡ ⌜ ReadsMux a.0.now a.1.0.now r ⌝
    mux-ensures = refl

  -- splicer_7_ended(ended, page)
  module _ (κs : Lfts 2) (a : Args page.signature κs) (r : Res page.signature κs) (z : AtExit page.ended κs) where
    pub page-requires : (page.clauses 𝓛 mem run κs a).requires tt ≡ ⊤ₛ
    page-requires = refl

    pub page-ensures : (page.clauses 𝓛 mem run κs a).ensures tt r z ≡ ⌜ Pages a.0.now a.1.0.now r z.1.0.now ⌝
    page-ensures = refl

  -- splicer_7_map(words, bytes)
  module _ (κs : Lfts 2) (a : Args mapping.signature κs) (r : Res mapping.signature κs) (z : AtExit mapping.ended κs) where
    pub mapping-requires : (mapping.clauses 𝓛 mem run κs a).requires tt ≡ ⌜ Lent a.0.now a.1.0.now ⌝
    mapping-requires = refl

    pub mapping-ensures : (mapping.clauses 𝓛 mem run κs a).ensures tt r z ≡ ⌜ ReadsFeed a.0.now a.1.0.now r ⌝
    mapping-ensures = refl

  -- splicer_7_air(words, bytes, air)
  module _ (κs : Lfts 3) (a : Args airing.signature κs) (r : Res airing.signature κs) (z : AtExit airing.ended κs) where
    pub air-requires : (airing.clauses 𝓛 mem run κs a).requires tt ≡ ⌜ Lent a.0.now a.1.0.now ⌝
    air-requires = refl

    pub air-ensures : (airing.clauses 𝓛 mem run κs a).ensures tt r z
        ≡ ⌜ ReadsAir a.0.now a.1.0.now z.1.1.0.now ⌝
    air-ensures = refl

  -- splicer_7_due(words, bytes, due)
  module _ (κs : Lfts 3) (a : Args dueing.signature κs) (r : Res dueing.signature κs) (z : AtExit dueing.ended κs) where
    pub due-requires : (dueing.clauses 𝓛 mem run κs a).requires tt ≡ ⌜ Lent a.0.now a.1.0.now ⌝
    due-requires = refl

    pub due-ensures : (dueing.clauses 𝓛 mem run κs a).ensures tt r z
        ≡ ⌜ ReadsDue a.0.now a.1.0.now z.1.1.0.now ⌝
    due-ensures = refl

  -- splicer_7_sessions(words, bytes, rows): the words and the bytes are only read
  module _ (κs : Lfts 3) (a : Args listing.signature κs) (r : Res listing.signature κs) (z : AtExit listing.ended κs) where
    pub sessions-requires : (listing.clauses 𝓛 mem run κs a).requires tt ≡ ⌜ Lent a.0.now a.1.0.now ⌝
    sessions-requires = refl

    pub sessions-ensures : (listing.clauses 𝓛 mem run κs a).ensures tt r z
        ≡ ⌜ ReadsSessions a.0.now a.1.0.now a.1.1.0.now r z.1.1.0.now ⌝
    sessions-ensures = refl

  -- splicer_7_read_streams(l, words, kept)
  module _ (κs : Lfts 3) (a : Args reads.signature κs) (r : Res reads.signature κs) (z : AtExit reads.ended κs) where
    pub reads-requires : (reads.clauses 𝓛 mem run κs a).requires tt ≡ ⊤ₛ
    reads-requires = refl

    pub reads-ensures : (reads.clauses 𝓛 mem run κs a).ensures tt r z
        ≡ ⌜ ReadsList a.0.now a.1.0.now a.1.1.0.now r z.1.0.now z.1.1.0.now ⌝
    reads-ensures = refl

  -- splicer_7_write_streams(words, kept, out)
  module _ (κs : Lfts 3) (a : Args writes.signature κs) (r : Res writes.signature κs) (z : AtExit writes.ended κs) where
    pub writes-requires : (writes.clauses 𝓛 mem run κs a).requires tt ≡ ⊤ₛ
    writes-requires = refl

    pub writes-ensures : (writes.clauses 𝓛 mem run κs a).ensures tt r z
        ≡ ⌜ WritesList a.0.now a.1.0.now a.1.1.0.now r z.1.1.0.now ⌝
    writes-ensures = refl

  -- splicer_7_version()
  module _ (κs : Lfts 0) (a : Args versioned.signature κs) (r : Res versioned.signature κs) (z : AtExit versioned.ended κs) where
    pub version-requires : (versioned.clauses 𝓛 mem run κs a).requires tt ≡ ⊤ₛ
    version-requires = refl

    pub version-ensures : (versioned.clauses 𝓛 mem run κs a).ensures tt r z ≡ ⌜ r ≡ version ⌝
    version-ensures = refl

-- ## Typed is what the parameters' types say, and no more
-- A slice's type says beside it that it has room in memory, which Typed does not ask; a buffer may be any.

-- a name is a &[u8; 32]
pub name_typed : (κs : Lfts 4) (name : Bor (List ℕ))
    → Same (Holds (kind fresh.signature κs 0) name) ((length name.now ≡ 32) × All Byte name.now)
name_typed κs = name-held κs.0

pub open-typed : (κs : Lfts 3) (conn : ℕ) → Same (Holds (kind opening.signature κs 2) conn) (Typed (an_open conn))
open-typed κs conn = number-held conn

module _ (κs : Lfts 4) (e : List ℕ) where
  pub close-typed : (conn : ℕ) → Same (Holds (kind close.signature κs 2) conn) (Typed (a_close conn e))
  close-typed conn = number-held conn

  pub tick-typed : (seconds micros : ℕ)
      → Same (Holds (kind tick.signature κs 2) seconds × Holds (kind tick.signature κs 3) micros) (Typed (a_tick seconds micros e))
  tick-typed seconds micros = both (number-held seconds) (number-held micros)

module _ (κs : Lfts 6) (e : List ℕ) where
  pub message-typed : (conn : ℕ) (l pm im : Bor (List ℕ))
      → Same (Holds (kind message.signature κs 2) conn × Holds (kind message.signature κs 3) l
      × Holds (kind message.signature κs 4) pm × Holds (kind message.signature κs 5) im)
      (Typed (a_message conn l.now pm.now im.now e) × InRoom l.now × InRoom pm.now × InRoom im.now)
  message-typed conn l pm im =
      let n = number-held conn in
      let b = bytes-held κs.1.1.0 l in
      let p = bytes-held κs.1.1.1.0 pm in
      let i = bytes-held κs.1.1.1.0 im in (
        (λ h. ((n.0 h.0, (b.0 h.1).0, (p.0 h.2).0, (i.0 h.3).0), (b.0 h.1).1, (p.0 h.2).1, (i.0 h.3).1)),
        (λ t. (n.1 t.0.0, b.1 (t.0.1, t.1), p.1 (t.0.2, t.2), i.1 (t.0.3, t.3))),
      )

  -- what is given with a section is a &[u32; 4]
  pub cue-typed : (section given : Bor (List ℕ))
      → Same (Holds (kind cue.signature κs 2) section × Holds (kind cue.signature κs 3) given)
      (Typed (a_cue section.now given.now e) × InRoom section.now)
  cue-typed section given =
      let b = bytes-held κs.1.1.0 section in
      let g = words-held κs.1.1.1.0 4 given in (
        (λ h. (((b.0 h.0).0, (g.0 h.1).0, (g.0 h.1).1), (b.0 h.0).1)),
        (λ t. (b.1 (t.0.0, t.1), g.1 (t.0.1, t.0.2))),
      )

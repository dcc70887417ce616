-- The contracts in engine/src/lib.rt, as the toolchain reads them, are `Allowed` of specs/Trace, and the parameters' types are `Typed`.
-- The contracts by computing, so each is implied by the other: whoever edits one side alone is refused here. a: what a call is handed,
-- z: what the lent memory is at its end, r: what it returns.
use mathlib.Core.Path.{◌≡◌, refl}
use mathlib.Core.List.{List, []}
use Prim.Native.Nat.{ℕ}
use lib.ListN.{length}
use base.Logic.{SProp}
use seplogic.Ra.Ura.{Ura}
use types.Logic.{Logic}
use prog.Memory as store
use prog.Routine.{Routine}
use contract.Lifetimes.{Lfts}
use contract.Monad.{Fun}
use contract.Notation.{Connectives, connectives}
use denote.Ref.{Bor}
use denote.Triple.Clauses.{AtExit}
use denote.Triple.Entry.{Args, Res}
use Rattle.rules.specs.State.{Splicer}
use Rattle.rules.specs.Calls as rules
use Rattle.rules.specs.Calls.{call}
use Rattle.memory.specs.Memory.{see}
use Rattle.engine.specs.Lent.{Answer}
use Rattle.engine.specs.Lent.{Answers, needed, Counts, Primary, ReadsMux, ReadsFeed, ReadsAir, ReadsDue, ReadsSessions}
use Rattle.engine.proofs.Held.{kind, Holds, Same, both, number-held, name-held, InRoom, bytes-held}
use Rattle.engine.specs.contracts.fresh as fresh
use Rattle.engine.specs.contracts.«open» as opening
use Rattle.engine.specs.contracts.close as close
use Rattle.engine.specs.contracts.message as message
use Rattle.engine.specs.contracts.map_on_air as mapping
use Rattle.engine.proofs.Maps.{one_map}
use Rattle.engine.specs.contracts.tick as tick
use Rattle.engine.specs.contracts.bring_to as bringing
use Rattle.engine.specs.contracts.cue as cue
use Rattle.engine.specs.contracts.waiting as waiting
use Rattle.engine.specs.contracts.primary as primary
use Rattle.engine.specs.contracts.mux as mux
use Rattle.engine.specs.contracts.on_air as airing
use Rattle.engine.specs.contracts.air as reading-air
use Rattle.engine.specs.contracts.due as reading-due
use Rattle.engine.specs.contracts.sessions as listing
use Rattle.demands_engine.specs.Trace.{Memory, shown, Input, an_open, a_close, a_message, a_tick, a_move, a_cue, Typed, call_of, buffer_of}
use Rattle.demands_engine.specs.Trace.{Allowed}
use Rattle.demands_engine.specs.Trace.{Result, Run}
use Rattle.demands_engine.proofs.Course.{LentAt}
use Rattle.demands_engine.proofs.Answerable.{runs}

-- the memory that a call is handed
abbrev at : (m b : List ℕ) → Memory
at m b = record { words = m; bytes = b }

-- what comes back
abbrev ended : Answer → (m b o : List ℕ) → Result
ended r m b o = record { answer = r; memory = at m b; buffer = o }

module _ {M : Type 1} {𝓤 : Ura M} (𝓛 : Logic 𝓤) (mem : store.Memory → SProp 𝓤) (run : Routine → Fun 𝓤) where
  abbrev 𝓝 : Connectives 𝓤
  𝓝 = connectives 𝓤

  open 𝓝 use {⌜◌⌝, ◌∗◌, ⊤ₛ}

  -- fresh(name, m, b)
  module _ (κs : Lfts 3) (a : Args fresh.signature κs) (r : Res fresh.signature κs) (z : AtExit fresh.ended κs) where
    pub fresh-requires : (fresh.clauses 𝓛 mem run κs a).requires tt ≡ ⊤ₛ
    fresh-requires = refl

    pub fresh-ensures : (fresh.clauses 𝓛 mem run κs a).ensures tt r z
        ≡ ⌜ Answers (rules.fresh a.0.now) 0 [] r z.1.0.now z.1.1.0.now [] ⌝
    fresh-ensures = refl

  -- open(m, b, conn)
  module _ (κs : Lfts 2) (a : Args opening.signature κs) (r : Res opening.signature κs) (z : AtExit opening.ended κs) where
    abbrev open_at : Memory
    open_at = at a.0.now a.1.0.now

    pub open-requires : (opening.clauses 𝓛 mem run κs a).requires tt ≡ ⌜ LentAt open_at ⌝
    open-requires = refl

    pub open-ensures : (opening.clauses 𝓛 mem run κs a).ensures tt r z
        ≡ ⌜ Allowed open_at (an_open a.1.1.0) (ended r z.0.now z.1.0.now []) ⌝
    open-ensures = refl

  -- close(m, b, conn, out)
  module _ (κs : Lfts 3) (a : Args close.signature κs) (r : Res close.signature κs) (z : AtExit close.ended κs) where
    abbrev close_at : Memory
    close_at = at a.0.now a.1.0.now

    pub close-requires : (close.clauses 𝓛 mem run κs a).requires tt ≡ ⌜ LentAt close_at ⌝
    close-requires = refl

    pub close-ensures : (close.clauses 𝓛 mem run κs a).ensures tt r z
        ≡ ⌜ Allowed close_at (a_close a.1.1.0 a.1.1.1.0.now) (ended r z.0.now z.1.0.now z.1.1.1.0.now) ⌝
    close-ensures = refl

  -- message(m, b, conn, l, section, out): the one section that `map_on_air` gives stands for both (`one_map` of engine's Maps)
  module _ (κs : Lfts 5) (a : Args message.signature κs) (r : Res message.signature κs) (z : AtExit message.ended κs) where
    abbrev message-at : Memory
    message-at = at a.0.now a.1.0.now

    pub message-requires : (message.clauses 𝓛 mem run κs a).requires tt ≡ ⌜ LentAt message-at ⌝
    message-requires = refl

    pub message-ensures : (message.clauses 𝓛 mem run κs a).ensures tt r z
        ≡ ⌜ Allowed message-at (a_message a.1.1.0 a.1.1.1.0.now a.1.1.1.1.0.now a.1.1.1.1.0.now
        a.1.1.1.1.1.0.now)
        (ended r z.0.now z.1.0.now z.1.1.1.1.1.0.now) ⌝
    message-ensures = refl

  -- map_on_air(m, primary, insertion)
  module _ (κs : Lfts 2) (a : Args mapping.signature κs) (r : Res mapping.signature κs) (z : AtExit mapping.ended κs) where
    pub map-ensures : (mapping.clauses 𝓛 mem run κs a).ensures tt r z
        ≡ ⌜ r ≡ needed (length a.1.0.now) (length a.1.1.0.now) (length (see a.0.now).queue.started)
        a.1.0 a.1.1.0 ⌝
    map-ensures = refl

  -- tick(m, b, seconds, micros, out)
  module _ (κs : Lfts 3) (a : Args tick.signature κs) (r : Res tick.signature κs) (z : AtExit tick.ended κs) where
    abbrev tick-at : Memory
    tick-at = at a.0.now a.1.0.now

    pub tick-requires : (tick.clauses 𝓛 mem run κs a).requires tt ≡ ⌜ LentAt tick-at ⌝
    tick-requires = refl

    pub tick-ensures : (tick.clauses 𝓛 mem run κs a).ensures tt r z
        ≡ ⌜ Allowed tick-at (a_tick a.1.1.0 a.1.1.1.0 a.1.1.1.1.0.now)
        (ended r z.0.now z.1.0.now z.1.1.1.1.0.now) ⌝
    tick-ensures = refl

  -- bring_to(m, b, until, out): what it requires beside Lent is Typed of its input
  module _ (κs : Lfts 3) (a : Args bringing.signature κs) (r : Res bringing.signature κs) (z : AtExit bringing.ended κs) where
    abbrev move_at : Memory
    move_at = at a.0.now a.1.0.now

    pub move-requires : (bringing.clauses 𝓛 mem run κs a).requires tt
        ≡ ⌜ LentAt move_at ⌝ ∗ ⌜ Typed (a_move a.1.1.0.0 a.1.1.1.0.now) ⌝
    move-requires = refl

    pub move-ensures : (bringing.clauses 𝓛 mem run κs a).ensures tt r z
        ≡ ⌜ Allowed move_at (a_move a.1.1.0.0 a.1.1.1.0.now) (ended r z.0.now z.1.0.now z.1.1.1.0.now) ⌝
    move-ensures = refl

  -- cue(m, b, section, at, out): the words and the bytes are lent to be read, so they are after it what they were
  module _ (κs : Lfts 4) (a : Args cue.signature κs) (r : Res cue.signature κs) (z : AtExit cue.ended κs) where
    abbrev cue-at : Memory
    cue-at = at a.0.now a.1.0.now

    pub cue-requires : (cue.clauses 𝓛 mem run κs a).requires tt ≡ ⌜ LentAt cue-at ⌝
    cue-requires = refl

    pub cue-ensures : (cue.clauses 𝓛 mem run κs a).ensures tt r z
        ≡ ⌜ Allowed cue-at (a_cue a.1.1.0.now a.1.1.1.0.pts a.1.1.1.0.seconds a.1.1.1.0.micros
        a.1.1.1.1.0.now)
        (ended r a.0.now a.1.0.now z.1.1.1.1.0.now) ⌝
    cue-ensures = refl

  -- waiting(m, b)
  module _ (κs : Lfts 2) (a : Args waiting.signature κs) (r : Res waiting.signature κs) (z : AtExit waiting.ended κs) where
    pub waiting-requires : (waiting.clauses 𝓛 mem run κs a).requires tt ≡ ⌜ LentAt (at a.0.now a.1.0.now) ⌝
    waiting-requires = refl

    pub waiting-ensures : (waiting.clauses 𝓛 mem run κs a).ensures tt r z ≡ ⌜ Counts a.0.now a.1.0.now r ⌝
    waiting-ensures = refl

  -- primary(m, b)
  module _ (κs : Lfts 2) (a : Args primary.signature κs) (r : Res primary.signature κs) (z : AtExit primary.ended κs) where
    pub primary-requires : (primary.clauses 𝓛 mem run κs a).requires tt ≡ ⌜ LentAt (at a.0.now a.1.0.now) ⌝
    primary-requires = refl

    pub primary-ensures : (primary.clauses 𝓛 mem run κs a).ensures tt r z ≡ ⌜ Primary a.0.now a.1.0.now r.0 ⌝
    primary-ensures = refl

  -- mux(m, b)
  module _ (κs : Lfts 2) (a : Args mux.signature κs) (r : Res mux.signature κs) (z : AtExit mux.ended κs) where
    pub mux-requires : (mux.clauses 𝓛 mem run κs a).requires tt ≡ ⌜ LentAt (at a.0.now a.1.0.now) ⌝
    mux-requires = refl

    pub mux-ensures : (mux.clauses 𝓛 mem run κs a).ensures tt r z ≡ ⌜ ReadsMux a.0.now a.1.0.now r ⌝
    mux-ensures = refl

  -- on_air(m, b)
  module _ (κs : Lfts 2) (a : Args airing.signature κs) (r : Res airing.signature κs) (z : AtExit airing.ended κs) where
    pub airing-requires : (airing.clauses 𝓛 mem run κs a).requires tt ≡ ⌜ LentAt (at a.0.now a.1.0.now) ⌝
    airing-requires = refl

    pub airing-ensures : (airing.clauses 𝓛 mem run κs a).ensures tt r z ≡ ⌜ ReadsFeed a.0.now a.1.0.now r ⌝
    airing-ensures = refl

  -- air(m, b)
  module _ (κs : Lfts 2) (a : Args reading-air.signature κs) (r : Res reading-air.signature κs) (z : AtExit reading-air.ended κs) where
    pub air-requires : (reading-air.clauses 𝓛 mem run κs a).requires tt ≡ ⌜ LentAt (at a.0.now a.1.0.now) ⌝
    air-requires = refl

    pub air-ensures : (reading-air.clauses 𝓛 mem run κs a).ensures tt r z ≡ ⌜ ReadsAir a.0.now a.1.0.now r ⌝
    air-ensures = refl

  -- due(m, b)
  module _ (κs : Lfts 2) (a : Args reading-due.signature κs) (r : Res reading-due.signature κs) (z : AtExit reading-due.ended κs) where
    pub due-requires : (reading-due.clauses 𝓛 mem run κs a).requires tt ≡ ⌜ LentAt (at a.0.now a.1.0.now) ⌝
    due-requires = refl

    pub due-ensures : (reading-due.clauses 𝓛 mem run κs a).ensures tt r z ≡ ⌜ ReadsDue a.0.now a.1.0.now r ⌝
    due-ensures = refl

  -- sessions(m, b, rows): the memory is only read
  module _ (κs : Lfts 3) (a : Args listing.signature κs) (r : Res listing.signature κs) (z : AtExit listing.ended κs) where
    pub sessions-requires : (listing.clauses 𝓛 mem run κs a).requires tt ≡ ⌜ LentAt (at a.0.now a.1.0.now) ⌝
    sessions-requires = refl

    pub sessions-ensures : (listing.clauses 𝓛 mem run κs a).ensures tt r z
        ≡ ⌜ ReadsSessions a.0.now a.1.0.now a.1.1.0.now r z.1.1.0.now ⌝
    sessions-ensures = refl

-- ## What Allowed says is of the call `call_of`

pub called : (m : Memory) (i : Input) (r : Result)
    → Allowed m i r ≡ Answers (call (call_of i) (shown m)) (see m.words).ring_end (buffer_of i) r.answer r.memory.words
    r.memory.bytes r.buffer
unfolding call
called m (an_open conn) r = refl
called m (a_close conn e) r = refl
called m (a_message conn l pm im e) r = refl
called m (a_tick seconds micros e) r = refl
called m (a_move until e) r = refl
called m (a_cue l pts seconds micros e) r = refl

-- ## Typed is what the parameters' types say, and no more; of bring_to it is what it requires (move-requires)
-- A slice's type says beside it that it has room in memory, which Typed does not ask; a buffer may be any.

-- a trace asks of a name what its type says: 32 bytes
pub name_typed : (κs : Lfts 3) (name : Bor (List ℕ)) → Same (Holds (kind fresh.signature κs 0) name) (Run name.now [])
name_typed κs name =
    let n = name-held κs.0 name in
    ((λ h. runs name.now (n.0 h).0 (n.0 h).1 [] tt), λ t. n.1 (t.trace.whole, t.trace.bytes))

pub open-typed : (κs : Lfts 2) (conn : ℕ) → Same (Holds (kind opening.signature κs 2) conn) (Typed (an_open conn))
open-typed κs conn = number-held conn

module _ (κs : Lfts 3) (e : List ℕ) where
  pub close-typed : (conn : ℕ) → Same (Holds (kind close.signature κs 2) conn) (Typed (a_close conn e))
  close-typed conn = number-held conn

  pub tick-typed : (seconds micros : ℕ)
      → Same (Holds (kind tick.signature κs 2) seconds × Holds (kind tick.signature κs 3) micros) (Typed (a_tick seconds micros e))
  tick-typed seconds micros = both (number-held seconds) (number-held micros)

pub message-typed : (κs : Lfts 5) (conn : ℕ) (l pm : Bor (List ℕ)) (e : List ℕ)
    → Same (Holds (kind message.signature κs 2) conn × Holds (kind message.signature κs 3) l × Holds (kind message.signature κs 4) pm)
    (Typed (a_message conn l.now pm.now pm.now e) × InRoom l.now × InRoom pm.now)
message-typed κs conn l pm e =
    let n = number-held conn in
    let b = bytes-held κs.1.1.0 l in
    let p = bytes-held κs.1.1.1.0 pm in (
      (λ h. ((n.0 h.0, (b.0 h.1).0, (p.0 h.2).0, (p.0 h.2).0), (b.0 h.1).1, (p.0 h.2).1)),
      (λ t. (n.1 t.0.0, b.1 (t.0.1, t.1), p.1 (t.0.2, t.2))),
    )

-- 02, CR 6: a message with both sections is, of any splicer, the one with what `map_on_air` gives of them
abbrev one : (p q : List ℕ) → Splicer → List ℕ
one p q s = needed (length p) (length q) (length s.queue.started) p q

pub message-of-both : (c : ℕ) (l p q e : List ℕ) (s : Splicer)
    → call (call_of (a_message c l p q e)) s ≡ call (call_of (a_message c l (one p q s) (one p q s) e)) s
unfolding call
message-of-both c l p q e s = one_map c (length e) l p q s refl

-- 02, CR 7: what is given with a section is a struct of a u64 and two u32
pub cue-typed : (κs : Lfts 4) (section : Bor (List ℕ)) (pts seconds micros : ℕ) (e : List ℕ)
    → Same (Holds (kind cue.signature κs 2) section
    × Holds (kind cue.signature κs 3) (record { pts = pts; seconds = seconds; micros = micros }))
    (Typed (a_cue section.now pts seconds micros e) × InRoom section.now)
cue-typed κs section pts seconds micros e =
    let b = bytes-held κs.1.1.0 section in (
      (λ h. let g = h.1.1.1.1 in (((b.0 h.0).0, g.0.1, g.1.0.1, g.1.1.0.1), (b.0 h.0).1)),
      (λ t. (b.1 (t.0.0, t.1), (_, (_, (refl, ((refl, t.0.1), ((refl, t.0.2), ((refl, t.0.3), tt)))))))),
    )
